-- What builds answer is by their jobs.
use Rattle.std.proofs.Common.{◌≡◌, sym, subst, ℕ, ℤ, List, Ok}
use Rattle.column_block.specs.declared.column.Column.{Column}
use Rattle.delta_layer.specs.declared.built.Built.{Built}
use Rattle.delta_layer.specs.declared.built.Job.{Job}
use Rattle.delta_layer.specs.declared.view.SegmentView.{SegmentView}
use Rattle.delta_merge.specs.Merged.{GivesDeltaMerge, IsDeltaMerge}
use Rattle.segment_split.specs.Halves.{GivesSplit, IsCut, IsSplit}
use Rattle.segment_merge.specs.Joined.{GivesMerge, IsMerge, Touch}
use Rattle.segment_laws.specs.Jobs.{IsBuilt, IsBuiltBy, IsCompaction}

module _ {G : Type 0} (tells : Type 0) (bytes : G → List ℕ) (columns : List Column) (rows : ℕ) where
  pub of_compaction : (old : SegmentView G) (built : Built G) → IsCompaction columns old built → IsBuilt tells bytes columns rows built
  of_compaction old built is = subst (λ (job : Job). IsBuiltBy tells bytes columns rows job built) (sym is.job) (record { old = old; is = is })

  pub of_delta_merge : (safe : ℕ) (old : SegmentView G) (built : Built G) → IsDeltaMerge columns rows safe old built → (tells → GivesDeltaMerge bytes safe old (Ok built)) → IsBuilt tells bytes columns rows built
  of_delta_merge safe old built is gives = subst (λ (job : Job). IsBuiltBy tells bytes columns rows job built) (sym is.job) (record {
    old = old;
    is = subst (λ (at : ℕ). IsDeltaMerge columns rows at old built) (sym is.safe_point) is;
    gives = λ t. subst (λ (at : ℕ). GivesDeltaMerge bytes at old (Ok built)) (sym is.safe_point) (gives t);
  })

  pub of_split : (at : ℤ) (old : SegmentView G) (built : Built G) → IsCut old.range at → IsSplit columns rows at old built → (tells → GivesSplit bytes old (Ok built)) → IsBuilt tells bytes columns rows built
  of_split at old built cut is gives = subst (λ (job : Job). IsBuiltBy tells bytes columns rows job built) (sym is.job) (record { old = old; at = at; cut = cut; is = is; gives = gives })

  pub of_merge : (left right : SegmentView G) (built : Built G) → Touch left.range right.range → IsMerge columns rows left right built → (tells → GivesMerge bytes left right (Ok built)) → IsBuilt tells bytes columns rows built
  of_merge left right built touch is gives = subst (λ (job : Job). IsBuiltBy tells bytes columns rows job built) (sym is.job) (record { left = left; right = right; touch = touch; is = is; gives = gives })

  pub of_job : (built : Built G) (job : Job) → built.job ≡ job → IsBuilt tells bytes columns rows built → IsBuiltBy tells bytes columns rows job built
  of_job built job same is = subst (λ (job : Job). IsBuiltBy tells bytes columns rows job built) same is
