-- What a table tells of an entry's effect on the files is what the log tells.
use Rattle.std.proofs.Common.{◌≡◌, ◌∙◌, refl, sym, ap, subst, ℕ, Bool, true, false, true≢false, Option, Some, None, slice_get}
use Rattle.std.specs.Prelude.{◌==◌}
use Rattle.std.specs.List.{list_any}
use Rattle.log_codec.specs.declared.entry.Body.{Body}
use Rattle.log_codec.specs.declared.entry.Body.TheVariants as body
use Rattle.log_codec.specs.declared.entry.Entry.{Entry}
use Rattle.committed_log.specs.declared.region.Region.{Region}
use Rattle.committed_log.specs.declared.region.Region.TheVariants.{Unborn, Live, Prepared, Gone}
use Rattle.committed_log.specs.Applied.{acts_at, applied, IsClosed, is_ready}
use Rattle.committed_log.specs.Lawful.{IsLawful}
use Rattle.committed_log.specs.Log.{Log, at}
use Rattle.committed_log.specs.Regions.{region, range_of, acts_on, also_acted, makes_region}
use Rattle.committed_log.specs.Store.{Store, clearing_of}
use Rattle.committed_log.proofs.Closed.{same_is}
use Rattle.committed_log.proofs.Entries.{head_next}
use Rattle.committed_log.proofs.Faults.{IsFine, or_first}
use Rattle.committed_log.proofs.Ranks.{of_unborn, no_entry}
use Rattle.good_replica.specs.Effect.{added, clearing}
use Rattle.raft_apply.specs.Entries.{command_of, changes}
use Rattle.region_table.specs.Effects.{adds_of, clears_of, range_kept, versions_kept}
use Rattle.region_table.specs.Steps.{Keeps}
use Rattle.region_table.specs.Table.{kept_at}
use Rattle.region_table.proofs.Around.{kept_from, kept_of, kept_before}
use Rattle.region_table.proofs.Families.{written, installed}
use Rattle.region_steps.proofs.Changing.{nothing_added}
use Rattle.region_steps.specs.Steps.{HasNoOps}
use Rattle.flash_types.specs.declared.range.HandleRange.{HandleRange}

range_is : (s : Store) (r : Region) → range_kept (kept_from s r) ≡ range_of r
range_is s Unborn = refl
range_is s (Live d) = refl
range_is s (Prepared d target) = refl
range_is s (Gone index) = refl

module _ (log : Log) (lawful : IsLawful log) (A : ℕ → Bool) (closed : IsClosed log A) (p : ℕ) (e : Entry) (here : slice_get log.entries p ≡ Some e) (ready : is_ready log A p ≡ true)
    (f : Keeps) (keeps : (r : ℕ) → f r ≡ kept_at log r (applied log A r)) where
  acts : acts_at log e.region p ≡ true
  acts = ap (λ o. elim o [ None ↦ false | Some x ↦ acts_on e.region x ]) here ∙ or_first (e.region == e.region) (list_any (λ acted. acted == e.region) (also_acted e.body)) (same_is e.region)

  own : f e.region ≡ kept_of (at log p) e.region
  own = keeps e.region ∙ kept_before log lawful e.region A closed p ready acts

  abbrev there : Option HandleRange
  there = range_of (region (at log p).regions e.region)

  clears : (b : Body) → clears_of (f e.region) (command_of log p b) ≡ clearing_of there b
  clears body.Remove = ap range_kept own ∙ range_is (at log p) (region (at log p).regions e.region)
  clears (body.Install conf_ver version low high ops) = refl
  clears (body.Open conf_ver version low high) = refl
  clears (body.Write ops) = refl
  clears (body.Split middle child) = refl
  clears (body.Prepare target) = refl
  clears (body.Commit source) = refl
  clears body.Empty = refl

  pub clears_is : clears_of (f e.region) (command_of log p e.body) ≡ clearing log p
  clears_is = clears e.body ∙ sym (ap (λ o. elim o [ None ↦ None | Some x ↦ clearing_of (range_of (region (at log p).regions x.region)) x.body ]) here)

  fine : IsFine p (at log p).regions e
  fine = head_next log p e here lawful

  adds : (b : Body) → e.body ≡ b → adds_of log.schema (f e.region) e.index (command_of log p b) ≡ added log p
  adds (body.Write ops) is = ap (λ o. versions_kept log.schema o (changes log p ops)) own ∙ by (region (at log p).regions e.region) refl
    where
      by : (st : Region) → region (at log p).regions e.region ≡ st → versions_kept log.schema (kept_from (at log p) st) (changes log p ops) ≡ added log p
      by (Live d) live = (written log lawful p e here d live ops is).2
      by Unborn unborn = absurd (true≢false (sym (of_unborn p (at log p).regions e fine unborn) ∙ ap makes_region is))
      by (Prepared d target) there = absurd (no_entry p (at log p).regions e fine (Prepared d target) there refl refl)
      by (Gone last) there = absurd (no_entry p (at log p).regions e fine (Gone last) there refl refl)
  adds (body.Install conf_ver version low high ops) is = (installed log lawful p e here conf_ver version low high ops is).2
  adds (body.Open conf_ver version low high) is = sym (nothing_added log p e here (subst HasNoOps (sym is) tt))
  adds (body.Split middle child) is = sym (nothing_added log p e here (subst HasNoOps (sym is) tt))
  adds (body.Prepare target) is = sym (nothing_added log p e here (subst HasNoOps (sym is) tt))
  adds (body.Commit source) is = sym (nothing_added log p e here (subst HasNoOps (sym is) tt))
  adds body.Remove is = sym (nothing_added log p e here (subst HasNoOps (sym is) tt))
  adds body.Empty is = sym (nothing_added log p e here (subst HasNoOps (sym is) tt))

  pub adds_is : adds_of log.schema (f e.region) e.index (command_of log p e.body) ≡ added log p
  adds_is = adds e.body refl
