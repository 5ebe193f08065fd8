-- What is read of a good state, and what its works read.
use Rattle.std.proofs.Common.{◌≡◌, ◌∙◌, ℕ, zero, suc, List, [], ◌∷◌, Option, Some, None, length, map, take, drop, Result, Ok, refl, sym, ap, subst, arith}
use Rattle.std.specs.Prelude.{◌==◌, IsErrOf, option_map, position, unwrap_or}
use Rattle.std.specs.List.{AllByRecursion}
use Rattle.column_block.specs.declared.cell.Version.{Version}
use Rattle.flash_list.specs.Steps.{◌>>=◌}
use Rattle.flash_types.specs.Asks.{Asked}
use Rattle.committed_log.specs.Lawful.{IsLawful}
use Rattle.good_replica.specs.Changed.{of_parts}
use Rattle.good_replica.specs.Good.{AreGood}
use Rattle.pack_codec.specs.declared.fault.FormError.{FormError}
use Rattle.prefix_laws.specs.Tagged.{content, files_at}
use Rattle.prefix_laws.proofs.Tagging.{all_by}
use Rattle.delta_layer.specs.Files.{files_of}
use Rattle.delta_layer.specs.declared.built.BuildError.{BuildError}
use Rattle.delta_layer.specs.declared.built.BuildError.TheVariants.{Damaged}
use Rattle.delta_layer.specs.declared.built.Built.{Built}
use Rattle.delta_layer.specs.declared.built.Job.{Job}
use Rattle.delta_layer.specs.declared.built.Job.TheVariants.{Compact, MergeDelta, Split, Merge}
use Rattle.delta_layer.specs.declared.view.SegmentView.{SegmentView}
use Rattle.learner_read.specs.declared.snapshot.Snapshot.{Snapshot}
use Rattle.segment_list.specs.Laws.{told_by}
use Rattle.segment_list.specs.Order.{IsSlot}
use Rattle.segment_list.specs.Slots.{Slotted, tagged, tags_of, view_of}
use Rattle.segment_snapshot.specs.Rights.{AreReadable, IsRightScan, stable_of, whole}
use Rattle.segment_snapshot.proofs.Rightness.{right}
use Rattle.segment_work.specs.Begun.{segments_for}
use Rattle.segment_work.specs.Jobs.{segment_of, slots_from}
use Rattle.segment_work.specs.Outcomes.{FailsAsRead, read_for, stables_in}
use Rattle.replica_state.specs.Asks.{IsReadOf}
use Rattle.replica_state.specs.Core.{Core, IsCore, full}
use Rattle.replica_state.specs.Works.{task_of}
use Rattle.good_state.specs.Good.{IsGoodState}
use Rattle.good_state.specs.Views.{AreViewsReadable}
use Rattle.good_state.proofs.Applying.{named_by, upper}
use Rattle.good_state.proofs.Flushing.{all_said}

module _ {G : Type 0} (bytes : G → List ℕ) where
  -- by the last count all files of a segment had come
  whole_at : (committed last : ℕ) (slots : List (Slotted G)) → AllByRecursion (IsSlot committed last) slots → map (content last) (map (told_by (stable_of bytes)) slots) ≡ map (whole bytes) slots
  whole_at committed last [] all = refl
  whole_at committed last (s ∷ ss) all = λ i. of_parts s.range (stable_of bytes s.stable) (files i) ∷ whole_at committed last ss all.1 i
    where
      files : files_at last (tagged (tags_of s) s.files) ≡ files_of s.files
      files = all_by last last (tagged (tags_of s) s.files) (named_by last s.named s.tags s.files (upper committed last s.tags all.0.tags)) (omega arith) ∙ all_said s all.0.tagged

  pub right_read : (s : Core G) (ask : Asked) (snapshot : Snapshot G) → IsCore s → IsLawful s.log → IsGoodState bytes s → IsReadOf s ask snapshot → IsRightScan bytes s.log (full s) ask snapshot
  right_read s ask snapshot is lawful good it =
      right bytes s.log lawful (full s) is.sets.table.closed s.numbers.mark s.numbers.safe_point s.slots good.readable
      (subst (AreGood s.log (full s) s.numbers.mark s.numbers.safe_point) (whole_at s.committed (length s.listed) s.slots is.slots.order) good.memory)
      ask it.granted snapshot.cuts it.cuts s.count s.numbers.generation s.settings.pack_rows snapshot it.is

  -- ---- works

  some_read : (n : ℕ) (slots : List (Slotted G)) → AreReadable bytes slots → AreReadable bytes (take n slots)
  some_read zero slots all = tt
  some_read (suc n) [] all = tt
  some_read (suc n) (s ∷ ss) all = (all.0, some_read n ss all.1)

  later_read : (n : ℕ) (slots : List (Slotted G)) → AreReadable bytes slots → AreReadable bytes (drop n slots)
  later_read zero slots all = all
  later_read (suc n) [] all = tt
  later_read (suc n) (s ∷ ss) all = later_read n ss all.1

  found_read : (slots : List (Slotted G)) (place : Option ℕ) → AreReadable bytes slots → AreReadable bytes (unwrap_or (option_map (λ (n : ℕ). drop n slots) place) [])
  found_read slots None all = tt
  found_read slots (Some n) all = later_read n slots all

  views_read : (slots : List (Slotted G)) → AreReadable bytes slots → AreViewsReadable bytes (map view_of slots)
  views_read [] all = tt
  views_read (s ∷ ss) all = (all.0, views_read ss all.1)

  pub work_reads : (job : Job) (s : Core G) → IsGoodState bytes s → AreViewsReadable bytes (task_of job s).work.views
  work_reads job s good =
      views_read (take (segments_for job) (slots_from (segment_of job) s.slots))
      (some_read (segments_for job) (slots_from (segment_of job) s.slots)
      (found_read s.slots (position (λ (t : Slotted G). t.id == segment_of job) s.slots) good.readable))

  -- ---- where all read nothing is damaged

  all_ok : (views : List (SegmentView G)) → AreViewsReadable bytes views → stables_in bytes views ≡ Ok []
  all_ok [] all = refl
  all_ok (view ∷ more) all = ap (λ (read : Result (List Version) FormError). read >>= λ versions. stables_in bytes more) all.0.1 ∙ all_ok more all.1

  for_ok : (job : Job) (views : List (SegmentView G)) → AreViewsReadable bytes views → stables_in bytes (read_for job views) ≡ Ok []
  for_ok (Compact seg) views all = refl
  for_ok (MergeDelta seg) views all = all_ok views all
  for_ok (Split seg) views all = all_ok views all
  for_ok (Merge seg) views all = all_ok views all

  pub no_damage : (job : Job) (views : List (SegmentView G)) → AreViewsReadable bytes views → (result : Result (Built G) BuildError) → FailsAsRead bytes (read_for job views) result → (at : ℕ) → IsErrOf result (Damaged at) → ⊥
  no_damage job views all result fails at damaged = cc (sym (for_ok job views all) ∙ fails at damaged)
