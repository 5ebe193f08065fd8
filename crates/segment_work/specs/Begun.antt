-- A work that was begun.
use Rattle.std.specs.Prelude.{◌≡◌, ◌<◌, ℕ, true, List, [], ◌∷◌, map, take}
use Rattle.delta_layer.specs.Built.{AreTwo, IsOne}
use Rattle.delta_layer.specs.declared.built.Job.{Job}
use Rattle.delta_layer.specs.declared.built.Job.TheVariants.{Compact, MergeDelta, Split, Merge}
use Rattle.delta_layer.specs.declared.view.SegmentView.{SegmentView}
use Rattle.segment_list.specs.Slots.{Slotted, view_of}
use Rattle.segment_merge.specs.Joined.{Touch}
use Rattle.segment_work.specs.Jobs.{has_run, segment_of, slots_from}

-- a job, the segments that it needs as they were when it was begun, and what it is built with
pub record Begun (G : Type 0) : Type 0 where
  pub job : Job
  pub views : List (SegmentView G)
  pub safe_point : ℕ
  pub pack_rows : ℕ

-- how many segments a job needs
abbrev pub segments_for : Job → ℕ
segments_for (Compact seg) = 1
segments_for (MergeDelta seg) = 1
segments_for (Split seg) = 1
segments_for (Merge seg) = 2

-- A job that was begun on these slots: it has a view of its slot, and for a merge of the next one too.
abbrev pub begun : {G : Type 0} → Job → ℕ → ℕ → List (Slotted G) → Begun G
begun job safe rows slots = record { job = job; views = map view_of (take (segments_for job) (slots_from (segment_of job) slots)); safe_point = safe; pack_rows = rows }

-- ---- what each work has

-- it is the view of this segment, and has two tiny files side by side
pub record HasRun {G : Type 0} (seg : ℕ) (view : SegmentView G) : Type 0 where
  pub number : view.seg ≡ seg
  pub run : has_run view.delta ≡ true

-- they are the view of this segment, and that of the one that begins where it ends
pub record AreNeighbours {G : Type 0} (seg : ℕ) (left right : SegmentView G) : Type 0 where
  pub number : left.seg ≡ seg
  pub touch : Touch left.range right.range

-- The views are those that the job needs.
abbrev pub AreFor : {G : Type 0} → Job → List (SegmentView G) → Type 0
AreFor (Compact seg) views = IsOne (HasRun seg) views
AreFor {G} (MergeDelta seg) views = IsOne (λ (view : SegmentView G). view.seg ≡ seg) views
AreFor {G} (Split seg) views = IsOne (λ (view : SegmentView G). view.seg ≡ seg) views
AreFor (Merge seg) views = AreTwo (AreNeighbours seg) views

-- It can be built: each pack has a version, and the views are those that the job needs.
pub record IsReady {G : Type 0} (job : Job) (views : List (SegmentView G)) (rows : ℕ) : Type 0 where
  pub rows_are : 0 < rows
  pub views_are : AreFor job views
