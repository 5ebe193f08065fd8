-- What the build of a work answers.
use Rattle.std.specs.Prelude.{◌≡◌, ◌<◌, ℕ, true, List, [], ◌∷◌, length, Result, Ok, Err, IfOk, IsErrOf}
use Rattle.flash_list.specs.Steps.{◌>>=◌}
use Rattle.column_block.specs.declared.cell.Version.{Version}
use Rattle.column_block.specs.declared.column.Column.{Column}
use Rattle.pack_codec.specs.declared.fault.FormError.{FormError}
use Rattle.pack_codec.specs.declared.fault.FormError.TheVariants as form
use Rattle.delta_layer.specs.Built.{HasBuildCause, IsOne}
use Rattle.delta_layer.specs.Stable.{stable_in}
use Rattle.delta_layer.specs.declared.built.Built.{Built}
use Rattle.delta_layer.specs.declared.built.BuildError.{BuildError}
use Rattle.delta_layer.specs.declared.built.BuildError.TheVariants.{Device, Damaged, OneHandle, Memory}
use Rattle.delta_layer.specs.declared.built.Job.{Job}
use Rattle.delta_layer.specs.declared.built.Job.TheVariants.{Compact, MergeDelta, Split, Merge}
use Rattle.delta_layer.specs.declared.view.SegmentView.{SegmentView}
use Rattle.segment_laws.specs.Jobs.{IsBuilt}
use Rattle.segment_split.specs.Halves.{PresentAre, handles}
use Rattle.segment_work.specs.Begun.{Begun}
use Rattle.segment_work.specs.Jobs.{is_split}

-- only a delta merge leaves versions out
abbrev pub safe_point_for : Job → ℕ → ℕ
safe_point_for (Compact seg) safe = 0
safe_point_for (MergeDelta seg) safe = safe
safe_point_for (Split seg) safe = 0
safe_point_for (Merge seg) safe = 0

-- It was built of this job and these views.
pub record IsFrom {G : Type 0} (job : Job) (views : List (SegmentView G)) (safe : ℕ) (built : Built G) : Type 0 where
  pub job_is : built.job ≡ job
  pub views_are : built.views ≡ views
  pub safe_point_is : built.safe_point ≡ safe_point_for job safe

-- ---- damage

-- a compaction reads no stable part
abbrev pub read_for : {G : Type 0} → Job → List (SegmentView G) → List (SegmentView G)
read_for (Compact seg) views = []
read_for (MergeDelta seg) views = views
read_for (Split seg) views = views
read_for (Merge seg) views = views

-- the reading of the stable parts of views, one after the other: it fails as that of the first one does that doesn't read
abbrev pub stables_in : {G : Type 0} → (G → List ℕ) → List (SegmentView G) → Result (List Version) FormError
stables_in bytes [] = Ok []
stables_in bytes (view ∷ more) = stable_in bytes view.stable >>= λ versions. stables_in bytes more

-- `Damaged` names the place where the first of these stable parts fails that doesn't read; so it never comes where all of them read.
abbrev pub FailsAsRead : {G T : Type 0} → (G → List ℕ) → List (SegmentView G) → Result T BuildError → Type 0
FailsAsRead bytes views result = (at : ℕ) → IsErrOf result (Damaged at) → stables_in bytes views ≡ Err (form.Damaged at)

-- ---- the handles of a split

-- the versions that are present in the one segment have so many handles
abbrev pub HandlesAre : {G : Type 0} → (G → List ℕ) → (ℕ → Type 0) → List (SegmentView G) → Type 0
HandlesAre {G} bytes Many views = IsOne (λ (view : SegmentView G). PresentAre bytes view (λ (versions : List Version). Many (length (handles versions)))) views

-- A segment that was split has two handles or more, and one that is refused for its handles has fewer.
abbrev pub SplitsByHandles : {G T : Type 0} → (G → List ℕ) → List (SegmentView G) → Result T BuildError → Type 0
SplitsByHandles bytes views (Ok built) = HandlesAre bytes (λ (n : ℕ). 1 < n) views
SplitsByHandles bytes views (Err Device) = Unit {0}
SplitsByHandles bytes views (Err (Damaged at)) = Unit {0}
SplitsByHandles bytes views (Err OneHandle) = HandlesAre bytes (λ (n : ℕ). n < 2) views
SplitsByHandles bytes views (Err Memory) = Unit {0}

-- ---- all of it

-- what the build of a job and its views answers, where the reader's count of faults was and is so high
pub record IsOutcome {G : Type 0} (tells : Type 0) (bytes : G → List ℕ) (columns : List Column) (work : Begun G) (before now : ℕ) (result : Result (Built G) BuildError) : Type 0 where
  pub is : IfOk result (λ (built : Built G). IsBuilt tells bytes columns work.pack_rows built)
  pub from : IfOk result (λ (built : Built G). IsFrom work.job work.views work.safe_point built)
  pub cause : HasBuildCause before now result
  pub damaged : tells → FailsAsRead bytes (read_for work.job work.views) result
  pub split_alone : IsErrOf result OneHandle → is_split work.job ≡ true
  pub handles : tells → is_split work.job ≡ true → SplitsByHandles bytes work.views result
