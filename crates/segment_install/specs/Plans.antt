-- What an install puts in the place of segments, and when it may be planned.
use Rattle.std.specs.Prelude.{◌≡◌, ◌==◌, ℕ, ◌+◌, ◌-◌, ◌^◌, ◌<◌, ◌≤◌, ℤ, false, Option, Some, None, List, [], ◌∷◌, drop, length, position, slice_get, take, vec_capacity, vec_len}
use Rattle.std.specs.List.{AllByRecursion}
use Rattle.column_file.specs.declared.file.ColumnFile.{ColumnFile}
use Rattle.column_file.specs.declared.file.ColumnFile.TheVariants.{Tiny}
use Rattle.delta_layer.specs.Built.{AreTwo, IsOne}
use Rattle.delta_layer.specs.Files.{is_tiny}
use Rattle.delta_layer.specs.declared.built.Built.{Built}
use Rattle.delta_layer.specs.declared.built.Job.{Job}
use Rattle.delta_layer.specs.declared.built.Job.TheVariants.{Compact, MergeDelta, Split, Merge}
use Rattle.delta_layer.specs.declared.built.Piece.{Piece}
use Rattle.delta_layer.specs.declared.view.SegmentView.{SegmentView}
use Rattle.segment_laws.specs.Runs.{IsFirstRun, run_of}
use Rattle.segment_list.specs.Lists.{CoverAlike, NumbersDiffer, with_slots}
use Rattle.segment_list.specs.Slots.{Slotted, IsTagged}
use Rattle.segment_merge.specs.Joined.{Touch, joined}
use Rattle.segment_split.specs.Halves.{IsCut, lower, upper}
use Rattle.segment_work.specs.Begun.{segments_for}
use Rattle.segment_work.specs.Jobs.{segment_of}
use Rattle.stable_file.specs.declared.file.StableFile.{StableFile}
use Rattle.segment_install.specs.Slots.{Fits, compacted_slot, half_slot, joined_slot, merged_slot}
use Rattle.segment_install.specs.Stale.{FitsIn, first_fault}
use Rattle.segment_install.specs.declared.part.Files.{Files}
use Rattle.segment_install.specs.declared.part.Part.{Part}
use Rattle.segment_install.specs.declared.planned.Install.{Install}

-- ---- numbers

-- How many numbers an install takes: for each piece one for its file, used or not, and then one for each new segment.
abbrev pub numbers_for : Job → ℕ
numbers_for (Compact seg) = 1
numbers_for (MergeDelta seg) = 1
numbers_for (Split seg) = 4
numbers_for (Merge seg) = 2

-- a stable file with its number
abbrev pub part_of : {G : Type 0} → ℕ → Option (StableFile G) → Option (Part G)
part_of number None = None
part_of number (Some file) = Some (record { number = number; file = file })

-- ---- what was built

-- It has one view and one piece, with the versions of the view's first run of tiny files.
pub record IsRunBuilt {G : Type 0} (seg : ℕ) (built : Built G) : Type 0 where
  pub view : SegmentView G
  pub piece : Piece
  pub views : built.views ≡ view ∷ []
  pub pieces : built.pieces ≡ piece ∷ []
  pub number : view.seg ≡ seg
  pub from : ℕ
  pub to : ℕ
  pub run : IsFirstRun view.delta from to
  pub versions : piece.versions ≡ run_of view.delta from to

-- It has one view and one piece of the same range.
pub record IsOneBuilt {G : Type 0} (seg : ℕ) (built : Built G) : Type 0 where
  pub view : SegmentView G
  pub piece : Piece
  pub views : built.views ≡ view ∷ []
  pub pieces : built.pieces ≡ piece ∷ []
  pub number : view.seg ≡ seg
  pub range : piece.range ≡ view.range

-- It has one view, and two pieces that part its range.
pub record AreHalvesBuilt {G : Type 0} (seg : ℕ) (built : Built G) : Type 0 where
  pub view : SegmentView G
  pub low : Piece
  pub high : Piece
  pub views : built.views ≡ view ∷ []
  pub pieces : built.pieces ≡ low ∷ high ∷ []
  pub number : view.seg ≡ seg
  pub at : ℤ
  pub cut : IsCut view.range at
  pub low_range : low.range ≡ lower at view.range
  pub high_range : high.range ≡ upper at view.range

-- It has two views that touch, and one piece of both ranges.
pub record IsBothBuilt {G : Type 0} (seg : ℕ) (built : Built G) : Type 0 where
  pub left : SegmentView G
  pub right : SegmentView G
  pub piece : Piece
  pub views : built.views ≡ left ∷ right ∷ []
  pub pieces : built.pieces ≡ piece ∷ []
  pub number : left.seg ≡ seg
  pub touch : Touch left.range right.range
  pub range : piece.range ≡ joined left.range right.range

-- It has as many views and pieces as its job makes, of the ranges that it makes.
abbrev pub IsBuiltFor : {G : Type 0} → Job → Built G → Type 0
IsBuiltFor (Compact seg) built = IsRunBuilt seg built
IsBuiltFor (MergeDelta seg) built = IsOneBuilt seg built
IsBuiltFor (Split seg) built = AreHalvesBuilt seg built
IsBuiltFor (Merge seg) built = IsBothBuilt seg built

-- ---- the slots that take the place of others

-- A tiny file stands for the first run of them.
pub record IsCompacted {G : Type 0} (first : ℕ) (built : Built G) (old : Slotted G) (news : List (Slotted G)) : Type 0 where
  pub of : IsRunBuilt old.id built
  pub are : news ≡ compacted_slot of.from of.to (Tiny first of.piece.versions) old ∷ []

-- The piece's file stands for the stable part and the files that the view has.
pub record IsMerged {G : Type 0} (first : ℕ) (files : Files G) (built : Built G) (old : Slotted G) (news : List (Slotted G)) : Type 0 where
  pub of : IsOneBuilt old.id built
  pub are : news ≡ merged_slot (length of.view.delta) (part_of first files.low) old ∷ []

-- Two new segments, each with its piece's file and its part of what came since.
pub record AreHalves {G : Type 0} (first : ℕ) (files : Files G) (built : Built G) (old : Slotted G) (news : List (Slotted G)) : Type 0 where
  pub of : AreHalvesBuilt old.id built
  pub are : news ≡ half_slot (first + 2) of.low.range (part_of first files.low) (length of.view.delta) old ∷ half_slot (first + 3) of.high.range (part_of (first + 1) files.high) (length of.view.delta) old ∷ []

-- A new segment with the piece's file and what came to both since.
pub record IsJoined {G : Type 0} (first : ℕ) (files : Files G) (built : Built G) (left right : Slotted G) (news : List (Slotted G)) : Type 0 where
  pub of : IsBothBuilt left.id built
  pub are : news ≡ joined_slot (first + 1) of.piece.range (part_of first files.low) (length of.left.delta) left (length of.right.delta) right ∷ []

-- What takes the place of the slots, by the job, where the numbers from `first` on are free.
abbrev pub AreInstalled : {G : Type 0} → Job → ℕ → Files G → Built G → List (Slotted G) → List (Slotted G) → Type 0
AreInstalled {G} (Compact seg) first files built olds news = IsOne (λ (old : Slotted G). IsCompacted first built old news) olds
AreInstalled {G} (MergeDelta seg) first files built olds news = IsOne (λ (old : Slotted G). IsMerged first files built old news) olds
AreInstalled {G} (Split seg) first files built olds news = IsOne (λ (old : Slotted G). AreHalves first files built old news) olds
AreInstalled {G} (Merge seg) first files built olds news = AreTwo (λ (left right : Slotted G). IsJoined first files built left right news) olds

-- ---- when it may be planned, and what a plan is

-- There is a tag for each file that isn't named, and none of these is a tiny file; its number is below `first`, and its epoch has room to rise.
pub record IsLaid {G : Type 0} (first : ℕ) (s : Slotted G) : Type 0 where
  pub tagged : IsTagged s
  pub behind : AllByRecursion (λ (f : ColumnFile). is_tiny f ≡ false) (drop s.named s.files)
  pub number : s.id < first
  pub epoch : s.epoch < 2 ^ 64 - 1

-- What was built is what its job makes, its segments are as they were but for files that came since, and the numbers from `first` on are free.
pub record CanInstall {G : Type 0} (first : ℕ) (built : Built G) (slots : List (Slotted G)) : Type 0 where
  pub built_is : IsBuiltFor built.job built
  pub fresh : first_fault slots built.views ≡ None
  pub fit : AllByRecursion (FitsIn slots) built.views
  pub laid : AllByRecursion (IsLaid first) slots
  pub free : first + numbers_for built.job < 2 ^ 32

-- The same of the slots from a place on, where the first view is of the slot there and the second one of the next.
pub record CanInstallAt {G : Type 0} (first place : ℕ) (built : Built G) (slots : List (Slotted G)) : Type 0 where
  pub built_is : IsBuiltFor built.job built
  pub within : place + segments_for built.job ≤ length slots
  pub number : (s : Slotted G) → slice_get slots place ≡ Some s → s.id ≡ segment_of built.job
  pub fit : (k : ℕ) (v : SegmentView G) (s : Slotted G) → slice_get built.views k ≡ Some v → slice_get slots (place + k) ≡ Some s → Fits v s
  pub laid : AllByRecursion (IsLaid first) slots
  pub free : first + numbers_for built.job < 2 ^ 32

-- The slots that give way are there, the new ones have their handles and numbers of their own, and the spare list has room for all.
pub record CanPut {G : Type 0} (install : Install G) (slots : List (Slotted G)) : Type 0 where
  pub some : 0 < install.count
  pub within : install.place + install.count ≤ length slots
  pub cover : CoverAlike (take install.count (drop install.place slots)) install.slots.items
  pub numbers : NumbersDiffer (with_slots install.place install.count install.slots.items slots)
  pub empty : vec_len install.spare ≡ 0
  pub room : length (with_slots install.place install.count install.slots.items slots) ≤ vec_capacity install.spare

-- At the place of the job's segment stands what takes its place.
pub record IsPlan {G : Type 0} (first : ℕ) (files : Files G) (built : Built G) (slots : List (Slotted G)) (install : Install G) : Type 0 where
  pub place : position (λ (s : Slotted G). s.id == segment_of built.job) slots ≡ Some install.place
  pub count : install.count ≡ segments_for built.job
  pub news : AreInstalled built.job first files built (take install.count (drop install.place slots)) install.slots.items
  pub can : CanPut install slots
