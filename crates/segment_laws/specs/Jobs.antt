-- What was built is what its job makes of its segments. It speaks of values alone, so that no later step ages it.
use Rattle.std.specs.Prelude.{◌≡◌, ℕ, ℤ, List, [], ◌∷◌, Ok}
use Rattle.column_block.specs.declared.column.Column.{Column}
use Rattle.column_file.specs.Tiny.{tiny}
use Rattle.delta_layer.specs.Built.{IsOne}
use Rattle.delta_layer.specs.declared.built.Built.{Built}
use Rattle.delta_layer.specs.declared.built.Job.{Job}
use Rattle.delta_layer.specs.declared.built.Job.TheVariants.{Compact, MergeDelta, Split, Merge}
use Rattle.delta_layer.specs.declared.built.Piece.{Piece}
use Rattle.delta_layer.specs.declared.view.SegmentView.{SegmentView}
use Rattle.delta_merge.specs.Merged.{GivesDeltaMerge, IsDeltaMerge}
use Rattle.segment_split.specs.Halves.{GivesSplit, IsCut, IsSplit}
use Rattle.segment_merge.specs.Joined.{GivesMerge, IsMerge, Touch}
use Rattle.segment_laws.specs.Runs.{IsFirstRun, run_of}

-- The piece has the versions of the files from..to of a segment, and their tiny file's bytes.
pub record IsRun {G : Type 0} (columns : List Column) (old : SegmentView G) (from to : ℕ) (piece : Piece) : Type 0 where
  pub range : piece.range ≡ old.range
  pub versions : piece.versions ≡ run_of old.delta from to
  pub bytes : piece.bytes ≡ tiny columns piece.versions

-- It is the compaction of this segment: its first run of tiny files, put together.
pub record IsCompaction {G : Type 0} (columns : List Column) (old : SegmentView G) (built : Built G) : Type 0 where
  pub job : built.job ≡ Compact old.seg
  pub views : built.views ≡ old ∷ []
  pub safe_point : built.safe_point ≡ 0
  pub from : ℕ
  pub to : ℕ
  pub run : IsFirstRun old.delta from to
  pub piece : IsOne (IsRun columns old from to) built.pieces

-- ---- by cases on the job

pub record FromCompact {G : Type 0} (columns : List Column) (built : Built G) : Type 0 where
  pub old : SegmentView G
  pub is : IsCompaction columns old built

-- a delta merge at the safe point that was built with, which gives a collection where the grips' bytes are known
pub record FromDeltaMerge {G : Type 0} (tells : Type 0) (bytes : G → List ℕ) (columns : List Column) (rows : ℕ) (built : Built G) : Type 0 where
  pub old : SegmentView G
  pub is : IsDeltaMerge columns rows built.safe_point old built
  pub gives : tells → GivesDeltaMerge bytes built.safe_point old (Ok built)

pub record FromSplit {G : Type 0} (tells : Type 0) (bytes : G → List ℕ) (columns : List Column) (rows : ℕ) (built : Built G) : Type 0 where
  pub old : SegmentView G
  pub at : ℤ
  pub cut : IsCut old.range at
  pub is : IsSplit columns rows at old built
  pub gives : tells → GivesSplit bytes old (Ok built)

pub record FromMerge {G : Type 0} (tells : Type 0) (bytes : G → List ℕ) (columns : List Column) (rows : ℕ) (built : Built G) : Type 0 where
  pub left : SegmentView G
  pub right : SegmentView G
  pub touch : Touch left.range right.range
  pub is : IsMerge columns rows left right built
  pub gives : tells → GivesMerge bytes left right (Ok built)

abbrev pub IsBuiltBy : {G : Type 0} → Type 0 → (G → List ℕ) → List Column → ℕ → Job → Built G → Type 0
IsBuiltBy tells bytes columns rows (Compact seg) built = FromCompact columns built
IsBuiltBy tells bytes columns rows (MergeDelta seg) built = FromDeltaMerge tells bytes columns rows built
IsBuiltBy tells bytes columns rows (Split seg) built = FromSplit tells bytes columns rows built
IsBuiltBy tells bytes columns rows (Merge seg) built = FromMerge tells bytes columns rows built

-- It is what its job makes of its segments, in packs of so many rows. What it has of them is said where the grips' bytes are known.
abbrev pub IsBuilt : {G : Type 0} → Type 0 → (G → List ℕ) → List Column → ℕ → Built G → Type 0
IsBuilt tells bytes columns rows built = IsBuiltBy tells bytes columns rows built.job built
