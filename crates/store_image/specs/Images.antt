-- To be believed.
-- When an image of a disk stands for a log.
use Rattle.std.specs.Prelude.{◌≡◌, ◌≢◌, ◌⊎◌, ℕ, ◌<◌, ◌≤◌, Bool, true, false, List, [], ◌∷◌, length, Option, Some, None, Ok}
use Rattle.flash_io.specs.Image.{Image, Holds}
use Rattle.flash_types.specs.declared.range.HandleRange.{HandleRange}
use Rattle.column_block.specs.declared.column.Column.{Column}
use Rattle.column_block.specs.declared.cell.Version.{Version}
use Rattle.column_file.specs.Tiny.{tiny_at}
use Rattle.stable_file.specs.Footer.{tail_at}
use Rattle.stable_file.specs.declared.pack.Pack.{Pack}
use Rattle.delta_layer.specs.Stable.{packs_in}
use Rattle.committed_log.specs.Log.{Log}
use Rattle.committed_log.specs.Laws.{IsInside}
use Rattle.log_laws.specs.Chains.{chain_at}
use Rattle.good_replica.specs.Effect.{clipped}
use Rattle.good_replica.specs.Good.{AreGood}
use Rattle.good_replica.specs.Trail.{DeltaFile, Puts, Clears, Segment}
use Rattle.region_table.specs.Opening.{IsFileOf}
use Rattle.region_table.specs.Table.{size_of}
use Rattle.manifest_form.specs.declared.recover.Recovered.{Recovered}
use Rattle.manifest_form.specs.declared.state.StoredFile.{StoredFile}
use Rattle.manifest_form.specs.declared.state.StoredFile.TheVariants.{Tiny, DeleteRange}
use Rattle.manifest_form.specs.declared.state.StoredSegment.{StoredSegment}
use Rattle.manifest.specs.Stores.{IsNew, HasStore}

-- the columns with which the files of a store of this log are read
abbrev pub columns_in : Log → List Column
columns_in log = log.schema

-- ---- what a file says

-- The bytes are a stable file of these columns that has these versions.
abbrev pub TellsStable : List Column → List Version → List ℕ → Type 0
TellsStable columns versions bytes = (packs : List Pack) × (tail_at (length bytes) columns bytes ≡ Ok packs) × (packs_in columns bytes packs ≡ Ok versions)

-- The bytes are a tiny file, of whose versions this file of a delta has those in the range: the file may be named by the segments of other ranges too.
abbrev pub TellsTiny : List Column → HandleRange → DeltaFile → List ℕ → Type 0
TellsTiny columns range f bytes = (versions : List Version) × (tiny_at columns bytes ≡ Ok versions) × (f ≡ clipped range (Puts versions))

-- ---- what a state names, as an image has it whose manifest stands in the file `own`

module _ (own : ℕ) (c : Image) where
  -- the file is there, is neither the root nor the manifest's, and its bytes are so
  abbrev pub HasFile : ℕ → (List ℕ → Type 0) → Type 0
  HasFile file P = (file ≢ 0) × (file ≢ own) × ((bytes : List ℕ) × Holds c file bytes × P bytes)

  -- without a stable file there is no stable version
  abbrev pub IsStableRead : List Column → Option ℕ → List Version → Type 0
  IsStableRead columns None versions = versions ≡ []
  IsStableRead columns (Some file) versions = HasFile file (TellsStable columns versions)

  abbrev pub IsFileRead : List Column → HandleRange → StoredFile → DeltaFile → Type 0
  IsFileRead columns range (Tiny file) f = HasFile file (TellsTiny columns range f)
  IsFileRead columns range (DeleteRange cleared) f = f ≡ Clears cleared

  -- one file of the delta for each that is named, in order
  abbrev pub AreFilesRead : List Column → HandleRange → List StoredFile → List DeltaFile → Type 0
  AreFilesRead columns range [] [] = Unit {0}
  AreFilesRead columns range [] (f ∷ fs) = ⊥
  AreFilesRead columns range (s ∷ ss) [] = ⊥
  AreFilesRead columns range (s ∷ ss) (f ∷ fs) = IsFileRead columns range s f × AreFilesRead columns range ss fs

  -- a segment has what its named files have
  pub record IsSegmentRead (columns : List Column) (s : StoredSegment) (t : Segment) : Type 0 where
    pub range : t.range ≡ s.range
    pub stable : IsStableRead columns s.stable t.stable
    pub delta : AreFilesRead columns s.range s.delta t.delta

  abbrev pub AreSegmentsRead : List Column → List StoredSegment → List Segment → Type 0
  AreSegmentsRead columns [] [] = Unit {0}
  AreSegmentsRead columns [] (t ∷ ts) = ⊥
  AreSegmentsRead columns (s ∷ ss) [] = ⊥
  AreSegmentsRead columns (s ∷ ss) (t ∷ ts) = IsSegmentRead columns s t × AreSegmentsRead columns ss ts

  -- the region file has the regions as the entries of the set leave them; with none, none is applied
  abbrev pub AreRegionsRead : Log → (ℕ → Bool) → Option ℕ → Type 0
  AreRegionsRead log A None = (p : ℕ) → A p ≡ false
  AreRegionsRead log A (Some file) = HasFile file (IsFileOf log A)

-- ---- what an image stands for

-- a count that was committed is that of the set; older stores have none
abbrev pub IsCountOf : Log → (ℕ → Bool) → Option ℕ → Type 0
IsCountOf log A None = Unit {0}
IsCountOf log A (Some count) = count ≡ size_of log A

-- What a store has, and what the files that it names are in an image, stand for a log where the entries of a set are applied: the store is of the log's table and columns, its segments are good, its region file has the set, and no entry of the set is past High, whose digest is the log's.
pub record Stands (log : Log) (A : ℕ → Bool) (own : ℕ) (has : Recovered) (c : Image) : Type 0 where
  pub table : has.header.table ≡ log.table
  pub columns : has.header.columns ≡ columns_in log
  pub segments : List Segment
  pub read : AreSegmentsRead own c (columns_in log) has.state.segments segments
  pub regions : AreRegionsRead own c log A has.state.regions
  pub count : IsCountOf log A has.state.count
  pub good : AreGood log A has.state.high has.state.safe_point segments
  pub high : has.state.high ≤ length log.entries
  pub below : (p : ℕ) → A p ≡ true → p < has.state.high
  pub chain : has.state.chain ≡ chain_at log has.state.high

-- Nothing was committed, and nothing is applied.
pub record IsEmpty (A : ℕ → Bool) (safe : ℕ) (c : Image) : Type 0 where
  pub new : IsNew c
  pub none : (p : ℕ) → A p ≡ false
  pub no_safe_point : safe ≡ 0

-- An image has a store with this safe point, which stands for the log.
pub record HasStanding (log : Log) (A : ℕ → Bool) (safe : ℕ) (c : Image) : Type 0 where
  pub file : ℕ
  pub has : Recovered
  pub store : HasStore c file has
  pub safe_point : has.state.safe_point ≡ safe
  pub stands : Stands log A file has c

-- The image stands for the log, where the entries of the set are applied and nothing is read below the safe point.
abbrev pub StandsFor : Log → (ℕ → Bool) → ℕ → Image → Type 0
StandsFor log A safe c = IsEmpty A safe c ⊎ HasStanding log A safe c

-- for some set with at least these entries, and some safe point that is no lower
pub record StandsAtLeast (log : Log) (B : ℕ → Bool) (low : ℕ) (c : Image) : Type 0 where
  pub set : ℕ → Bool
  pub safe_point : ℕ
  pub inside : IsInside B set
  pub no_lower : low ≤ safe_point
  pub stands : StandsFor log set safe_point c

-- for some set and some safe point
abbrev pub StandsForSome : Log → Image → Type 0
StandsForSome log c = (A : ℕ → Bool) × (safe : ℕ) × StandsFor log A safe c
