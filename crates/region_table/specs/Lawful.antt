-- Of what the laws of region tables speak.
use Rattle.std.specs.Prelude.{◌≡◌, ◌+◌, ℕ, Bool, List, Option, Some, Ok, slice_get}
use Rattle.log_codec.specs.declared.entry.Entry.{Entry}
use Rattle.committed_log.specs.Applied.{IsClosed, with_position}
use Rattle.committed_log.specs.Lawful.{IsLawful}
use Rattle.committed_log.specs.Log.{Log}
use Rattle.region_file.specs.Regions.{regions_of}
use Rattle.region_file.specs.Spelling as spelling
use Rattle.region_table.specs.Applying.{apply_fault}
use Rattle.region_table.specs.Table.{Kept, Table, AreRegionsAt, IsTableAt, size_of}
use Rattle.region_table.specs.declared.fault.ApplyError.TheVariants as fault

-- what holds of each entry of a lawful log, where the entries of a closed set are applied
abbrev pub AtEachSet : (Log → (ℕ → Bool) → ℕ → Entry → Type 0) → Type 0
AtEachSet P = (log : Log) → IsLawful log → (A : ℕ → Bool) → IsClosed log A
    → (p : ℕ) (e : Entry) → slice_get log.entries p ≡ Some e → P log A p e

-- where it is told as done, in a region with a last index
abbrev pub WhereDone : (Log → (ℕ → Bool) → ℕ → Entry → ℕ → ℕ → Type 0) → Type 0
WhereDone P = AtEachSet (λ log A p e. (r last : ℕ) → apply_fault log A p e ≡ Some (fault.Done r last) → P log A p e r last)

-- where it is told as early, since a region with a last index isn't at the index that is wanted
abbrev pub WhereEarly : (Log → (ℕ → Bool) → ℕ → ℕ → Option ℕ → ℕ → Type 0) → Type 0
WhereEarly P = AtEachSet (λ log A p e. (r : ℕ) (last : Option ℕ) (wants : ℕ)
    → apply_fault log A p e ≡ Some (fault.Early r last wants) → P log A p r last wants)

-- what holds of the regions of a lawful log where the entries of a set are applied
abbrev pub OfRegions : (Log → (ℕ → Bool) → List (ℕ × Kept) → Type 0) → Type 0
OfRegions P = (log : Log) → IsLawful log → (A : ℕ → Bool) (regions : List (ℕ × Kept)) → AreRegionsAt log A regions → P log A regions

-- what holds of the table of a log at a set
abbrev pub OfTables : (Log → (ℕ → Bool) → Table → Type 0) → Type 0
OfTables P = (log : Log) (A : ℕ → Bool) (t : Table) → IsTableAt log A t → P log A t

-- the table is the log's at one set at most
abbrev pub HasOneSet : Log → Table → Type 0
HasOneSet log t = (A B : ℕ → Bool) → IsTableAt log A t → IsTableAt log B t → (p : ℕ) → A p ≡ B p

-- with the position one entry more is applied
abbrev pub CountsOneMore : Log → (ℕ → Bool) → ℕ → Type 0
CountsOneMore log A p = size_of log (with_position A p) ≡ size_of log A + 1

-- what is written of the regions is read as them
abbrev pub IsReadAgain : List (ℕ × Kept) → Type 0
IsReadAgain regions = regions_of (spelling.file regions) ≡ Ok regions
