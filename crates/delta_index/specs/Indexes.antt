-- The versions of a delta in order of handle and timestamp.
use Rattle.std.specs.Prelude.{◌≡◌, ℕ, ℤ, ◌<◌, ◌≤◌, ◌<ℤ◌, ◌≤ℤ◌, not, Some, List, length, slice_get, map, filter, fold}
use Rattle.std.specs.BTreeMap.{insert_entry}
use Rattle.std.specs.List.{enumerate_from}
use Rattle.std.specs.List.Sorted.{IsStrictlySortedBy}
use Rattle.std.specs.Map.{keys_of}
use Rattle.column_block.specs.declared.cell.Version.{Version}
pub use Rattle.column_block.specs.Order.{key_cmp}
use Rattle.flash_types.specs.Ranges.{holds}
use Rattle.flash_types.specs.declared.range.HandleRange.{HandleRange}

-- a version's handle and timestamp, beside the number of its file and its row there
abbrev pub Entry : Type 0
Entry = (ℤ × ℕ) × (ℕ × ℕ)

abbrev pub entry_of : ℕ → ℕ × Version → Entry
entry_of number placed = ((placed.1.handle, placed.1.ts), (number, placed.0))

-- the entries of a file's versions, in the file's order
abbrev pub entries_of : ℕ → List Version → List Entry
entries_of number versions = map (entry_of number) (enumerate_from 0 versions)

-- the entries with one more at its place in the order; one with the same handle and timestamp makes way for it
abbrev pub put : List Entry → Entry → List Entry
put entries more = insert_entry key_cmp entries more.0 more.1

-- the entries with each version of a further file
abbrev pub extended : List Entry → ℕ → List Version → List Entry
extended entries number versions = fold put entries (entries_of number versions)

-- the entries whose handles a range doesn't hold
abbrev pub cleared : List Entry → HandleRange → List Entry
cleared entries range = filter (λ (entry : Entry). not (holds range entry.0.0)) entries

-- the handles and timestamps rise, each pair once
abbrev pub AreRising : List Entry → Type 0
AreRising entries = IsStrictlySortedBy key_cmp (keys_of entries)

-- a place is the first whose handle isn't below this one; it is the length where there is none
pub record IsFirstFrom (handle : ℤ) (entries : List Entry) (place : ℕ) : Type 0 where
  pub within : place ≤ length entries
  pub before : (k : ℕ) (entry : Entry) → k < place → slice_get entries k ≡ Some entry → entry.0.0 <ℤ handle
  pub from : (k : ℕ) (entry : Entry) → place ≤ k → slice_get entries k ≡ Some entry → handle ≤ℤ entry.0.0
