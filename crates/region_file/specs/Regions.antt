-- How a region file is read. Its first fault counts, from left to right; a field is looked at once it is whole.
use Rattle.std.specs.Prelude.{ℕ, zero, suc, Bool, true, ◌==◌, List, [], ◌∷◌, ◌++◌, length, nat_lt, if◌then◌else◌, Option, Some, None, Result, Ok, Err, is_some, fold}
use Rattle.std.specs.List.{list_any, flat_map}
use Rattle.flash_list.specs.Steps.{◌>>=◌}
use Rattle.flash_types.specs.declared.range.HandleRange.{HandleRange}
use Rattle.committed_log.specs.Admission.{least_common}
use Rattle.region_state.specs.State.{State}
use Rattle.region_file.specs.declared.entry.Entry.{Entry}
use Rattle.region_file.specs.declared.entry.Entry.TheVariants.{Gone, There}
use Rattle.region_file.specs.declared.fault.TableError.{TableError}
use Rattle.region_file.specs.Fields.{here, byte_in, u32_at, u64_at, range_at}
use Rattle.region_file.specs.Families.{values_at, locks_at}

-- ---- what was read before

abbrev pub last_id : List (ℕ × Entry) → Option ℕ
last_id before = fold (λ (last : Option ℕ) (e : ℕ × Entry). Some e.0) None before

abbrev pub range_in : ℕ × Entry → List HandleRange
range_in (id, Gone index) = []
range_in (id, There region) = region.descriptor.range ∷ []

-- the ranges of the regions that are there
abbrev pub ranges_of : List (ℕ × Entry) → List HandleRange
ranges_of before = flat_map range_in before

-- two ranges have a handle in common
abbrev pub meet : HandleRange → HandleRange → Bool
meet a b = is_some (least_common a b)

-- ---- a region

abbrev pub may_be : Option ℕ → ℕ → Bool
may_be None id = true
may_be (Some last) id = nat_lt last id

-- ids rise
unfoldable pub id_at : ℕ → Option ℕ → List ℕ → Result (ℕ × List ℕ) TableError
id_at end last bytes = do
  id ← u32_at end bytes
  if may_be last id.0 then Ok id else Err (here end bytes)

-- a range that meets none of the earlier ones
unfoldable pub free_range_at : ℕ → List HandleRange → List ℕ → Result (HandleRange × List ℕ) TableError
free_range_at end earlier bytes = do
  range ← range_at end bytes
  if list_any (meet range.0) earlier then Err (here end bytes) else Ok range

-- only a region that is prepared has a target
unfoldable pub target_at : ℕ → ℕ → List ℕ → Result (Option ℕ × List ℕ) TableError
target_at end state bytes = if state == 2 then (u32_at end bytes >>= λ target. Ok (Some target.0, target.1)) else Ok (None, bytes)

-- what stands behind the index of a region that isn't gone
unfoldable pub region_at : ℕ → List HandleRange → ℕ → ℕ → List ℕ → Result (State × List ℕ) TableError
region_at end earlier state index bytes = do
  conf_ver ← u64_at end bytes
  version ← u64_at end conf_ver.1
  range ← free_range_at end earlier version.1
  target ← target_at end state range.1
  values ← values_at end range.0 target.1
  locks ← locks_at end range.0 values.1
  Ok (record { descriptor = record { range = range.0; epoch = record { conf_ver = conf_ver.0; version = version.0 }; index = index }; target = target.0; values = values.0; locks = locks.0 }, locks.1)

abbrev pub entry_of : ℕ → List HandleRange → ℕ → ℕ → List ℕ → Result (Entry × List ℕ) TableError
entry_of end earlier state index bytes = if state == 3 then Ok (Gone index, bytes) else (region_at end earlier state index bytes >>= λ region. Ok (There region.0, region.1))

-- 1 live, 2 prepared, 3 gone
unfoldable pub entry_at : ℕ → Option ℕ → List HandleRange → List ℕ → Result ((ℕ × Entry) × List ℕ) TableError
entry_at end last earlier bytes = do
  id ← id_at end last bytes
  state ← byte_in 1 3 end id.1
  index ← u64_at end state.1
  entry ← entry_of end earlier state.0 index.0 index.1
  Ok ((id.0, entry.0), entry.1)

-- ---- the file

-- so many regions behind those before
unfoldable pub entries_at : ℕ → ℕ → List (ℕ × Entry) → List ℕ → Result (List (ℕ × Entry) × List ℕ) TableError
entries_at end zero before bytes = Ok (before, bytes)
entries_at end (suc count) before bytes = entry_at end (last_id before) (ranges_of before) bytes >>= λ e. entries_at end count (before ++ e.0 ∷ []) e.1

-- `FLRG`, as a number of four bytes
abbrev pub magic : ℕ
magic = 0x464C_5247

unfoldable pub magic_at : ℕ → List ℕ → Result (ℕ × List ℕ) TableError
magic_at end bytes = do
  name ← u32_at end bytes
  if name.0 == magic then Ok name else Err (here end bytes)

-- nothing follows
abbrev pub ended : ℕ → List ℕ → List (ℕ × Entry) → Result (List (ℕ × Entry)) TableError
ended end [] entries = Ok entries
ended end (b ∷ rest) entries = Err (here end (b ∷ rest))

-- the regions of a file
unfoldable pub regions_of : List ℕ → Result (List (ℕ × Entry)) TableError
regions_of bytes = do
  name ← magic_at (length bytes) bytes
  count ← u64_at (length bytes) name.1
  entries ← entries_at (length bytes) count.0 [] count.1
  ended (length bytes) entries.1 entries.0
