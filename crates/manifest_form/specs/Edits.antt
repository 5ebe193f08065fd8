-- How a record of edits is read.
use Rattle.std.specs.Prelude.{ℕ, zero, suc, List, [], ◌∷◌, length, take, drop, nat_lt, ◌==◌, if◌then◌else◌, Option, Some, None, Result, Ok, Err}
use Rattle.flash_list.specs.Steps.{◌>>=◌, each_at}
use Rattle.manifest_form.specs.declared.fault.Fault.{Fault}
use Rattle.manifest_form.specs.declared.state.StoredFile.{StoredFile}
use Rattle.manifest_form.specs.declared.state.StoredFile.TheVariants.{Tiny, DeleteRange}
use Rattle.manifest_form.specs.declared.state.StoredSegment.{StoredSegment}
use Rattle.manifest_form.specs.declared.state.Edit.{Edit}
use Rattle.manifest_form.specs.declared.state.Edit.TheVariants.{Next, Segment, Drop, High, SafePoint, Regions, Count}
use Rattle.manifest_form.specs.Fields.{here, byte_in, u32_at, u64_at, range_at}

-- ---- a segment

-- the byte 1 and a file, or the byte 0
abbrev pub stable_of : ℕ → ℕ → List ℕ → Result (Option ℕ × List ℕ) Fault
stable_of end flag bytes = if nat_lt flag 1 then Ok (None, bytes) else (u32_at end bytes >>= λ file. Ok (Some file.0, file.1))

unfoldable pub stable_at : ℕ → List ℕ → Result (Option ℕ × List ℕ) Fault
stable_at end bytes = byte_in 0 1 (here end bytes) end bytes >>= λ flag. stable_of end flag.0 flag.1

-- the byte 1 and a tiny file, or the byte 2 and a range
abbrev pub file_of : ℕ → ℕ → List ℕ → Result (StoredFile × List ℕ) Fault
file_of end kind bytes = if nat_lt kind 2 then (u32_at end bytes >>= λ file. Ok (Tiny file.0, file.1)) else (range_at end bytes >>= λ range. Ok (DeleteRange range.0, range.1))

unfoldable pub file_at : ℕ → Unit {0} → List ℕ → Result (StoredFile × List ℕ) Fault
file_at end _ bytes = byte_in 1 2 (here end bytes) end bytes >>= λ kind. file_of end kind.0 kind.1

unfoldable pub each_file_at : ℕ → ℕ → List ℕ → Result (List StoredFile × List ℕ) Fault
each_file_at end count bytes = each_at (file_at end) (λ _. tt {0}) count (tt {0}) bytes

-- a count and so many parts
unfoldable pub delta_at : ℕ → List ℕ → Result (List StoredFile × List ℕ) Fault
delta_at end bytes = u64_at end bytes >>= λ count. each_file_at end count.0 count.1

unfoldable pub segment_at : ℕ → List ℕ → Result (StoredSegment × List ℕ) Fault
segment_at end bytes = do
  id ← u32_at end bytes
  range ← range_at end id.1
  stable ← stable_at end range.1
  delta ← delta_at end stable.1
  Ok (record { id = id.0; range = range.0; stable = stable.0; delta = delta.0 }, delta.1)

-- ---- an edit

unfoldable pub bytes_at : ℕ → ℕ → List ℕ → Result (List ℕ × List ℕ) Fault
bytes_at end len bytes = if nat_lt (length bytes) len then Err (here end bytes) else Ok (take len bytes, drop len bytes)

unfoldable pub next_at : ℕ → List ℕ → Result (Edit × List ℕ) Fault
next_at end bytes = u32_at end bytes >>= λ file. Ok (Next file.0, file.1)

unfoldable pub put_at : ℕ → List ℕ → Result (Edit × List ℕ) Fault
put_at end bytes = segment_at end bytes >>= λ segment. Ok (Segment segment.0, segment.1)

unfoldable pub drop_at : ℕ → List ℕ → Result (Edit × List ℕ) Fault
drop_at end bytes = u32_at end bytes >>= λ id. Ok (Drop id.0, id.1)

-- a count of entries and a chain value of 32 bytes
unfoldable pub mark_at : ℕ → List ℕ → Result (Edit × List ℕ) Fault
mark_at end bytes = do
  entries ← u64_at end bytes
  chain ← bytes_at end 32 entries.1
  Ok (High entries.0 chain.0, chain.1)

unfoldable pub point_at : ℕ → List ℕ → Result (Edit × List ℕ) Fault
point_at end bytes = u64_at end bytes >>= λ ts. Ok (SafePoint ts.0, ts.1)

unfoldable pub regions_at : ℕ → List ℕ → Result (Edit × List ℕ) Fault
regions_at end bytes = u32_at end bytes >>= λ file. Ok (Regions file.0, file.1)

unfoldable pub count_at : ℕ → List ℕ → Result (Edit × List ℕ) Fault
count_at end bytes = u64_at end bytes >>= λ entries. Ok (Count entries.0, entries.1)

-- an edit of this kind
abbrev pub edit_of : ℕ → ℕ → List ℕ → Result (Edit × List ℕ) Fault
edit_of end kind bytes =
    if kind == 1 then next_at end bytes
    else if kind == 2 then put_at end bytes
    else if kind == 3 then drop_at end bytes
    else if kind == 4 then mark_at end bytes
    else if kind == 5 then point_at end bytes
    else if kind == 6 then regions_at end bytes
    else count_at end bytes

unfoldable pub edit_at : ℕ → List ℕ → Result (Edit × List ℕ) Fault
edit_at end bytes = byte_in 1 7 (here end bytes) end bytes >>= λ kind. edit_of end kind.0 kind.1

-- at most so many edits, to the end
unfoldable pub some_edits : ℕ → ℕ → List ℕ → Result (List Edit) Fault
some_edits zero end bytes = Ok []
some_edits (suc most) end [] = Ok []
some_edits (suc most) end (b ∷ bytes) = do
  first ← edit_at end (b ∷ bytes)
  others ← some_edits most end first.1
  Ok (first.0 ∷ others)

-- all edits of a record that ends at this place; each has a byte at least
unfoldable pub edits_of : ℕ → List ℕ → Result (List Edit) Fault
edits_of end bytes = some_edits (length bytes) end bytes
