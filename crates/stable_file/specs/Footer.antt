-- The footer of a stable file. A place is `end` less the number of bytes from it on.
use Rattle.std.specs.Prelude.{ℕ, ◌+◌, ◌-◌, ℤ, pos, Bool, true, false, ◌&&◌, ◌==◌, nat_lt, nat_le, int_lt, List, length, take, drop, if◌then◌else◌, Option, Some, None, Result, Ok, Err}
use Rattle.std.specs.Int.{w8, w32, w64, cast_signed}
use Rattle.flash_list.specs.Steps.{◌>>=◌}
use Rattle.flash_list.specs.Fields.{number_at}
use Rattle.column_block.specs.declared.column.Column.{Column}
use Rattle.column_block.specs.declared.column.Kind.{Kind}
use Rattle.column_block.specs.declared.column.Kind.TheVariants as kind
use Rattle.column_block.specs.declared.column.MinMax.{MinMax}
use Rattle.column_block.specs.declared.column.MinMax.TheVariants.{Empty, Of}
use Rattle.pack_codec.specs.declared.fault.FormError.{FormError}
use Rattle.pack_codec.specs.declared.fault.FormError.TheVariants.{Damaged}
use Rattle.pack_codec.specs.Faults.{here}
use Rattle.pack_codec.specs.Reading.{ended}
use Rattle.stable_file.specs.declared.pack.Pack.{Pack}
use Rattle.stable_file.specs.declared.pack.Head.{Head}
use Rattle.stable_file.specs.declared.pack.Before.{Before}
use Rattle.stable_file.specs.Steps.{one_for_each, so_many}

-- ---- fields: each is whole, or the entries end too early; and one that isn't allowed is named

unfoldable pub u64_at : ℕ → (ℕ → Bool) → List ℕ → Result (ℕ × List ℕ) FormError
u64_at end may bytes = number_at w64 (Damaged end) bytes >>= λ n. if may n.0 then Ok n else Err (here end bytes)

unfoldable pub u32_at : ℕ → (ℕ → Bool) → List ℕ → Result (ℕ × List ℕ) FormError
u32_at end may bytes = number_at w32 (Damaged end) bytes >>= λ n. if may n.0 then Ok n else Err (here end bytes)

unfoldable pub handle_at : ℕ → (ℤ → Bool) → List ℕ → Result (ℤ × List ℕ) FormError
handle_at end may bytes = number_at w64 (Damaged end) bytes >>= λ n. if may (cast_signed w64 n.0) then Ok (cast_signed w64 n.0, n.1) else Err (here end bytes)

-- ---- the range of a column's numbers

-- eight bytes as a number of a column
abbrev pub number_of : Kind → ℕ → ℤ
number_of kind.Int n = cast_signed w64 n
number_of _ n = pos n

-- the greatest number, which isn't below the least
unfoldable pub greatest_at : Kind → ℕ → ℤ → List ℕ → Result (MinMax × List ℕ) FormError
greatest_at k end least bytes = number_at w64 (Damaged end) bytes >>= λ n. if int_lt (number_of k n.0) least then Err (here end bytes) else Ok (Of least (number_of k n.0), n.1)

-- the least and the greatest
unfoldable pub both_at : Kind → ℕ → List ℕ → Result (MinMax × List ℕ) FormError
both_at k end bytes = number_at w64 (Damaged end) bytes >>= λ n. greatest_at k end (number_of k n.0) n.1

-- 0 where there is no number; else 1, the least and the greatest
unfoldable pub numbers_at : Kind → ℕ → List ℕ → Result (MinMax × List ℕ) FormError
numbers_at k end bytes = number_at w8 (Damaged end) bytes >>= λ flag. if nat_lt 1 flag.0 then Err (here end bytes) else if flag.0 == 0 then Ok (Empty, flag.1) else both_at k end flag.1

-- a column of bytes has no range in the footer
abbrev pub range_at : ℕ → Column → List ℕ → Result (MinMax × List ℕ) FormError
range_at end column bytes = elim column.kind [ kind.Bytes ↦ Ok (Empty, bytes) | kind.Int ↦ numbers_at kind.Int end bytes | kind.Uint ↦ numbers_at kind.Uint end bytes ]

-- ---- the entry of a pack

-- The packs lie one behind the other, and the last one reaches the footer.
abbrev pub may_have_len : ℕ → Before → ℕ → Bool
may_have_len stop before len = if before.left == 1 then len == stop - before.place else nat_le len (stop - before.place)

-- Each pack has as many versions as the first one, but the last may have fewer; none has no version.
abbrev pub may_have_count : Before → ℕ → Bool
may_have_count before count = elim before.rows [
  | None ↦ nat_lt 0 count
  | Some rows ↦ if before.left == 1 then nat_lt 0 count && nat_le count rows else count == rows
]

-- Handles don't fall.
abbrev pub may_begin : Before → ℤ → Bool
may_begin before low = elim before.high [ None ↦ true | Some high ↦ (if int_lt low high then false else true) ]

-- place, length and number of versions
unfoldable pub sizes_at : ℕ → ℕ → Before → List ℕ → Result ((ℕ × ℕ × ℕ) × List ℕ) FormError
sizes_at end stop before bytes = do
  place ← u64_at end (λ n. n == before.place) bytes
  len ← u64_at end (may_have_len stop before) place.1
  count ← u32_at end (may_have_count before) len.1
  Ok ((place.0, len.0, count.0), count.1)

-- the least and the greatest handle
unfoldable pub handles_at : ℕ → Before → List ℕ → Result ((ℤ × ℤ) × List ℕ) FormError
handles_at end before bytes = do
  low ← handle_at end (may_begin before) bytes
  high ← handle_at end (λ high. if int_lt high low.0 then false else true) low.1
  Ok ((low.0, high.0), high.1)

unfoldable pub head_at : ℕ → ℕ → Before → List ℕ → Result (Head × List ℕ) FormError
head_at end stop before bytes = do
  sizes ← sizes_at end stop before bytes
  handles ← handles_at end before sizes.1
  Ok (record { place = sizes.0.0; len = sizes.0.1; count = sizes.0.2; low = handles.0.0; high = handles.0.1 }, handles.1)

-- the numbers of an entry, and the range of each column's numbers
unfoldable pub pack_entry_at : ℕ → ℕ → List Column → Before → List ℕ → Result (Pack × List ℕ) FormError
pack_entry_at end stop columns before bytes = do
  head ← head_at end stop before bytes
  ranges ← one_for_each (range_at end) columns head.1
  Ok (record { place = head.0.place; len = head.0.len; count = head.0.count; low = head.0.low; high = head.0.high; ranges = ranges.0 }, ranges.1)

abbrev pub rows_behind : Before → Pack → Option ℕ
rows_behind before pack = elim before.rows [ None ↦ Some pack.count | Some rows ↦ Some rows ]

-- what is known before the entry behind this one
abbrev pub behind : Before → Pack → Before
behind before pack = record { left = before.left - 1; place = pack.place + pack.len; rows = rows_behind before pack; high = Some pack.high }

abbrev pub first : ℕ → Before
first packs = record { left = packs; place = 4; rows = None; high = None }

-- so many entries, all of the bytes
unfoldable pub entries_at : ℕ → ℕ → List Column → ℕ → List ℕ → Result (List Pack) FormError
entries_at end stop columns packs bytes = do
  entries ← so_many (pack_entry_at end stop columns) behind packs (first packs) bytes
  done ← ended end entries.1
  Ok entries.0

-- ---- the end of the file

-- `FLSE` as a number
abbrev pub end_magic : ℕ
end_magic = 0x464C5345

-- The footer's length may be written here: the footer has at least its number of packs, and before it there is at least the file's magic.
abbrev pub may_have_size : ℕ → ℕ → ℕ → Bool
may_have_size len front size = nat_le 8 size && (nat_le (size + 16) len && nat_le size front)

-- the footer's length, in the last twelve bytes of a file; so many bytes of the file stand at hand before them
unfoldable pub size_at : ℕ → ℕ → List ℕ → Result ℕ FormError
size_at len front last = do
  size ← number_at w64 (Damaged len) last
  magic ← number_at w32 (Damaged len) size.1
  if may_have_size len front size.0 then (if magic.0 == end_magic then Ok size.0 else Err (Damaged (len - 4))) else Err (Damaged (len - 12))

-- the number of packs behind the entries, in a footer that ends at this place
unfoldable pub packs_at : ℕ → List ℕ → Result ℕ FormError
packs_at end bytes = number_at w64 (Damaged end) bytes >>= λ n. if n.0 == 0 then Err (here end bytes) else Ok n.0

-- the packs that a footer tells, which ends at this place
unfoldable pub footer_at : ℕ → List Column → List ℕ → Result (List Pack) FormError
footer_at end columns footer = do
  packs ← packs_at end (drop (length footer - 8) footer)
  entries_at (end - 8) (end - length footer) columns packs (take (length footer - 8) footer)

-- The packs of a file of this length, of which these are the last bytes, as its footer tells them, or the first place that isn't of the form.
unfoldable pub tail_at : ℕ → List Column → List ℕ → Result (List Pack) FormError
tail_at len columns tail =
    if nat_lt (length tail) 12 then Err (Damaged len) else
    let front = take (length tail - 12) tail in do
      size ← size_at len (length front) (drop (length tail - 12) tail)
      footer_at (len - 12) columns (drop (length front - size) front)
