-- How a pack is read. `end` is the place behind its bytes in the file, so that a field's place is `end` less the number of bytes from it on.
use Rattle.std.specs.Prelude.{ℕ, List, [], ◌∷◌, length, take, drop, ◌==◌, nat_lt, if◌then◌else◌, Option, Some, None, Result, Ok, Err}
use Rattle.std.specs.Result.{result_ok}
use Rattle.std.specs.Int.{w16, w64}
use Rattle.flash_list.specs.Steps.{◌>>=◌}
use Rattle.flash_list.specs.Fields.{number_at}
use Rattle.column_block.specs.declared.column.Column.{Column}
use Rattle.column_block.specs.declared.column.Kind.{Kind}
use Rattle.column_block.specs.declared.column.Kind.TheVariants as column_kind
use Rattle.column_block.specs.declared.cell.Version.{Version}
use Rattle.column_codec.specs.declared.list.ListKind.{ListKind}
use Rattle.column_codec.specs.declared.list.ListKind.TheVariants as kind
use Rattle.column_codec.specs.declared.list.ColumnList.{ColumnList}
use Rattle.column_codec.specs.Lists.{list_at}
use Rattle.pack_codec.specs.declared.fault.FormError.{FormError}
use Rattle.pack_codec.specs.declared.fault.FormError.TheVariants.{Damaged}
use Rattle.pack_codec.specs.declared.heads.Heads.{Heads}
use Rattle.pack_codec.specs.Faults.{here}
use Rattle.pack_codec.specs.Rows.{handles_in, stamps_in, marks_in, null_from, versions_from}

-- the list of so many values that the bytes are, if they are one
abbrev pub any_at : ListKind → ℕ → List ℕ → Option ColumnList
any_at kind count bytes = result_ok (list_at kind count bytes)

-- what stands in the bytes behind their length, the bytes from there on, and those behind it
unfoldable pub any_behind : ListKind → ℕ → ℕ → List ℕ → Result (Option ColumnList × List ℕ × List ℕ) FormError
any_behind kind count end bytes = do
  size ← number_at w64 (Damaged end) bytes
  if nat_lt (length size.1) size.0 then Err (Damaged end) else Ok (any_at kind count (take size.0 size.1), size.1, drop size.0 size.1)

-- what was found, if it may stand here; else it is named by its first byte
abbrev pub found_at : {X : Type 0} → ℕ → Option X → List ℕ → List ℕ → Result (X × List ℕ) FormError
found_at end None bytes rest = Err (here end bytes)
found_at end (Some x) bytes rest = Ok (x, rest)

-- a list behind its length
unfoldable pub list_behind : {X : Type 0} → ListKind → (Option ColumnList → Option X) → ℕ → ℕ → List ℕ → Result (X × List ℕ) FormError
list_behind kind may count end bytes = any_behind kind count end bytes >>= λ x. found_at end (may x.0) x.1 x.2

-- the lists of handles, timestamps and marks
unfoldable pub heads_at : ℕ → ℕ → List ℕ → Result (Heads × List ℕ) FormError
heads_at end count bytes = do
  handles ← list_behind kind.Int handles_in count end bytes
  stamps ← list_behind kind.Uint stamps_in count end handles.1
  marks ← list_behind kind.Uint marks_in count end stamps.1
  Ok (record { handles = handles.0; stamps = stamps.0; marks = marks.0 }, marks.1)

abbrev pub list_kind : Kind → ListKind
list_kind column_kind.Int = kind.Int
list_kind column_kind.Uint = kind.Uint
list_kind column_kind.Bytes = kind.Bytes

-- a column's list may stand behind marks where it is null in each row that is gone
abbrev pub column_in : List (Option ℕ) → ℕ → Option ColumnList → Option ColumnList
column_in marks count None = None
column_in marks count (Some l) = if null_from marks l 0 count then Some l else None

-- the lists of the columns
unfoldable pub columns_at : ℕ → ℕ → List (Option ℕ) → List Column → List ℕ → Result (List ColumnList × List ℕ) FormError
columns_at end count marks [] bytes = Ok ([], bytes)
columns_at end count marks (column ∷ columns) bytes = do
  first ← list_behind (list_kind column.kind) (column_in marks count) count end bytes
  others ← columns_at end count marks columns first.1
  Ok (first.0 ∷ others.0, others.1)

-- the number of columns
unfoldable pub width_at : ℕ → ℕ → List ℕ → Result (List ℕ) FormError
width_at end width bytes = number_at w16 (Damaged end) bytes >>= λ n. if n.0 == width then Ok n.1 else Err (here end bytes)

-- nothing follows
unfoldable pub ended : ℕ → List ℕ → Result (Unit {0}) FormError
ended end [] = Ok (tt {0})
ended end (b ∷ rest) = Err (here end (b ∷ rest))

-- the versions that the bytes are, all of them, under a schema with these columns
unfoldable pub pack_at : ℕ → List Column → List ℕ → Result (List Version) FormError
pack_at end columns bytes = do
  count ← number_at w64 (Damaged end) bytes
  rest ← width_at end (length columns) count.1
  heads ← heads_at end count.0 rest
  lists ← columns_at end count.0 heads.0.marks columns heads.1
  done ← ended end lists.1
  Ok (versions_from heads.0 lists.0 0 count.0)
