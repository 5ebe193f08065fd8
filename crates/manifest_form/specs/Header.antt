-- The header of a manifest: `FLMF`, the version, the table and its columns.
use Rattle.std.specs.Prelude.{ℕ, ◌+◌, List, nat_lt, nat_eq, ◌||◌, if◌then◌else◌, Result, Ok, Err}
use Rattle.std.specs.Int.{Width, w16, w32, w64, cast_signed}
use Rattle.flash_list.specs.Steps.{◌>>=◌, each_at}
use Rattle.flash_list.specs.Fields.{number_at}
use Rattle.column_block.specs.declared.column.Column.{Column}
use Rattle.column_block.specs.declared.column.Kind.{Kind}
use Rattle.column_block.specs.declared.column.Kind.TheVariants.{Int, Uint, Bytes}
use Rattle.manifest_form.specs.declared.fault.Fault.{Fault}
use Rattle.manifest_form.specs.declared.fault.Fault.TheVariants.{At, Version}
use Rattle.manifest_form.specs.declared.header.Header.{Header}
use Rattle.manifest_form.specs.Fields.{here, byte_in}

-- 1 signed numbers, 2 unsigned ones, 3 bytes
abbrev pub kind_of : ℕ → Kind
kind_of n = if nat_eq n 1 then Int else if nat_eq n 2 then Uint else Bytes

-- a number from least to greatest
unfoldable pub number_in : Width → ℕ → ℕ → Fault → ℕ → List ℕ → Result (ℕ × List ℕ) Fault
number_in width least greatest fault end bytes = do
  n ← number_at width fault bytes
  if nat_lt n.0 least || nat_lt greatest n.0 then Err (here end bytes) else Ok n

unfoldable pub id_at : ℕ → ℕ → List ℕ → Result (ℕ × List ℕ) Fault
id_at end least bytes = do
  id ← number_at w32 (At end) bytes
  if nat_lt id.0 least then Err (here end bytes) else Ok id

-- a column, whose id isn't below the least one that may stand here
unfoldable pub column_at : ℕ → ℕ → List ℕ → Result (Column × List ℕ) Fault
column_at end least bytes = do
  id ← id_at end least bytes
  kind ← byte_in 1 3 (At end) end id.1
  Ok (record { id = id.0; kind = kind_of kind.0 }, kind.1)

-- the least id that may stand behind a column
abbrev pub above : Column → ℕ
above column = column.id + 1

unfoldable pub columns_at : ℕ → ℕ → List ℕ → Result (List Column × List ℕ) Fault
columns_at end count bytes = each_at (column_at end) above count 0 bytes

-- `FLMF`, as a number of four bytes
abbrev pub magic : ℕ
magic = 0x464C_4D46

unfoldable pub version_at : ℕ → List ℕ → Result (ℕ × List ℕ) Fault
version_at end bytes = do
  version ← number_at w16 (At end) bytes
  if nat_eq version.0 1 then Ok version else Err (Version version.0)

-- the header, and what stands behind it, in a file that ends there
unfoldable pub header_at : ℕ → List ℕ → Result (Header × List ℕ) Fault
header_at end bytes = do
  name ← number_in w32 magic magic (At end) end bytes
  version ← version_at end name.1
  table ← number_at w64 (At end) version.1
  count ← number_in w16 0 64 (At end) end table.1
  columns ← columns_at end count.0 count.1
  Ok (record { table = cast_signed w64 table.0; columns = columns.0 }, columns.1)
