-- The header of a log: `FLASHLOG`, version 1, the table and its columns.
use Rattle.std.specs.Prelude.{ℕ, ◌+◌, ◌-◌, List, length, nat_lt, if◌then◌else◌, Result, Ok, Err}
use Rattle.std.specs.Int.{w16, w32, w64, cast_signed}
use Rattle.flash_list.specs.Steps.{◌>>=◌, each_at}
use Rattle.flash_list.specs.Fields.{number_at}
use Rattle.log_codec.specs.declared.fault.FrameError.{FrameError}
use Rattle.log_codec.specs.declared.fault.FrameError.TheVariants.{Short}
use Rattle.log_codec.specs.declared.header.Header.{Header}
use Rattle.log_codec.specs.declared.header.ColumnSpec.{ColumnSpec}
use Rattle.log_codec.specs.Fields.{passes, number_in, byte_in}

unfoldable pub id_at : ℕ → ℕ → List ℕ → Result (ℕ × List ℕ) FrameError
id_at end least bytes = do
  id ← number_at w32 (Short end) bytes
  if nat_lt id.0 least then Err (passes end bytes) else Ok id

-- a column, whose id isn't below the least one that may stand here
unfoldable pub column_at : ℕ → ℕ → List ℕ → Result (ColumnSpec × List ℕ) FrameError
column_at end least bytes = do
  id ← id_at end least bytes
  kind ← byte_in 1 3 (Short end) end id.1
  Ok (record { id = id.0; kind = kind.0 }, kind.1)

-- the least id that may stand behind a column
abbrev pub above : ColumnSpec → ℕ
above column = column.id + 1

unfoldable pub columns_at : ℕ → ℕ → List ℕ → Result (List ColumnSpec × List ℕ) FrameError
columns_at end count bytes = each_at (column_at end) above count 0 bytes

-- `FLASHLOG`, as a number of eight bytes
abbrev pub magic : ℕ
magic = 0x464C_4153_484C_4F47

-- the header, and what stands behind it
unfoldable pub header_at : ℕ → List ℕ → Result (Header × List ℕ) FrameError
header_at end bytes = do
  name ← number_in w64 magic magic (Short end) end bytes
  version ← number_in w16 1 1 (Short end) end name.1
  table ← number_at w64 (Short end) version.1
  count ← number_in w16 0 64 (Short end) end table.1
  columns ← columns_at end count.0 count.1
  Ok (record { table = cast_signed w64 table.0; columns = columns.0 }, columns.1)

-- the header at the front of a file, and the place behind it
unfoldable pub headed : List ℕ → Result (Header × ℕ) FrameError
headed bytes = header_at (length bytes) bytes >>= λ header. Ok (header.0, length bytes - length header.1)
