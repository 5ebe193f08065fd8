-- Tiny files: `FLTN`, and a pack.
use Rattle.std.specs.Prelude.{ℕ, ◌==◌, List, ◌++◌, length, if◌then◌else◌, Result, Ok, Err}
use Rattle.std.specs.Int.{w32, to_be_bytes}
use Rattle.flash_list.specs.Steps.{◌>>=◌}
use Rattle.flash_list.specs.Fields.{number_at}
use Rattle.column_block.specs.declared.column.Column.{Column}
use Rattle.column_block.specs.declared.cell.Version.{Version}
use Rattle.pack_codec.specs.declared.fault.FormError.{FormError}
use Rattle.pack_codec.specs.declared.fault.FormError.TheVariants.{Damaged}
use Rattle.pack_codec.specs.Reading.{pack_at}
use Rattle.pack_codec.specs.Spelling.{pack}
use Rattle.column_file.specs.declared.file.ColumnFile.{ColumnFile}
use Rattle.column_file.specs.declared.file.ColumnFile.TheVariants.{Tiny}

-- `FLTN` as a number
abbrev pub magic : ℕ
magic = 0x464C544E

-- what stands behind the magic
unfoldable pub magic_at : List ℕ → Result (List ℕ) FormError
magic_at bytes = number_at w32 (Damaged (length bytes)) bytes >>= λ n. if n.0 == magic then Ok n.1 else Err (Damaged 0)

-- The versions of the tiny file that the bytes are, all of them, under a schema with these columns.
unfoldable pub tiny_at : List Column → List ℕ → Result (List Version) FormError
tiny_at columns bytes = magic_at bytes >>= λ rest. pack_at (length bytes) columns rest

-- the file of this number with these versions
unfoldable pub file_at : ℕ → List Column → List ℕ → Result ColumnFile FormError
file_at file columns bytes = tiny_at columns bytes >>= λ versions. Ok (Tiny file versions)

-- The tiny file of some versions.
unfoldable pub tiny : List Column → List Version → List ℕ
tiny columns versions = to_be_bytes w32 magic ++ pack columns versions
