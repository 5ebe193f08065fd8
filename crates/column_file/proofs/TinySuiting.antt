-- What is read of a tiny file suits the schema.
use Rattle.std.proofs.Common.{◌≡◌, ℕ, List, length, Ok}
use Rattle.std.specs.List.{AllByRecursion}
use Rattle.column_block.specs.declared.cell.Version.{Version}
use Rattle.column_block.specs.declared.column.Column.{Column}
use Rattle.column_block.specs.Suiting.{Suits}
use Rattle.pack_codec.proofs.Binds.{bind_ok}
use Rattle.pack_codec.proofs.Suiting.{pack_suits}
use Rattle.column_file.specs.Tiny.{tiny_at, magic_at}

pub tiny_suits : (columns : List Column) (bytes : List ℕ) (versions : List Version) → tiny_at columns bytes ≡ Ok versions → AllByRecursion (Suits columns) versions
unfolding tiny_at
tiny_suits columns bytes versions e = (let a = bind_ok (magic_at bytes) _ versions e in pack_suits columns (length bytes) a.0 versions a.2)
