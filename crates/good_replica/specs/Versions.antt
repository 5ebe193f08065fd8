-- Versions of rows, as the log commits them.
use Rattle.std.specs.Prelude.{ℕ, ℤ, Bool, ◌&&◌, Option, Some, None, List, [], ◌==◌, option_map, find}
use Rattle.std.specs.Ordering.{int_eq}
use Rattle.column_block.specs.declared.cell.Version.{Version}
use Rattle.column_block.specs.declared.column.Column.{Column}
use Rattle.committed_log.specs.Log.{Log, at}
use Rattle.committed_log.specs.Reads.{cells}
use Rattle.committed_log.specs.Store.{is_delete}
use Rattle.committed_log.specs.declared.store.Commit.{Commit}

-- The versions of one row, each at its commit timestamp.
abbrev pub Versions : Type 0
Versions = ℕ → Option Version

-- A commit as the files have it: a put with its cells, or a delete, which is gone and has none.
abbrev pub version_of : List Column → Commit → Version
version_of schema c = record { handle = c.handle; ts = c.ts; gone = is_delete c; cells = elim c.value [ None ↦ [] | Some value ↦ cells schema value ] }

-- whether a commit is on the handle at the timestamp
abbrev pub is_on : ℤ → ℕ → Commit → Bool
is_on h ts c = int_eq c.handle h && c.ts == ts

-- What the first p entries of the log have committed of a handle.
abbrev pub written : Log → ℤ → ℕ → Versions
written log h p ts = option_map (version_of log.schema) (find (is_on h ts) (at log p).commits)
