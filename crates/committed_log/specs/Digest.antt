-- To be believed.
-- The chain of a log: one SHA-256 digest for its header, and one for each entry behind it, of which each covers those before it.
use Rattle.std.specs.Prelude.{ℕ, ℤ, List, ◌++◌, fold, map}
use Rattle.sha2.specs.Sha256.{sha256}
use Rattle.sha2.specs.Hashers.{Holds256}
use Rattle.sha2.specs.declared.Sha256.{Sha256}
use Rattle.column_block.specs.declared.column.Column.{Column}
use Rattle.column_block.specs.declared.column.Kind.{Kind}
use Rattle.column_block.specs.declared.column.Kind.TheVariants as kind
use Rattle.log_codec.specs.Spelling.{header, frame}
use Rattle.log_codec.specs.declared.entry.Entry.{Entry}
use Rattle.log_codec.specs.declared.header.ColumnSpec.{ColumnSpec}
use Rattle.log_codec.specs.declared.header.Header.{Header}

-- a kind as a log's header has it
abbrev pub kind_byte : Kind → ℕ
kind_byte kind.Int = 1
kind_byte kind.Uint = 2
kind_byte kind.Bytes = 3

abbrev pub spec_of : Column → ColumnSpec
spec_of c = record { id = c.id; kind = kind_byte c.kind }

abbrev pub header_of : ℤ → List Column → Header
header_of table schema = record { table = table; columns = map spec_of schema }

-- the digest of a log's header alone
abbrev pub begun : ℤ → List Column → List ℕ
begun table schema = sha256 (header (header_of table schema))

-- the digest of the digest before it and the entry's frame, its length included
abbrev pub extended_by : List ℕ → Entry → List ℕ
extended_by digest entry = sha256 (digest ++ frame entry)

-- The digest of a log of this table with these entries.
abbrev pub chain : ℤ → List Column → List Entry → List ℕ
chain table schema entries = fold extended_by (begun table schema) entries

-- ---- the program's steps

-- a hasher that held a message holds it with these bytes behind it
abbrev pub Feeds : Sha256 → List ℕ → Sha256 → Type 0
Feeds old bytes new = (m : List ℕ) → Holds256 old m → Holds256 new (m ++ bytes)
