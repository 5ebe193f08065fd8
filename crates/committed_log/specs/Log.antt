-- To be believed.
-- The committed log of one table.
use Rattle.std.specs.Prelude.{ℕ, ℤ, List, take}
use Rattle.column_block.specs.declared.column.Column.{Column}
use Rattle.log_codec.specs.declared.entry.Entry.{Entry}
use Rattle.committed_log.specs.Store.{Store, store_of}

-- the table's id, its columns, and the committed entries of its regions; an entry's position is its place in the list
pub record Log : Type 0 where
  pub table : ℤ
  pub schema : List Column
  pub entries : List Entry

-- the store after the first p entries
abbrev pub at : Log → ℕ → Store
at log p = store_of log.table (take p log.entries)

-- the store after all of them
abbrev pub end : Log → Store
end log = store_of log.table log.entries
