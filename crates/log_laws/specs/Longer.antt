-- A log that goes on where another ends.
use Rattle.std.specs.Prelude.{◌≡◌, List, ◌++◌}
use Rattle.log_codec.specs.declared.entry.Entry.{Entry}
use Rattle.committed_log.specs.Log.{Log}

-- the long log is of the same table and columns, and its entries begin with those of the short one
pub record GoesOn (short long : Log) : Type 0 where
  pub table : long.table ≡ short.table
  pub schema : long.schema ≡ short.schema
  pub more : List Entry
  pub entries : long.entries ≡ short.entries ++ more
