use Rattle.std.proofs.Common.{◌≡◌, ◌++◌, take}
use Rattle.std.specs.List.{All, flat_map}
use Rattle.manifest_form.specs.Spelling as spelling
use Rattle.manifest_form.specs.Spelling.{ColumnFits}
use Rattle.manifest_form.proofs.put.put_each_column.Given as goal

abbrev pub invariant-loop-column : goal.invariant-loop-column
invariant-loop-column l = record {
  bytes : l.into.items ≡ l.initial.into.items ++ flat_map spelling.column (take l.column-index l.columns);
  fits : All ColumnFits (take l.column-index l.columns);
}
