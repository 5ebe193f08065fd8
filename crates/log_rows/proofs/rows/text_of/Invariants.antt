use Rattle.std.proofs.Common.{◌≡◌, ◌+◌, ◌++◌, length, filter_map}
use Rattle.std.specs.Prelude.{flat_map}
use Rattle.tool_text.specs.Texts.{line}
use Rattle.log_rows.specs.Folds.{row_of_known, shown_rows}
use Rattle.log_rows.proofs.rows.text_of.Given as goal

abbrev pub invariant-loop-handle : goal.invariant-loop-handle
invariant-loop-handle l = record {
  text : l.text.items ++ flat_map line (filter_map (row_of_known l.schema) l.handle-iterator) ≡ flat_map line (shown_rows l.schema l.fold.handles);
  count : l.count + length (filter_map (row_of_known l.schema) l.handle-iterator) ≡ length (shown_rows l.schema l.fold.handles);
}
