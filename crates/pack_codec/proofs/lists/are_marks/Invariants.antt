use Rattle.std.proofs.Common.{◌≡◌, drop}
use Rattle.std.specs.List.{list_all}
use Rattle.pack_codec.specs.Rows.{is_mark}
use Rattle.pack_codec.proofs.lists.are_marks.Given as goal

abbrev pub invariant-loop-value : goal.invariant-loop-value
invariant-loop-value l = list_all is_mark (drop l.value-index l.values) ≡ list_all is_mark l.values
