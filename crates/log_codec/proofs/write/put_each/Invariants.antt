use Rattle.std.proofs.Common.{◌≡◌, ◌++◌, take}
use Rattle.std.specs.List.{flat_map}
use Rattle.log_codec.specs.Spelling as spelling
use Rattle.log_codec.proofs.write.put_each.Given as goal

abbrev pub invariant-loop-op : goal.invariant-loop-op
invariant-loop-op l = l.into.items ≡ l.initial.into.items ++ flat_map spelling.op (take l.op-index l.list)
