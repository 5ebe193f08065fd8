use Rattle.std.proofs.Common.{◌≡◌, length, take}
use Rattle.std.specs.List.{flat_map}
use Rattle.log_codec.specs.Spelling as spelling
use Rattle.committed_log.proofs.sizes.each_len.Given as goal

abbrev pub invariant-loop-op : goal.invariant-loop-op
invariant-loop-op l = l.len ≡ length (flat_map spelling.op (take l.op-index l.list))
