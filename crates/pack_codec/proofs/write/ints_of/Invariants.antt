use Rattle.std.proofs.Common.{◌≡◌, map, slice_range}
use Rattle.pack_codec.specs.Spelling as spelling
use Rattle.pack_codec.proofs.write.ints_of.Given as goal

abbrev pub invariant-loop-i : goal.invariant-loop-i
invariant-loop-i l = l.list ≡ map (spelling.int_of l.field) (slice_range l.block l.from l.i)
