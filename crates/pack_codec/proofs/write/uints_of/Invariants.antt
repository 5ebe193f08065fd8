use Rattle.std.proofs.Common.{◌≡◌, map, slice_range}
use Rattle.std.specs.List.{AllByRecursion}
use Rattle.pack_codec.specs.Spelling as spelling
use Rattle.pack_codec.specs.Spelling.{UintFits}
use Rattle.pack_codec.proofs.write.uints_of.Given as goal

abbrev pub invariant-loop-i : goal.invariant-loop-i
invariant-loop-i l = record {
  list : l.list ≡ map (spelling.uint_of l.field) (slice_range l.block l.from l.i);
  fits : AllByRecursion UintFits l.list;
}
