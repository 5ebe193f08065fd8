use Rattle.std.proofs.Common.{◌≡◌, map, slice_range}
use Rattle.std.specs.List.{AllByRecursion}
use Rattle.pack_codec.specs.Spelling as spelling
use Rattle.pack_codec.specs.Spelling.{TextFits}
use Rattle.pack_codec.proofs.write.texts_of.Given as goal

abbrev pub invariant-loop-i : goal.invariant-loop-i
invariant-loop-i l = record {
  list : l.list ≡ map (spelling.text_of l.field) (slice_range l.block l.from l.i);
  fits : AllByRecursion TextFits l.list;
}
