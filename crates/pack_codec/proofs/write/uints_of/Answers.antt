use Rattle.std.proofs.Common.{sym, arith, subst}
use Rattle.std.specs.List.{AllByRecursion}
use Rattle.pack_codec.specs.Spelling as spelling
use Rattle.pack_codec.specs.Spelling.{UintFits}
use Rattle.pack_codec.proofs.FieldSteps.{list_next, all_more}
use Rattle.pack_codec.proofs.write.uints_of.Goals as goal

pub loop-i-preserved : goal.loop-i-preserved
loop-i-preserved c = record {
  list = list_next (spelling.uint_of c.args.field) c.args.block.now c.args.from c.loop-i.i c.at.result.now c.uint_of.result c.loop-i.list c.push.new.self (omega arith) (omega arith) c.at.ensures c.uint_of.ensures.value c.in-Ok.ensures.ok c.loop-i.invariant.list;
  fits = subst (AllByRecursion UintFits) (sym c.in-Ok.ensures.ok) (all_more UintFits c.loop-i.list c.uint_of.result c.loop-i.invariant.fits (subst UintFits (sym c.uint_of.ensures.value) c.uint_of.ensures.fits));
}
