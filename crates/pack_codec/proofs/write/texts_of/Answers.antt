use Rattle.std.proofs.Common.{List, Option, ℕ, ◌++◌, ◌∷◌, [], ap, refl, sym, ◌∙◌, arith, subst}
use Rattle.std.specs.List.{AllByRecursion}
use Rattle.pack_codec.specs.Spelling as spelling
use Rattle.pack_codec.specs.Spelling.{TextFits}
use Rattle.pack_codec.proofs.FieldSteps.{list_next, all_more}
use Rattle.pack_codec.proofs.write.texts_of.Goals as goal

pub loop-i-preserved : goal.loop-i-preserved
loop-i-preserved c =
    let text = spelling.text_of c.args.field c.at.result.now in
    let added = c.in_ok-push.ensures.ok ∙ ap (λ (x : Option (List ℕ)). c.loop-i.list ++ x ∷ []) c.text_of.ensures.value in
    record {
      list = list_next (spelling.text_of c.args.field) c.args.block.now c.args.from c.loop-i.i c.at.result.now text c.loop-i.list c.push.new.self (omega arith) (omega arith) c.at.ensures refl added c.loop-i.invariant.list;
      fits = subst (AllByRecursion TextFits) (sym added) (all_more TextFits c.loop-i.list text c.loop-i.invariant.fits c.text_of.ensures.fits);
    }
