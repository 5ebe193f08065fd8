use Rattle.std.proofs.Common.{◌≡◌, ◌∙◌, to_z, of_z, w64, ◌/◌, sym, subst, length, arith}
use Rattle.std.proofs.lemmas.Int.{to_z-of_z}
use Rattle.segment_split.specs.Halves.{handles, IsCut, IsMiddle}
use Rattle.segment_split.proofs.Handles.{is_cut, is_middle}
use Rattle.segment_split.proofs.middle.choose.Goals as goal

pub returns-clause-cut : goal.returns-clause-cut
returns-clause-cut g c =
    let back : to_z w64 (of_z w64 c.middle_of.result) ≡ c.middle_of.result = to_z-of_z w64 c.middle_of.result (record { sfits = c.middle_of.type_inv }) in
    let m = is_middle c.in-Ok.present c.deref.result.now c.middle_of.result (c.deref.ensures.value ∙ c.in-Ok-handles_of.ensures) (omega (arith, c.if-len-lt2.false, c.len.ensures, c.deref.ensures.len)) c.middle_of.ensures in
    subst (IsCut c.args.view.now.range) (sym back) (is_cut c.args.view.now.range c.in-Ok.present (length (handles c.in-Ok.present) / 2) c.middle_of.result c.in-Ok.ensures.rising c.in-Ok.ensures.within (omega (arith, m.many)) m.middle)

pub returns-clause-exact : goal.returns-clause-exact
returns-clause-exact g c = λ tells.
    let back : to_z w64 (of_z w64 c.middle_of.result) ≡ c.middle_of.result = to_z-of_z w64 c.middle_of.result (record { sfits = c.middle_of.type_inv }) in
    let m = is_middle c.in-Ok.present c.deref.result.now c.middle_of.result (c.deref.ensures.value ∙ c.in-Ok-handles_of.ensures) (omega (arith, c.if-len-lt2.false, c.len.ensures, c.deref.ensures.len)) c.middle_of.ensures in
    record { present = c.in-Ok.present; are = c.in-Ok.ensures.exact tells; such = subst (IsMiddle c.in-Ok.present) (sym back) m }
