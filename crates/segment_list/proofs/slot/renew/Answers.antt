use Rattle.std.proofs.Common.{◌≡◌, ◌∙◌, sym, ap, subst, true}
use Rattle.std.specs.List.{list_any}
use Rattle.delta_layer.specs.Files.{is_mem}
use Rattle.delta_layer.specs.Repacked.{Repacked}
use Rattle.segment_list.proofs.Flushing.{new_segment, repacked_all, same_segment}
use Rattle.segment_list.proofs.slot.renew.Goals as goal

pub returns-then-not-has_mem : goal.returns-then-not-has_mem
returns-then-not-has_mem g c = same_segment c.args.flush.from c.args.segment.now (ap (list_any is_mem) (sym c.layer.ensures) ∙ sym c.has_mem.ensures ∙ c.if-not-has_mem.true)

pub renew-requires-clause-repacked : goal.renew-requires-clause-repacked
renew-requires-clause-repacked g c =
    let any : list_any is_mem c.args.segment.now.layer ≡ true = ap (list_any is_mem) (sym c.layer.ensures) ∙ sym c.has_mem.ensures ∙ c.if-not-has_mem.false in
    subst (Repacked c.args.segment.now.layer) (sym c.requires.planned.layer) (repacked_all c.args.flush.from c.args.segment.now.layer any)

pub returns : goal.returns
returns g c =
    let any : list_any is_mem c.args.segment.now.layer ≡ true = ap (list_any is_mem) (sym c.layer.ensures) ∙ sym c.has_mem.ensures ∙ c.if-not-has_mem.false in
    c.renew.ensures ∙ new_segment c.args.flush.from c.args.segment.now c.args.flush.layer any c.requires.planned.layer
