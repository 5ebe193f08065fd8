use Rattle.std.proofs.Common.{◌∙◌, sym, subst, w64, SFits, rules, Some, None, cond}
use Rattle.std.specs.BTreeMap.{get, is_at}
use Rattle.std.proofs.lemmas.Int.{to_z-of_z}
use Rattle.std.proofs.lemmas.Result.{on_ok_weaker}
use Rattle.committed_log.specs.Store.{value_cmp}
use Rattle.committed_log.specs.declared.op.FamilyOp.{FamilyOp}
use Rattle.region_state.specs.Folding.{after_one}
use Rattle.region_state.specs.Standing.{Stands}
use Rattle.region_state.proofs.Planning.{stands_put, stands_taken}
use Rattle.region_state.proofs.changes.change_value.Goals as goal

pub returns-in-Ok : goal.returns-in-Ok
returns-in-Ok c =
    let fits : SFits w64 c.in-Value.handle = search rules in
    on_ok_weaker c.note_value.result (λ updates values s stands.
    subst (λ (op : FamilyOp). Stands values c.note_value.new.changes (after_one s op)) (sym c.in-Value.is)
    (stands_put values c.args.changes.now c.note_value.new.changes s c.in-Value.handle c.in-Value.start c.in-Value.bytes
    (λ q. updates q ∙ (λ i. cond (is_at (value_cmp (to_z-of_z w64 _ fits i, c.in-Value.start)) q) (Some (Some (c.in-Ok.ensures i))) (get value_cmp c.args.changes.now q))) stands))
    c.note_value.ensures

pub returns-in-DropValue : goal.returns-in-DropValue
returns-in-DropValue c =
    let fits : SFits w64 c.in-DropValue.handle = search rules in
    on_ok_weaker c.note_value-in-DropValue.result (λ updates values s stands.
    subst (λ (op : FamilyOp). Stands values c.note_value-in-DropValue.new.changes (after_one s op)) (sym c.in-DropValue.is)
    (stands_taken values c.args.changes.now c.note_value-in-DropValue.new.changes s c.in-DropValue.handle c.in-DropValue.start
    (λ q. updates q ∙ (λ i. cond (is_at (value_cmp (to_z-of_z w64 _ fits i, c.in-DropValue.start)) q) (Some None) (get value_cmp c.args.changes.now q))) stands))
    c.note_value-in-DropValue.ensures
