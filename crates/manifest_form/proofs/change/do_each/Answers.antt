use Rattle.std.proofs.Common.{◌≡◌, ◌∷◌, List, sym, subst, rules}
use Rattle.std.specs.Prelude.{is_some}
use Rattle.std.specs.BTreeMap.{get}
use Rattle.std.specs.Ordering.{nat_cmp}
use Rattle.manifest_form.specs.declared.state.Edit.{Edit}
use Rattle.manifest_form.specs.Slots.{place_cmp, turn_after, HaveRoom}
use Rattle.manifest_form.proofs.Rooms.{room_stays, turn_rises}
use Rattle.manifest_form.proofs.change.do_each.Goals as goal

pub loop-edit-init : goal.loop-edit-init
loop-edit-init c =
    let s = c.args.slots.now in
    let all : c.into_iter-edit-iterator.result.rest.items ≡ c.args.edits.items = search rules in
    record {
      done = search rules;
      fits = c.requires.fits;
      room = subst (λ (xs : List Edit). HaveRoom (λ q. is_some (get place_cmp s.places q)) (λ i. is_some (get nat_cmp s.ids i)) xs s.turn) (sym all) c.requires.room;
    }

pub loop-edit-preserved : goal.loop-edit-preserved
loop-edit-preserved c =
    let s = c.loop-edit.slots in
    let t = c.do_one.new.slots in
    let edit = c.in-Some.edit in
    let next : c.loop-edit.edit-iterator.rest.items ≡ edit ∷ c.next.new.self.rest.items = search rules in
    let room = subst (λ (xs : List Edit). HaveRoom (λ q. is_some (get place_cmp s.places q)) (λ i. is_some (get nat_cmp s.ids i)) xs s.turn) next c.loop-edit.invariant.room in
    let rest = room_stays (λ q. is_some (get place_cmp s.places q)) (λ q. is_some (get place_cmp t.places q)) (λ i. is_some (get nat_cmp s.ids i)) (λ i. is_some (get nat_cmp t.ids i)) c.next.new.self.rest.items s.turn (turn_after edit s.turn) (turn_rises edit s.turn) c.do_one.ensures.later c.do_one.ensures.known room.1 in
    record {
      done = search rules;
      fits = c.do_one.ensures.fits;
      room = rw c.do_one.ensures.turn rest;
    }
