use Rattle.std.proofs.Common.{◌≡◌, ◌<◌, ◌≤◌, Some, length, sym, subst}
use Rattle.std.specs.Arc.{arc_value}
use Rattle.std.specs.Prelude.{slice_get}
use Rattle.segment_flush.specs.Flushing.{is_slot}
use Rattle.segment_list.specs.Flushes.{IsFlushOf}
use Rattle.segment_list.specs.Slots.{Slotted}
use Rattle.replica_state.specs.Changes.{with_flushes}
use Rattle.replica_state.specs.Core.{Core}
use Rattle.replica_state.proofs.Flushes.{put_is, put_core, with_parts}
use Rattle.replica_state.proofs.state.State.put_flush.Goals as goal

pub invariant_of-self : goal.invariant_of-self
invariant_of-self g c =
    let s : Core _ = record { log = arc_value c.self.inside.logs; slots = c.self.inside.segments; table = c.self.inside.table; listed = c.self.inside.listed.items; committed = c.self.inside.committed; count = c.self.inside.count; highest = c.self.inside.highest; numbers = c.self.inside.numbers; settings = c.self.inside.settings } in
    let planned : (t : Slotted _) → slice_get s.slots c.args.place ≡ Some t → IsFlushOf t.files c.args.flush = subst (λ (x : Core _). (t : Slotted _) → slice_get x.slots c.args.place ≡ Some t → IsFlushOf t.files c.args.flush) (sym c.self.view_is) c.requires.planned in
    let lt : c.args.place < length s.slots = subst (λ (x : Core _). c.args.place < length x.slots) (sym c.self.view_is) c.requires.within in
    let from : c.args.flush.from ≡ s.numbers.next = subst (λ (x : Core _). c.args.flush.from ≡ x.numbers.next) (sym c.self.view_is) c.requires.from in
    let no_lower : s.numbers.high ≤ c.args.high = subst (λ (x : Core _). x.numbers.high ≤ c.args.high) (sym c.self.view_is) c.requires.no_lower in
    let within : c.args.high ≤ length s.log.entries = subst (λ (x : Core _). c.args.high ≤ length x.log.entries) (sym c.self.view_is) c.requires.in_log in
    put_core s c.self.invariant c.numbers_differ.ensures c.args.place c.args.flush c.args.high c.put_flush.new.self lt planned from no_lower within c.put_flush.ensures

pub returns : goal.returns
returns g c = λ t here.
    let s : Core _ = record { log = arc_value c.self.inside.logs; slots = c.self.inside.segments; table = c.self.inside.table; listed = c.self.inside.listed.items; committed = c.self.inside.committed; count = c.self.inside.count; highest = c.self.inside.highest; numbers = c.self.inside.numbers; settings = c.self.inside.settings } in
    let planned : (u : Slotted _) → slice_get s.slots c.args.place ≡ Some u → IsFlushOf u.files c.args.flush = subst (λ (x : Core _). (u : Slotted _) → slice_get x.slots c.args.place ≡ Some u → IsFlushOf u.files c.args.flush) (sym c.self.view_is) c.requires.planned in
    let from : c.args.flush.from ≡ s.numbers.next = subst (λ (x : Core _). c.args.flush.from ≡ x.numbers.next) (sym c.self.view_is) c.requires.from in
    let there : slice_get s.slots c.args.place ≡ Some t = subst (λ (x : Core _). slice_get x.slots c.args.place ≡ Some t) (sym c.self.view_is) here in
    subst (λ (x : Core _). with_parts s c.put_flush.new.self c.args.flush.next c.args.high ≡ with_flushes (is_slot t.id) c.args.high x) c.self.view_is (put_is s c.numbers_differ.ensures c.args.place c.args.flush c.args.high c.put_flush.new.self planned from c.put_flush.ensures t there)
