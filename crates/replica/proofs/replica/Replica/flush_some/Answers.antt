use Rattle.std.proofs.Common.{rules, ◌≡◌, ◌∙◌, ◌<◌, length, sym, subst, Some, true, false}
use Rattle.std.specs.Prelude.{slice_get}
use Rattle.segment_flush.proofs.Planned.{index_there}
use Rattle.replica.specs.Learner.{Learner}
use Rattle.replica.proofs.Following.{follows_itself}
use Rattle.replica.proofs.OneFlush.{named_before, named_now}
use Rattle.replica.proofs.replica.Replica.flush_some.Goals as goal

pub returns-then-not-has_more-clause-follows : goal.returns-then-not-has_more-clause-follows
returns-then-not-has_more-clause-follows g c = follows_itself g.D.Disk g.D.Reader.Grip.Gripped.bytes g.met.D.Disk.only_now c.args.self.now

pub returns-then-not-has_more-clause-done : goal.returns-then-not-has_more-clause-done
returns-then-not-has_more-clause-done g c = λ z there.
    let r : Learner _ _ = record { store = c.self.inside.store; core = c.self.inside.state; retired = c.self.inside.retired.items } in
    let slot = c.index-slots-place.result in
    let within : c.args.place < length r.core.slots = subst (λ x. c.args.place < length x.core.slots) (sym c.self.view_is) c.requires.within in
    let inside : slice_get r.core.slots c.args.place ≡ Some slot = index_there r.core.slots c.slots.result.now c.args.place slot (c.slots.ensures ∙ c.segments.ensures) within c.index-slots-place.is in
    let here : slice_get c.args.self.now.core.slots c.args.place ≡ Some slot = subst (λ x. slice_get x.core.slots c.args.place ≡ Some slot) c.self.view_is inside in
    let none : c.has_more.result ≡ false = search rules in
    named_before c.args.self.now c.args.place slot z here there c.mem_rows-rows.result c.mem_rows-rows.ensures (sym c.has_more.ensures ∙ none)

pub returns-clause-done : goal.returns-clause-done
returns-clause-done g c = λ z there.
    let r : Learner _ _ = record { store = c.self.inside.store; core = c.self.inside.state; retired = c.self.inside.retired.items } in
    let slot = c.index-slots-place.result in
    let within : c.args.place < length r.core.slots = subst (λ x. c.args.place < length x.core.slots) (sym c.self.view_is) c.requires.within in
    let inside : slice_get r.core.slots c.args.place ≡ Some slot = index_there r.core.slots c.slots.result.now c.args.place slot (c.slots.ensures ∙ c.segments.ensures) within c.index-slots-place.is in
    let here : slice_get c.args.self.now.core.slots c.args.place ≡ Some slot = subst (λ x. slice_get x.core.slots c.args.place ≡ Some slot) c.self.view_is inside in
    let some : c.has_more.result ≡ true = search rules in
    named_now c.args.self.now c.args.place slot z here there c.mem_rows-rows.result c.mem_rows-rows.ensures c.flush_at.new.self (sym c.has_more.ensures ∙ some) (c.in_ok-flush_at.ensures.done z there)
