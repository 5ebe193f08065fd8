use Rattle.std.proofs.Common.{◌≡◌, ◌∙◌, ap, sym, subst, List, Some, None}
use Rattle.std.specs.Prelude.{◌==◌, position}
use Rattle.segment_list.specs.Slots.{Slotted}
use Rattle.replica.specs.Steps.{HasFlushed}
use Rattle.replica.proofs.Following.{follows_itself}
use Rattle.replica.proofs.OneFlush.{found_slot}
use Rattle.replica.proofs.replica.Replica.flush.Goals as goal

pub returns-in-None-clause-follows : goal.returns-in-None-clause-follows
returns-in-None-clause-follows g c = follows_itself g.D.Disk g.D.Reader.Grip.Gripped.bytes g.met.D.Disk.only_now c.args.self.now

pub returns-in-None-clause-absent : goal.returns-in-None-clause-absent
returns-in-None-clause-absent g c = λ same.
    subst (λ r. position (λ (s : Slotted _). s.id == c.args.seg) r.core.slots ≡ None) c.self.view_is
    (ap (λ (ss : List (Slotted _)). position (λ (s : Slotted _). s.id == c.args.seg) ss) (sym c.segments.ensures) ∙ sym c.in-None.ensures)

pub returns-in_err-rows-in-Some-clause-there : goal.returns-in_err-rows-in-Some-clause-there
returns-in_err-rows-in-Some-clause-there g c = λ none.
    let found : position (λ (s : Slotted _). s.id == c.args.seg) c.args.self.now.core.slots ≡ Some c.in-Some.place =
    subst (λ r. position (λ (s : Slotted _). s.id == c.args.seg) r.core.slots ≡ Some c.in-Some.place) c.self.view_is
    (ap (λ (ss : List (Slotted _)). position (λ (s : Slotted _). s.id == c.args.seg) ss) (sym c.segments.ensures) ∙ sym c.in-Some.ensures) in
    absurd (cc (sym found ∙ none))

pub returns-in_ok-rows-in-Some-clause-done : goal.returns-in_ok-rows-in-Some-clause-done
returns-in_ok-rows-in-Some-clause-done g c =
    let found : position (λ (s : Slotted _). s.id == c.args.seg) c.args.self.now.core.slots ≡ Some c.in-Some.place =
    subst (λ r. position (λ (s : Slotted _). s.id == c.args.seg) r.core.slots ≡ Some c.in-Some.place) c.self.view_is
    (ap (λ (ss : List (Slotted _)). position (λ (s : Slotted _). s.id == c.args.seg) ss) (sym c.segments.ensures) ∙ sym c.in-Some.ensures) in
    let it = found_slot c.args.seg c.args.self.now.core.slots c.in-Some.place found in
    subst (λ id. HasFlushed id c.in_ok-rows-in-Some.rows c.args.self.now c.flush_some.new.self) it.2 (c.in_ok-rows-in-Some.ensures.done it.0 it.1)

pub returns-in_ok-rows-in-Some-clause-there : goal.returns-in_ok-rows-in-Some-clause-there
returns-in_ok-rows-in-Some-clause-there g c = λ none.
    let found : position (λ (s : Slotted _). s.id == c.args.seg) c.args.self.now.core.slots ≡ Some c.in-Some.place =
    subst (λ r. position (λ (s : Slotted _). s.id == c.args.seg) r.core.slots ≡ Some c.in-Some.place) c.self.view_is
    (ap (λ (ss : List (Slotted _)). position (λ (s : Slotted _). s.id == c.args.seg) ss) (sym c.segments.ensures) ∙ sym c.in-Some.ensures) in
    absurd (cc (sym found ∙ none))
