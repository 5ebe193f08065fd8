use Rattle.std.proofs.Common.{◌≡◌, ◌∙◌, None, Some, true, false, ap, sym, subst}
use Rattle.manifest_form.specs.declared.state.State.{State}
use Rattle.segment_list.specs.Lists.{is_file_in}
use Rattle.replica.specs.Learner.{Learner}
use Rattle.replica.specs.Steps.{freed}
use Rattle.replica.proofs.Puts.{freed_is}
use Rattle.replica.proofs.replica.Replica.freed.Goals as goal

pub returns-then-is_named : goal.returns-then-is_named
returns-then-is_named g c =
    let r : Learner _ _ = record { store = c.self.inside.store; core = c.self.inside.state; retired = c.self.inside.retired.items } in
    subst (λ x. None ≡ freed x) c.self.view_is
    (sym (freed_is r c.in-Some.file true (ap (λ (st : State). st.regions) (sym c.state.ensures) ∙ c.in-Some.is) (ap (is_file_in c.in-Some.file) (sym c.segments.ensures) ∙ sym c.is_named.ensures ∙ c.if-is_named.true)))

pub returns : goal.returns
returns g c =
    let r : Learner _ _ = record { store = c.self.inside.store; core = c.self.inside.state; retired = c.self.inside.retired.items } in
    subst (λ x. Some c.in-Some.file ≡ freed x) c.self.view_is
    (sym (freed_is r c.in-Some.file false (ap (λ (st : State). st.regions) (sym c.state.ensures) ∙ c.in-Some.is) (ap (is_file_in c.in-Some.file) (sym c.segments.ensures) ∙ sym c.is_named.ensures ∙ c.if-is_named.false)))
