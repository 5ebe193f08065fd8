use Rattle.std.proofs.Common.{◌≡◌, sym, subst, rules}
use Rattle.manifest_form.specs.declared.state.State.{State}
use Rattle.manifest_form.specs.States.{all_done, with_segments}
use Rattle.manifest_form.specs.Whole.{IdsDiffer}
use Rattle.manifest_form.proofs.Differ.{all_done_differ}
use Rattle.manifest_form.proofs.change.do_all.Goals as goal

pub returns-clause-differ : goal.returns-clause-differ
returns-clause-differ c = λ differ.
    let before = with_segments c.args.state.now c.args.ready.0 in
    let is : c.give_back.new.state ≡ all_done before c.args.ready.1 = search rules in
    subst (λ (x : State). IdsDiffer x.segments) (sym is) (all_done_differ before c.args.ready.1 differ)
