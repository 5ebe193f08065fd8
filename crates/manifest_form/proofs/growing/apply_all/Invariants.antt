use Rattle.std.proofs.Common.{◌≡◌}
use Rattle.manifest_form.specs.States.{all_done}
use Rattle.manifest_form.proofs.growing.apply_all.Given as goal

abbrev pub invariant-loop-edit : goal.invariant-loop-edit
invariant-loop-edit l = all_done l.growing l.edit-iterator.rest.items ≡ all_done l.fn.growing l.fn.edits
