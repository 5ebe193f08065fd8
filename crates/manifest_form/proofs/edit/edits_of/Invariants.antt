use Rattle.std.proofs.Common.{◌≡◌, ◌-◌, length}
use Rattle.manifest_form.specs.Edits.{some_edits, edits_of}
use Rattle.manifest_form.proofs.SomeEdits.{behind}
use Rattle.manifest_form.proofs.edit.edits_of.Given as goal

abbrev pub invariant-loop : goal.invariant-loop
invariant-loop l = behind l.edits (some_edits (length l.bytes - l.counter) l.stop l.rest) ≡ edits_of l.stop l.bytes
