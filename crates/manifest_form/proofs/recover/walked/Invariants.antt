use Rattle.std.proofs.Common.{◌≡◌, ◌-◌, ◌++◌, List, ℕ, length, None}
use Rattle.manifest_form.specs.States.{AllFormed}
use Rattle.manifest_form.specs.Walk.{walk, manifest_step}
use Rattle.manifest_form.specs.Takes.{Takes}
use Rattle.manifest_form.proofs.recover.walked.Given as goal

abbrev pub invariant-loop : goal.invariant-loop
invariant-loop l = record {
  walks : walk (manifest_step l.file) None l.len (length l.bytes - l.counter) l.state l.rest ≡ walk (manifest_step l.file) None l.len (length l.bytes) None l.bytes;
  formed : AllFormed l.file l.state;
  taken : (part : List ℕ) × (l.bytes ≡ part ++ l.rest) × Takes (manifest_step l.file) None (l.len - length l.bytes) None part l.state;
}
