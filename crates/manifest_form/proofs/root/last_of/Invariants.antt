use Rattle.std.proofs.Common.{◌≡◌, ◌++◌, ◌-◌, List, ℕ, length, Some, None}
use Rattle.manifest_form.specs.Walk.{walk, root_step}
use Rattle.manifest_form.specs.Takes.{Takes}
use Rattle.manifest_form.proofs.root.last_of.Given as goal

abbrev pub invariant-loop : goal.invariant-loop
invariant-loop l = record {
  walks : walk root_step (Some 4) (length l.bytes) (length l.bytes - l.counter) l.name l.rest ≡ walk root_step (Some 4) (length l.bytes) (length l.bytes) None l.bytes;
  taken : (front : List ℕ) × (l.bytes ≡ front ++ l.rest) × Takes root_step (Some 4) 0 None front l.name;
}
