use Rattle.std.proofs.Common.{◌≡◌, ◌∙◌, ◌++◌, ◌∷◌, [], List, Some, sym, ap, ℤ, ℕ, Option}
use Rattle.manifest_form.specs.declared.state.StoredSegment.{StoredSegment}
use Rattle.manifest_form.specs.States.{least_handle}
use Rattle.manifest_form.specs.Slots.{present}
use Rattle.manifest_form.specs.Counting.{before, end_from}
use Rattle.manifest_form.proofs.Faults.{end_last}
use Rattle.manifest_form.proofs.counting.end_before.Goals as goal

pub returns-in-Some-default-Some : goal.returns-in-Some-default-Some
returns-in-Some-default-Some c =
    let x = c.in-Some-default-Some in
    let key = x.field-0-0.now in
    let rest = c.next_back.new.self in
    let steps = rw x.is at c.next_back.ensures.steps in
    let last : c.range.result ≡ rest ++ (key, Some x.segment) ∷ [] = steps ∙ ap (λ (slot : Option StoredSegment). rest ++ (key, slot) ∷ []) x.field-0-1-is in
    let all : before c.args.place c.args.places.now.entries ≡ rest ++ (key, Some x.segment) ∷ [] = sym (c.range.ensures.between tt) ∙ last in
    sym (ap (λ (es : List ((ℤ × ℕ) × Option StoredSegment)). end_from (Some least_handle) (present es)) all ∙ end_last (Some least_handle) rest key x.segment)
