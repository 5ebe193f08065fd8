use Rattle.std.proofs.Common.{◌≡◌, ◌∙◌, ap, None, rules, SFits, w64}
use Rattle.std.proofs.lemmas.Int.{to_z-of_z}
use Rattle.manifest_form.specs.States.{after_record}
use Rattle.manifest.specs.Made.{first_edits, first_state}
use Rattle.manifest.proofs.Created.{first_after}
use Rattle.manifest.proofs.creating.first_bytes.Goals as goal

pub returns : goal.returns
returns c =
    let fits : SFits w64 c.args.table = c.ranges.table in
    let edits_is : c.as_slice.result.now ≡ first_edits c.args.chain = search rules in
    let read = c.in_ok-bytes.ensures 1 (first_state c.args.chain) (ap (after_record 1 None) edits_is ∙ first_after c.args.chain) in
    simp to_z-of_z at read
