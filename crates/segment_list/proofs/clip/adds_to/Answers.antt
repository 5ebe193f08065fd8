use Rattle.std.proofs.Common.{◌∙◌, ap, ℤ, FitsSigned, w64, rules}
use Rattle.std.specs.List.{list_any}
use Rattle.std.proofs.lemmas.Int.{to_z-of_z}
use Rattle.column_block.specs.Handles.{lies_in}
use Rattle.segment_list.specs.Slots.{is_in}
use Rattle.segment_list.proofs.KeptVersions.{any_kept}
use Rattle.segment_list.proofs.clip.adds_to.Goals as goal

pub returns : goal.returns
returns c =
    let fits : FitsSigned w64 c.args.range.low = search rules in
    c.has_in.ensures ∙ ap (λ (x : ℤ). list_any (lies_in x c.args.range.high) c.args.adds.now) (to_z-of_z w64 c.args.range.low fits) ∙ any_kept (is_in c.args.range) c.args.adds.now
