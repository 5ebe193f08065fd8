use Rattle.std.proofs.Common.{◌≡◌, ◌∙◌, ap}
use Rattle.std.specs.Prelude.{is_some}
use Rattle.flash_types.specs.declared.range.HandleRange.{HandleRange}
use Rattle.segment_list.specs.Slots.{Slotted, pushed_some, cleared_file, added_file}
use Rattle.segment_list.proofs.Pushes.{absorbed_range}
use Rattle.segment_list.proofs.slot.Slot.take_back.Goals as goal

pub returns-clause-back : goal.returns-clause-back
returns-clause-back g c = λ before tag was.
    let same : c.range-range.result ≡ before.range = c.range-range.ensures ∙ ap (λ (s : Slotted g.row.G.Denot). s.range) was ∙ absorbed_range tag c.args.clears c.args.adds.now before in
    let first : c.pop_some.new.self ≡ pushed_some tag (cleared_file before.range c.args.clears) before =
    c.pop_some.ensures.back (pushed_some tag (cleared_file before.range c.args.clears) before) tag (added_file before.range c.args.adds.now)
    (c.adds_to.ensures ∙ ap (λ (r : HandleRange). is_some (added_file r c.args.adds.now)) same) was in
    c.pop_some-2.ensures.back before tag (cleared_file before.range c.args.clears)
    (c.is_some.ensures ∙ ap is_some c.cleared_in.ensures ∙ ap (λ (r : HandleRange). is_some (cleared_file r c.args.clears)) same) first

pub returns-clause-key : goal.returns-clause-key
returns-clause-key g c = c.pop_some-2.ensures.key ∙ c.pop_some.ensures.key
