use Rattle.std.proofs.Common.{map}
use Rattle.segment_list.specs.Lists.{range_alone}
use Rattle.opened_segments.proofs.Slots.{same_ranges, slots_differ}
use Rattle.opened_segments.proofs.segments.listed.Goals as goal

pub new-requires-clause-cover : goal.new-requires-clause-cover
new-requires-clause-cover g c = c.covers_agree.ensures.formed_told c.args.own c.args.state.now (map range_alone c.args.slots.items) (same_ranges c.args.slots.items c.args.state.now.segments c.requires.stored) c.requires.formed

pub new-requires-clause-numbers : goal.new-requires-clause-numbers
new-requires-clause-numbers g c = slots_differ c.args.slots.items c.args.state.now.segments c.requires.stored c.requires.differ
