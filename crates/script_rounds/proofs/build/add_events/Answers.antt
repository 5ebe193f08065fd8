use Rattle.std.proofs.Common.{rules, ◌<◌, length}
use Rattle.std.specs.BTreeMap.{get}
use Rattle.std.specs.Ordering.{nat_cmp}
use Rattle.std.proofs.lemmas.Option.{get_or_from_slice_get}
use Rattle.script_rounds.proofs.Gathered.{event_added}
use Rattle.script_rounds.proofs.build.add_events.Goals as goal

pub loop-i-preserved : goal.loop-i-preserved
loop-i-preserved c =
    let lt : c.loop-i.i < length c.args.events.now = search rules in
    let event = c.event_at-event.result in
    event_added c.args.end c.loop-i.i c.args.events.now event (get nat_cmp c.args.rounds.now) (get nat_cmp c.loop-i.rounds) (get nat_cmp c.add_event.new.rounds) lt (get_or_from_slice_get c.args.events.now c.loop-i.i event event c.event_at-event.ensures) c.loop-i.invariant c.in_ok-add_event.ensures
