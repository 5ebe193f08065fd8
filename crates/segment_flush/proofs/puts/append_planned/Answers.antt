use Rattle.std.proofs.Common.{◌∙◌, sym}
use Rattle.segment_flush.specs.Flushing.{has_more}
use Rattle.segment_flush.specs.Names.{stored_of}
use Rattle.segment_list.specs.Flushes.{flushed_slot}
use Rattle.segment_flush.proofs.Planned.{no_edits, none_planned, put_edits, some_planned}
use Rattle.segment_flush.proofs.puts.append_planned.Goals as goal

pub returns-in-None : goal.returns-in-None
returns-in-None g c = λ n planned. no_edits (has_more c.args.slot.now) (stored_of (flushed_slot n c.args.slot.now)) c.args.edits.now.items (none_planned (has_more c.args.slot.now) n c.args.slot.now (sym c.in-None.is ∙ planned))

pub returns-in_ok-append-in-Some : goal.returns-in_ok-append-in-Some
returns-in_ok-append-in-Some g c = λ n planned.
    put_edits (has_more c.args.slot.now) n c.args.slot.now c.in-Some.flush c.in_ok-segment-in-Some.segment c.args.edits.now.items c.append.new.edits.items
    (some_planned (has_more c.args.slot.now) n c.args.slot.now c.in-Some.flush (sym c.in-Some.is ∙ planned)) c.in_ok-segment-in-Some.ensures c.in_ok-append-in-Some.ensures
