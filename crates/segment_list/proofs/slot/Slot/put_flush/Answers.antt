use Rattle.std.proofs.Common.{◌≡◌, ◌∙◌, sym, ap}
use Rattle.std.specs.List.{sum_by}
use Rattle.segment.specs.declared.segments.Segment.{Segment}
use Rattle.segment_list.specs.Flushes.{flushed_files}
use Rattle.segment_list.specs.Slots.{file_rows, mem_rows, rows_below}
use Rattle.segment_list.proofs.Flushing.{no_rows, same_rows}
use Rattle.segment_list.proofs.slot.Slot.put_flush.Goals as goal

pub invariant_of-self : goal.invariant_of-self
invariant_of-self g c =
    let layer : c.renew.new.segment.layer ≡ flushed_files c.args.flush.from c.self.inside.segment.layer = ap (λ (s : Segment g.row.G.Denot). s.layer) c.renew.ensures in
    record {
      mem = sym (ap (sum_by mem_rows) layer ∙ no_rows c.args.flush.from c.self.inside.segment.layer);
      delta = c.self.invariant.delta ∙ sym (ap (sum_by file_rows) layer ∙ same_rows c.args.flush.from c.self.inside.segment.layer);
      below = c.self.invariant.below ∙ sym (ap (λ (s : Segment g.row.G.Denot). rows_below s.range s.stable) c.renew.ensures);
    }
