use Rattle.std.proofs.Common.{◌∙◌, sym, ap, Bool, set}
use Rattle.segment_flush.specs.Flushing.{has_more, one_flushed}
use Rattle.segment_flush.proofs.Planned.{none_planned, set_same}
use Rattle.segment_flush.proofs.puts.put_at.Goals as goal

pub returns-in-None : goal.returns-in-None
returns-in-None g c = λ s n h planned. sym (ap (set c.args.list.now c.args.place) (ap (λ (b : Bool). one_flushed b n s) (none_planned (has_more s) n s (sym c.in-None.is ∙ planned))) ∙ set_same c.args.list.now c.args.place s h)
