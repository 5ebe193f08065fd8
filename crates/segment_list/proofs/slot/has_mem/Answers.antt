use Rattle.std.proofs.Common.{◌∙◌, sym}
use Rattle.delta_layer.specs.Files.{is_mem}
use Rattle.segment_list.proofs.Flushing.{has_at, has_no_more}
use Rattle.segment_list.proofs.slot.has_mem.Goals as goal

pub returns-then-is_mem : goal.returns-then-is_mem
returns-then-is_mem c = sym (has_at is_mem c.args.layer.now c.loop-i.i c.file.result.now c.file.ensures (sym c.is_mem.ensures ∙ c.if-is_mem.true))

pub loop-i-preserved : goal.loop-i-preserved
loop-i-preserved c = has_no_more is_mem c.args.layer.now c.loop-i.i c.file.result.now c.file.ensures (sym c.is_mem.ensures ∙ c.if-is_mem.false) c.loop-i.invariant
