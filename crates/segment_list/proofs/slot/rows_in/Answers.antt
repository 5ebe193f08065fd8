use Rattle.std.proofs.Common.{arith}
use Rattle.segment_list.specs.Slots.{file_rows, mem_rows}
use Rattle.segment_list.proofs.Rows.{rows_more}
use Rattle.segment_list.proofs.slot.rows_in.Goals as goal

pub loop-i-preserved : goal.loop-i-preserved
loop-i-preserved c = (
  omega (arith, rows_more mem_rows c.args.layer.now c.loop-i.i c.file-file.result.now c.file-file.ensures, c.loop-i.invariant.0, c.mem_rows.ensures, c.in_ok-mem.ensures),
  omega (arith, rows_more file_rows c.args.layer.now c.loop-i.i c.file-file.result.now c.file-file.ensures, c.loop-i.invariant.1, c.file_rows.ensures, c.in_ok-delta.ensures),
)
