use Rattle.std.proofs.Common.{◌∙◌, sym, take}
use Rattle.segment_list.specs.Lists.{is_tiny_file}
use Rattle.segment_list.proofs.Flushing.{has_at, has_no_more}
use Rattle.segment_list.proofs.Replacing.{taken_at}
use Rattle.segment_list.proofs.naming.is_among.Goals as goal

pub returns-then-is_tiny_file : goal.returns-then-is_tiny_file
returns-then-is_tiny_file c = sym (has_at (is_tiny_file c.args.file) (take c.args.end c.args.layer.now) c.loop-i.i c.file.result.now (taken_at c.args.end c.args.layer.now c.loop-i.i c.loop-i-test.true ∙ c.file.ensures) (sym c.is_tiny_file.ensures ∙ c.if-is_tiny_file.true))

pub loop-i-preserved : goal.loop-i-preserved
loop-i-preserved c = has_no_more (is_tiny_file c.args.file) c.args.layer.now c.loop-i.i c.file.result.now c.file.ensures (sym c.is_tiny_file.ensures ∙ c.if-is_tiny_file.false) c.loop-i.invariant
