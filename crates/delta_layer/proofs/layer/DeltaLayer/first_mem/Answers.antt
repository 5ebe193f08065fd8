use Rattle.std.proofs.Common.{◌∙◌, sym, ap, not}
use Rattle.column_file.specs.declared.file.ColumnFile.{ColumnFile}
use Rattle.delta_layer.specs.Files.{is_mem}
use Rattle.delta_layer.proofs.Places.{prefix_on, prefix_stop}
use Rattle.delta_layer.proofs.layer.DeltaLayer.first_mem.Goals as goal

pub returns-then-is_mem-clause-place : goal.returns-then-is_mem-clause-place
returns-then-is_mem-clause-place c = sym (prefix_stop (λ (f : ColumnFile). not (is_mem f)) c.args.self.now c.loop-i.i c.file.result.now c.file.ensures (ap not (sym c.is_mem.ensures ∙ c.if-is_mem.true))) ∙ c.loop-i.invariant

pub loop-i-preserved : goal.loop-i-preserved
loop-i-preserved c = sym (prefix_on (λ (f : ColumnFile). not (is_mem f)) c.args.self.now c.loop-i.i c.file.result.now c.file.ensures (ap not (sym c.is_mem.ensures ∙ c.if-is_mem.false))) ∙ c.loop-i.invariant
