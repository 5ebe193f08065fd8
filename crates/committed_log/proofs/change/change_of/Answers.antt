use Rattle.std.proofs.Common.{rules, Ok, ap, sym, ◌∙◌, w64, SFits}
use Rattle.std.proofs.lemmas.Int.{to_z-of_z}
use Rattle.committed_log.specs.Changes.{key_at}
use Rattle.committed_log.proofs.Changes.{put_here}
use Rattle.committed_log.proofs.change.change_of.Goals as goal

pub returns-then-op : goal.returns-then-op
returns-then-op c =
    let fits : SFits w64 c.in-Ok-Some.handle = search rules in
    let whole = to_z-of_z w64 c.in-Ok-Some.handle fits in
    let table = to_z-of_z w64 c.args.table c.ranges.table in
    put_here c.args.table c.args.range c.args.op.now c.in-Ok-Some.handle c.in-Ok-Some.ts c.put_of.result (ap (key_at c.args.table c.args.op.now.family) (sym c.as_slice.ensures) ∙ simp table at (sym c.key_at.ensures ∙ c.in-Ok-Some.is) ∙ ap Ok c.in-Ok-Some.field-0-is) (simp whole at (sym c.holds.ensures ∙ c.if-not-holds.false)) c.if-op.true (simp whole at c.put_of.ensures)
