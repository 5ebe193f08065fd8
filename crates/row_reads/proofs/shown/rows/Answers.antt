use Rattle.std.proofs.Common.{rules, ◌<◌, length, get_or, pos, SFits, w64}
use Rattle.std.proofs.lemmas.Int.{to_z-of_z}
use Rattle.committed_log.specs.Reads.{row_of_handle}
use Rattle.row_reads.proofs.Cutting.{row_more}
use Rattle.row_reads.proofs.shown.rows.Goals as goal

pub loop-entry-preserved : goal.loop-entry-preserved
loop-entry-preserved c =
    let less : c.loop-entry.entry-index < length c.deref-entry-items.result.now = search rules in
    let fits : SFits w64 (get_or c.deref-entry-items.result.now c.loop-entry.entry-index (pos 0, tt {0})).0 = search rules in
    let row = simp to_z-of_z at c.in-Ok-row_of_handle.ensures in
    row_more (row_of_handle c.args.log.now c.args.cuts.now c.args.ts c.args.clip) c.deref-entry-items.result.now c.loop-entry.entry-index less c.loop-entry.found.items c.add_row.new.found.items c.in-Ok-row_of_handle.row c.in_default.ensures row c.loop-entry.invariant
