use Rattle.std.proofs.Common.{ap, ◌∙◌}
use Rattle.std.specs.Int.{w64}
use Rattle.std.proofs.lemmas.Int.{to_z-of_z}
use Rattle.committed_log.specs.Regions.{range_of}
use Rattle.row_store.proofs.Keeping.{entered}
use Rattle.row_store.proofs.Putting.{ok_so}
use Rattle.row_store.proofs.entries.do_entry.Goals as goal

pub returns-in-Ok : goal.returns-in-Ok
returns-in-Ok c = ok_so c.advance.result (entered c.args.table _ c.args.position c.args.store.now c.advance.new.self c.do_body.new.store c.args.entry.now c.range_of-there.result (c.range_of-there.ensures ∙ ap range_of c.state.ensures) (to_z-of_z w64 c.args.table c.ranges.table) c.in-Ok.ensures) c.advance.ensures
