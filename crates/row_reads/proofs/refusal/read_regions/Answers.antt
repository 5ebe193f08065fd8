use Rattle.std.proofs.Common.{rules, ◌<◌, length, subst, sym, List}
use Rattle.flash_types.specs.declared.refusal.Cut.{Cut}
use Rattle.committed_log.specs.Replies.{AreCuts}
use Rattle.std.proofs.Common.{take, ◌+◌}
use Rattle.row_reads.proofs.Cutting.{ends, passes, cuts_more}
use Rattle.row_store.specs.Tests.{in_set}
use Rattle.row_reads.proofs.refusal.read_regions.Goals as goal

pub returns-in-Ok-Err : goal.returns-in-Ok-Err
returns-in-Ok-Err c =
    let less : c.loop-asked.asked-index < length c.args.regions.now = search rules in
    ends c.args.log.now c.args.ts c.args.mark (in_set c.args.set.now) c.args.regions.now c.loop-asked.asked-index less c.in-Ok-Err.field-0 c.in-Ok-Err.why c.in-Ok-Err.ensures c.in-Ok-Err.field-0-is c.loop-asked.invariant.rest

pub loop-asked-preserved : goal.loop-asked-preserved
loop-asked-preserved c =
    let less : c.loop-asked.asked-index < length c.args.regions.now = search rules in
    record {
      rest = passes c.args.log.now c.args.ts c.args.mark (in_set c.args.set.now) c.args.regions.now c.loop-asked.asked-index less c.in-Ok-Ok.field-0 c.in-Ok-Ok.cut c.in-Ok-Ok.ensures c.in-Ok-Ok.field-0-is c.loop-asked.invariant.rest;
      cuts = subst (λ (cuts : List Cut). AreCuts c.args.log.now (in_set c.args.set.now) (take (c.loop-asked.asked-index + 1) c.args.regions.now) cuts) (sym c.in-Ok.ensures.ok) (cuts_more c.args.log.now c.args.ts c.args.mark (in_set c.args.set.now) c.args.regions.now c.loop-asked.asked-index less c.in-Ok-Ok.field-0 c.in-Ok-Ok.cut c.loop-asked.cuts c.in-Ok-Ok.ensures c.in-Ok-Ok.field-0-is c.loop-asked.invariant.cuts);
    }
