use Rattle.std.proofs.Common.{take}
use Rattle.committed_log.specs.Store.{Store}
use Rattle.region_state.specs.Folding.{after_one, after_all}
use Rattle.region_state.proofs.Undoing.{are_more, are_made, are_not_made}
use Rattle.region_state.proofs.advance.put_first.Goals as goal

pub returns-in-Ok-false-clause-ok : goal.returns-in-Ok-false-clause-ok
returns-in-Ok-false-clause-ok c = λ s are.
    let t : Store = after_all s (take c.loop-k.k c.args.ops.now) in
    are_not_made (after_one t c.index-ops-k.result) t c.put_one.new.values.entries c.put_one.new.locks.entries c.in-Ok-false.field-0 c.in-Ok-false.field-0-test (c.in-Ok-false.ensures.ok t (c.loop-k.invariant.made s are))

pub returns-in-Ok-false-clause-back : goal.returns-in-Ok-false-clause-back
returns-in-Ok-false-clause-back c = λ vs ls back. c.put_one.ensures.back vs ls (c.loop-k.invariant.back vs ls back)

pub returns-in-Err-clause-back : goal.returns-in-Err-clause-back
returns-in-Err-clause-back c = λ vs ls back. c.put_one.ensures.back vs ls (c.loop-k.invariant.back vs ls back)

pub loop-k-preserved : goal.loop-k-preserved
loop-k-preserved c = record {
  made = λ s are.
      (let t : Store = after_all s (take c.loop-k.k c.args.ops.now) in
      are_more s c.args.ops.now c.put_one.new.values.entries c.put_one.new.locks.entries c.loop-k.k c.index-ops-k.result c.loop-k-test.true c.index-ops-k.is
      (are_made (after_one t c.index-ops-k.result) t c.put_one.new.values.entries c.put_one.new.locks.entries c.in-Ok-true.field-0 c.in-Ok-true.field-0-test (c.in-Ok-true.ensures.ok t (c.loop-k.invariant.made s are))));
  back = λ vs ls back. c.put_one.ensures.back vs ls (c.loop-k.invariant.back vs ls back);
}
