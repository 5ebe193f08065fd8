use Rattle.std.specs.Cmp.{int_cmp_total}
use Rattle.std.proofs.lemmas.Map.Lookups.{exact_signed}
use Rattle.committed_log.proofs.FamilySteps.{value_exact}
use Rattle.committed_log.proofs.Sorted.{value_cmp_total}
use Rattle.region_state.specs.Undoing.{noted}
use Rattle.region_state.proofs.Undoing.{leads_back}
use Rattle.region_state.proofs.advance.put_one.Goals as goal

pub returns-in-Ok-put-clause-back : goal.returns-in-Ok-put-clause-back
returns-in-Ok-put-clause-back c = λ vs ls back. record {
  values_back = leads_back value_cmp_total value_exact c.args.values.now.entries _ _ c.put.ensures.ordered c.put.new.map.entries vs (noted c.args.puts.now.values) (noted c.put.new.self) c.in-Ok-put.ensures.ok c.in-Ok-put.ensures.noted back.values_back;
  locks_back = back.locks_back;
}

pub returns-in-Ok-put-2-clause-back : goal.returns-in-Ok-put-2-clause-back
returns-in-Ok-put-2-clause-back c = λ vs ls back. record {
  values_back = back.values_back;
  locks_back = leads_back int_cmp_total exact_signed c.args.locks.now.entries _ _ c.put-in-Lock.ensures.ordered c.put-in-Lock.new.map.entries ls (noted c.args.puts.now.locks) (noted c.put-in-Lock.new.self) c.in-Ok-put-2.ensures.ok c.in-Ok-put-2.ensures.noted back.locks_back;
}
