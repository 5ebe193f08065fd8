use Rattle.std.proofs.Common.{◌≡◌, ◌∙◌, sym, ap, subst, pos, [], arith}
use Rattle.committed_log.specs.Lawful.{IsWritable, fault, pushed}
use Rattle.generator.specs.Generated.{log_of}
use Rattle.generator.proofs.GeneratedLogs.{open_writable, split_writable, opening_lawful}
use Rattle.generator.proofs.Making.{splits}
use Rattle.generator.proofs.generate.opened_log.Goals as goal

pub add-requires-clause-writable : goal.add-requires-clause-writable
add-requires-clause-writable c = subst IsWritable (sym c.opened.ensures) open_writable

pub add-requires-clause-none : goal.add-requires-clause-none
add-requires-clause-none c =
    let is : c.empty-logs.result ≡ log_of [] = c.empty-logs.ensures ∙ ap (λ s. record { table = pos 1; schema = s; entries = [] }) c.in_ok-schema.ensures in
    (λ i. fault (is i) (c.opened.ensures i)) ∙ opening_lawful.admitted.0

pub add-requires-in-loop-region-clause-writable : goal.add-requires-in-loop-region-clause-writable
add-requires-in-loop-region-clause-writable c = subst IsWritable (sym c.split.ensures) (split_writable c.loop-region.region (omega arith))

pub add-requires-in-loop-region-clause-none : goal.add-requires-in-loop-region-clause-none
add-requires-in-loop-region-clause-none c =
    (λ i. fault (c.loop-region.invariant i) (c.split.ensures i)) ∙ (splits c.loop-region.region (omega arith) (omega arith)).0

pub loop-region-preserved : goal.loop-region-preserved
loop-region-preserved c =
    c.in_ok-add-2.ensures ∙ (λ i. pushed (c.loop-region.invariant i) (c.split.ensures i)) ∙ (splits c.loop-region.region (omega arith) (omega arith)).1
