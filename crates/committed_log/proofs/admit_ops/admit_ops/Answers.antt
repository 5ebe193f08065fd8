use Rattle.std.proofs.Common.{◌∙◌, sym, ap, subst, ◌<◌, ◌≤◌, ◌++◌, length, w64, arith, inl, inr, to_z, of_z, take, ℤ}
use Rattle.std.proofs.lemmas.Int.{to_z-of_z}
use Rattle.committed_log.specs.Admission.{ops_fault_from}
use Rattle.committed_log.specs.Lawful.{IsRefusal}
use Rattle.committed_log.specs.Families.{Holds}
use Rattle.committed_log.specs.Store.{Store, after_ops}
use Rattle.committed_log.proofs.OpSteps.{some_op, after_more, fault_more, fault_here, repeated_more, fault_done, after_done, repeated_done, joined}
use Rattle.std.proofs.lemmas.List.{append-nil}
use Rattle.committed_log.proofs.admit_ops.admit_ops.Goals as goal

pub loop-k-preserved : goal.loop-k-preserved
loop-k-preserved g c =
    let here : c.loop-k.k < length c.args.ops.now = omega arith in
    let table = to_z w64 (of_z w64 c.args.table) in
    record {
      holds = subst (λ (s : Store). Holds c.admit_op.new.families s) (sym (after_more table c.args.schema.now c.args.range c.args._position g.from.store c.args.ops.now c.loop-k.k some_op here)) (c.in-Ok.ensures.holds some_op);
      returns = c.in-Ok.ensures.returns;
      same = c.loop-k.invariant.same ∙ fault_more table c.args.schema.now c.args.range c.args._position g.from.store c.args.ops.now c.loop-k.k some_op here (c.in-Ok.ensures.ok some_op);
      repeated = joined _ _ _ _ _ _ c.loop-k.invariant.repeated c.in_default.ensures
          (repeated_more table c.args.schema.now c.args.range c.args._position g.from.store c.args.ops.now c.loop-k.k some_op here c.in-Ok.repeats (sym (c.in-Ok.ensures.repeated some_op)));
    }

pub returns-in-Err-clause-err : goal.returns-in-Err-clause-err
returns-in-Err-clause-err g c =
    let here : c.loop-k.k < length c.args.ops.now = omega arith in
    let table = to_z w64 (of_z w64 c.args.table) in
    subst (λ (t : ℤ). IsRefusal (ops_fault_from t c.args.schema.now c.args.range c.args._position g.from.store 0 c.args.ops.now) c.in-Err.fault) (to_z-of_z w64 _ c.ranges.table)
    (elim (c.in-Err.ensures.err some_op) [
      | inl memory ↦ inl memory
      | inr is ↦ inr (c.loop-k.invariant.same ∙ fault_here table c.args.schema.now c.args.range c.args._position g.from.store c.args.ops.now c.loop-k.k some_op here c.in-Err.fault is)
    ])

pub returns-clause-ok : goal.returns-clause-ok
returns-clause-ok g c =
    let done : length c.args.ops.now ≤ c.loop-k.k = omega arith in
    let table = to_z w64 (of_z w64 c.args.table) in
    simp (to_z-of_z w64 _ c.ranges.table) at (c.loop-k.invariant.same ∙ fault_done table c.args.schema.now c.args.range c.args._position g.from.store (after_ops table c.args.range c.args._position g.from.store (take c.loop-k.k c.args.ops.now)) c.args.ops.now c.loop-k.k done)

pub returns-clause-holds : goal.returns-clause-holds
returns-clause-holds g c =
    let done : length c.args.ops.now ≤ c.loop-k.k = omega arith in
    let table = to_z w64 (of_z w64 c.args.table) in
    subst (λ (t : ℤ). Holds c.loop-k.families (after_ops t c.args.range c.args._position g.from.store c.args.ops.now)) (to_z-of_z w64 _ c.ranges.table)
    (subst (λ (s : Store). Holds c.loop-k.families s) (after_done table c.args.schema.now c.args.range c.args._position g.from.store g.from.store c.args.ops.now c.loop-k.k done) c.loop-k.invariant.holds)

pub returns-clause-repeated : goal.returns-clause-repeated
returns-clause-repeated g c =
    let done : length c.args.ops.now ≤ c.loop-k.k = omega arith in
    let table = to_z w64 (of_z w64 c.args.table) in
    simp (to_z-of_z w64 _ c.ranges.table) at (sym (c.loop-k.invariant.repeated ∙ ap (λ rest. c.loop-k.repeated.items ++ rest) (repeated_done table c.args.schema.now c.args.range c.args._position g.from.store (after_ops table c.args.range c.args._position g.from.store (take c.loop-k.k c.args.ops.now)) c.args.ops.now c.loop-k.k done) ∙ append-nil c.loop-k.repeated.items))
