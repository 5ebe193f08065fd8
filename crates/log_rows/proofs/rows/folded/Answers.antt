use Rattle.std.proofs.Common.{SFits, w64, rules, subst, sym, ap, arith, ◌≤◌, ◌+◌, ◌∙◌, length}
use Rattle.std.proofs.lemmas.Int.{to_z-of_z}
use Rattle.committed_log.specs.Numbers.{AreRoomy}
use Rattle.committed_log.specs.Log.{at}
use Rattle.committed_log.specs.Store.{Store, after_entry}
use Rattle.committed_log.proofs.Pushed.{roomy_at}
use Rattle.log_rows.specs.Folds.{Holds}
use Rattle.log_rows.proofs.Knowing.{next_at}
use Rattle.log_rows.proofs.rows.folded.Goals as goal

pub step-requires : goal.step-requires
step-requires c = subst AreRoomy (sym c.loop-position.invariant.regions) (roomy_at c.args.logs.now c.told_lawful.ensures c.loop-position.position c.entry.result.now c.entry.ensures)

pub loop-position-preserved : goal.loop-position-preserved
loop-position-preserved c =
    let fits : SFits w64 c.table.result = search rules in
    let log = c.args.logs.now in
    let p = c.loop-position.position in
    let e = c.entry.result.now in
    let so_far = c.loop-position.invariant in
    let holds = simp to_z-of_z at c.in_default.ensures.holds in
    let next = ap (λ table. after_entry table p (at log p) e) c.table.ensures ∙ next_at log p e c.entry.ensures in
    let within : p + 1 ≤ length log.entries = (let test = c.loop-position-test.true in let len = c.len.ensures in grind (arith, test, len)) in
    record {
      within = within;
      ts = c.in_default.ensures.ts ∙ so_far.ts;
      regions = c.in_default.ensures.regions p (at log p) so_far.regions ∙ ap (λ (s : Store). s.regions) next;
      holds = subst (λ ts. Holds (at log (p + 1)) ts c.step.new.fold.values c.step.new.fold.handles) so_far.ts
          (subst (λ s. Holds s c.loop-position.fold.ts c.step.new.fold.values c.step.new.fold.handles) next
          (holds p (at log p) so_far.regions (subst (λ ts. Holds (at log p) ts c.loop-position.fold.values c.loop-position.fold.handles) (sym so_far.ts) so_far.holds)));
    }
