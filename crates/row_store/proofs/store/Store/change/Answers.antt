use Rattle.std.proofs.Common.{rules, ap, ◌∙◌}
use Rattle.std.specs.Prelude.{FitsSigned}
use Rattle.std.specs.BTreeMap.{is_at}
use Rattle.std.specs.Map.{remove_entry}
use Rattle.std.specs.Ordering.{int_cmp}
use Rattle.std.specs.Int.{w64}
use Rattle.std.proofs.lemmas.Int.{to_z-of_z}
use Rattle.committed_log.specs.Store.{value_cmp}
use Rattle.row_store.proofs.Dropping.{value_dropped, lock_dropped}
use Rattle.row_store.proofs.Putting.{ok_so}
use Rattle.row_store.proofs.store.Store.change.Goals as goal

pub returns-in-DropValue : goal.returns-in-DropValue
returns-in-DropValue c =
    let fits : FitsSigned w64 c.in-DropValue.handle = search rules in
    let old = c.self-in-DropValue.inside in
    let same = ap (λ h. remove_entry (is_at (value_cmp (h, c.in-DropValue.start))) old.values.items) (to_z-of_z w64 c.in-DropValue.handle fits) in
    rw (c.in-DropValue.is, ← c.self-in-DropValue.view_is)
    (ok_so c.drop_value.result (λ e. value_dropped old.regions.items old.values.items c.drop_value.new.values.items old.locks.items old.commits.items c.args.position c.in-DropValue.handle c.in-DropValue.start (e ∙ same)) c.drop_value.ensures)

pub returns-in-Unlock : goal.returns-in-Unlock
returns-in-Unlock c =
    let fits : FitsSigned w64 c.in-Unlock.handle = search rules in
    let old = c.self-in-Unlock.inside in
    let same = ap (λ h. remove_entry (is_at (int_cmp h)) old.locks.items) (to_z-of_z w64 c.in-Unlock.handle fits) in
    rw (c.in-Unlock.is, ← c.self-in-Unlock.view_is)
    (ok_so c.drop_lock.result (λ e. lock_dropped old.regions.items old.values.items old.locks.items c.drop_lock.new.locks.items old.commits.items c.args.position c.in-Unlock.handle (e ∙ same)) c.drop_lock.ensures)
