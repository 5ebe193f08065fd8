use Rattle.std.proofs.Common.{◌≡◌, refl, sym, subst, true}
use Rattle.std.specs.List.{list_all}
use Rattle.committed_log.specs.Store.{Store}
use Rattle.region_state.specs.Folding.{store_of, after_all, lies_in}
use Rattle.region_state.specs.Standing.{AreOf}
use Rattle.region_state.specs.State.{State, IsWithin}
use Rattle.region_state.proofs.Folds.{all_within}
use Rattle.region_state.proofs.region.Region.advance.Goals as goal

pub invariant_of-self : goal.invariant_of-self
invariant_of-self c =
    let s : State = record { descriptor = c.self.inside.descriptor; target = c.self.inside.target; values = c.self.inside.values.entries; locks = c.self.inside.locks.entries } in
    let t : Store = after_all (store_of s) c.args.ops.now in
    let are : AreOf t c.advance.new.values.entries c.advance.new.locks.entries = c.in-Ok.ensures.ok (store_of s) (record { all_values = refl; all_locks = refl }) in
    let w : IsWithin s.descriptor.range t.values t.locks = all_within s.descriptor.range (store_of s) c.args.ops.now (subst (λ (x : State). list_all (lies_in x.descriptor.range) c.args.ops.now ≡ true) (sym c.self.view_is) c.requires) c.self.invariant in
    subst (λ vs. IsWithin s.descriptor.range vs c.advance.new.locks.entries) (sym are.all_values) (subst (λ ls. IsWithin s.descriptor.range t.values ls) (sym are.all_locks) w)
