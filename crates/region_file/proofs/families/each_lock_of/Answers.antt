use Rattle.std.proofs.Common.{◌≡◌, ◌++◌, ◌-◌, ◌+◌, ◌∷◌, [], None, Some, refl, sym, subst, rules, SFits, w64}
use Rattle.std.proofs.lemmas.Int.{to_z-of_z}
use Rattle.std.proofs.lemmas.Result.{err_from_is_err_and}
use Rattle.std.specs.Cmp.{int_cmp_total}
use Rattle.std.specs.Ordering.{int_cmp}
use Rattle.flash_list.specs.Steps.{each_at}
use Rattle.flash_list.proofs.Each.{with_front, goes_on, fails, is_done, starts}
use Rattle.flash_types.specs.Ranges.{holds}
use Rattle.region_state.specs.State.{locks_in}
use Rattle.region_file.specs.Families.{lock_at, each_lock_at, key_of}
use Rattle.region_file.proofs.Loop.{fault_is}
use Rattle.region_file.proofs.Rising.{UpTo, none_yet, one_more_key, after_handle, all_pass}
use Rattle.region_file.proofs.families.each_lock_of.Goals as goal

pub loop-init : goal.loop-init
unfolding each_lock_at
loop-init c = record {
  gives = rw c.new-locks.ensures.empty (starts (lock_at c.args.end c.args.range) key_of c.args.count None c.args.bytes.now);
  within = subst (λ es. locks_in c.args.range es ≡ es) (sym c.new-locks.ensures.empty) refl;
  rises = none_yet int_cmp c.new-locks.result.entries c.new-locks.ensures.empty;
}

pub returns-in_err-handle-clause-gives : goal.returns-in_err-handle-clause-gives
returns-in_err-handle-clause-gives c =
    let p = err_from_is_err_and c.from_residual.result c.from_residual.ensures.1 in
    let e = c.in_err-handle.field-0.0 in
    rw (p.1, p.2) (fault_is e _ (fails (lock_at c.args.end c.args.range) key_of c.loop.locks.entries c.args.count c.loop.counter c.loop.last c.loop.rest.now e (each_lock_at c.args.end c.args.range c.args.count c.args.bytes.now) c.loop-test.true (sym c.in_err-handle.ensures.gives) c.loop.invariant.gives))

pub loop-preserved : goal.loop-preserved
loop-preserved c =
    let h = c.in_ok-handle.handle in
    let fits : SFits w64 c.in_ok-handle.handle = search rules in
    let same = to_z-of_z w64 _ fits in
    let is = subst (λ z. c.append.new.map.entries ≡ c.loop.locks.entries ++ (z, c.in_ok-handle.lock) ∷ []) same c.in-Ok.ensures in
    let total = each_lock_at c.args.end c.args.range c.args.count c.args.bytes.now in
    record {
      gives = subst (λ z. with_front c.append.new.map.entries (each_at (lock_at c.args.end c.args.range) key_of (c.args.count - (c.loop.counter + 1)) (Some z) c.in_ok-handle.after.now) ≡ total) (sym same)
          (rw is (goes_on (lock_at c.args.end c.args.range) key_of c.loop.locks.entries c.args.count c.loop.counter c.loop.last c.loop.rest.now (h, c.in_ok-handle.lock) c.in_ok-handle.after.now total c.loop-test.true (sym c.in_ok-handle.ensures.gives) c.loop.invariant.gives));
      within = all_pass (λ e. holds c.args.range e.0) c.loop.locks.entries c.append.new.map.entries (h, c.in_ok-handle.lock) c.loop.invariant.within c.in_ok-handle.ensures.fits.0 is;
      rises = subst (λ z. UpTo int_cmp (Some z) c.append.new.map.entries) (sym same) (one_more_key int_cmp_total c.loop.last c.loop.locks.entries c.append.new.map.entries h c.in_ok-handle.lock c.loop.invariant.rises (after_handle c.loop.last h c.in_ok-handle.ensures.fits.1) is);
    }

pub returns-clause-gives : goal.returns-clause-gives
returns-clause-gives c = is_done (lock_at c.args.end c.args.range) key_of c.loop.locks.entries c.args.count c.loop.counter c.loop.last c.loop.rest.now (each_lock_at c.args.end c.args.range c.args.count c.args.bytes.now) c.loop-test.false c.loop.invariant.gives
