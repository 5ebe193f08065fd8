use Rattle.std.proofs.Common.{◌≡◌, ℕ, ◌++◌, ◌∷◌, [], None, List, refl, sym, subst}
use Rattle.std.proofs.lemmas.Result.{err_from_is_err_and}
use Rattle.flash_list.proofs.Each.{goes_on, fails, is_done, starts}
use Rattle.flash_types.specs.Ranges.{holds}
use Rattle.committed_log.specs.Store.{value_cmp}
use Rattle.committed_log.proofs.Sorted.{value_cmp_total}
use Rattle.region_state.specs.State.{values_in}
use Rattle.region_file.specs.Families.{value_at, each_value_at, key_of}
use Rattle.region_file.proofs.Loop.{fault_is}
use Rattle.region_file.proofs.Rising.{none_yet, one_more_key, after_key, all_pass}
use Rattle.region_file.proofs.families.each_value_of.Goals as goal

pub loop-init : goal.loop-init
unfolding each_value_at
loop-init c = record {
  gives = rw c.new-values.ensures.empty (starts (value_at c.args.end c.args.range) key_of c.args.count None c.args.bytes.now);
  within = subst (λ es. values_in c.args.range es ≡ es) (sym c.new-values.ensures.empty) refl;
  rises = none_yet value_cmp c.new-values.result.entries c.new-values.ensures.empty;
}

pub returns-in_err-key-clause-gives : goal.returns-in_err-key-clause-gives
returns-in_err-key-clause-gives c =
    let p = err_from_is_err_and c.from_residual.result c.from_residual.ensures.1 in
    let e = c.in_err-key.field-0.0 in
    rw (p.1, p.2) (fault_is e _ (fails (value_at c.args.end c.args.range) key_of c.loop.values.entries c.args.count c.loop.counter c.loop.last c.loop.rest.now e (each_value_at c.args.end c.args.range c.args.count c.args.bytes.now) c.loop-test.true (sym c.in_err-key.ensures.gives) c.loop.invariant.gives))

pub append-requires : goal.append-requires
append-requires c = c.loop.invariant.rises c.in_ok-key.key (after_key c.loop.last c.in_ok-key.key.0 c.in_ok-key.key.1 c.in_ok-key.ensures.fits.1 c.in_ok-key.ensures.fits.2)

pub loop-preserved : goal.loop-preserved
loop-preserved c =
    let key = c.in_ok-key.key in
    let text : List ℕ = c.in_ok-key.text.now in
    let is = subst (λ (t : List ℕ). c.append.new.map.entries ≡ c.loop.values.entries ++ (key, t) ∷ []) c.in-Ok.ensures c.in-Ok-append.ensures in
    record {
      gives = rw is (goes_on (value_at c.args.end c.args.range) key_of c.loop.values.entries c.args.count c.loop.counter c.loop.last c.loop.rest.now (key, text) c.in_ok-key.after.now (each_value_at c.args.end c.args.range c.args.count c.args.bytes.now) c.loop-test.true (sym c.in_ok-key.ensures.gives) c.loop.invariant.gives);
      within = all_pass (λ e. holds c.args.range e.0.0) c.loop.values.entries c.append.new.map.entries (key, text) c.loop.invariant.within c.in_ok-key.ensures.fits.0 is;
      rises = one_more_key value_cmp_total c.loop.last c.loop.values.entries c.append.new.map.entries key text c.loop.invariant.rises (after_key c.loop.last key.0 key.1 c.in_ok-key.ensures.fits.1 c.in_ok-key.ensures.fits.2) is;
    }

pub returns-clause-gives : goal.returns-clause-gives
returns-clause-gives c = is_done (value_at c.args.end c.args.range) key_of c.loop.values.entries c.args.count c.loop.counter c.loop.last c.loop.rest.now (each_value_at c.args.end c.args.range c.args.count c.args.bytes.now) c.loop-test.false c.loop.invariant.gives
