-- How far the files may reach into the log.
use Rattle.std.proofs.Common.{◌≡◌, ◌∙◌, ⊎_elim, ◌-◌, ◌≤◌, Bool, true, false, true≢false, length, refl, sym, arith, nat_lt}
use Rattle.region_table.specs.Counting.{applied_in}
use Rattle.region_table.proofs.Agreeing.{none_past}
use Rattle.replica_state.specs.Core.{Core, IsCore}
use Rattle.replica.specs.Steps.{reached}

module _ {G : Type 0} where
  pub reached_past : (core : Core G) → core.highest ≤ reached core
  reached_past core = omega arith

  pub reached_no_lower : (core : Core G) → core.numbers.high ≤ reached core
  reached_no_lower core = omega arith

  -- what is applied is in the log
  pub reached_within : (core : Core G) → IsCore core → reached core ≤ length core.log.entries
  reached_within core is = (let high = is.numbers.high in let low : core.highest ≤ length core.log.entries = ⊎_elim none some is.sets.highest.last in omega (arith, high, low))
    where
      none : core.highest ≡ 0 → core.highest ≤ length core.log.entries
      none zero_is = omega (arith, zero_is)

      some : applied_in core.log core.table.regions (core.highest - 1) ≡ true → core.highest ≤ length core.log.entries
      some applied = by (nat_lt (core.highest - 1) (length core.log.entries)) refl
        where
          by : (b : Bool) → nat_lt (core.highest - 1) (length core.log.entries) ≡ b → core.highest ≤ length core.log.entries
          by true e = grind (arith, e)
          by false e = absurd (true≢false (sym applied ∙ none_past core.log core.table.regions (core.highest - 1) (grind (arith, e))))
