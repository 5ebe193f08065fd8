use Rattle.std.proofs.Common.{rules, ◌≡◌, ◌∙◌, sym, ap₂, SFits, w64, true, int_lt, int_le, arith}
use Rattle.std.proofs.lemmas.Int.{ints, to_z-of_z}
use Rattle.delta_index.proofs.Parts.{kept_below, kept_above}
use Rattle.delta_index.proofs.change.is_apart.Goals as goal

pub returns-then-last-range : goal.returns-then-last-range
returns-then-last-range c =
    let last_fits : SFits w64 c.entry_at-last.result.0.0 = search rules in
    let low_fits : SFits w64 c.args.range.low = search rules in
    let told : int_lt c.entry_at-last.result.0.0 c.args.range.low ≡ true = sym (ap₂ int_lt (to_z-of_z w64 c.entry_at-last.result.0.0 last_fits) (to_z-of_z w64 c.args.range.low low_fits)) ∙ c.if-last-range.true in
    λ _. kept_below c.args.chunk.now c.args.range c.entry_at-last.result c.requires.rising c.entry_at-last.ensures (omega (arith, ints, told))

pub returns-then-high-first : goal.returns-then-high-first
returns-then-high-first c =
    let first_fits : SFits w64 c.entry_at-first.result.0.0 = search rules in
    let high_fits : SFits w64 c.in-Some.high = search rules in
    let told : int_le c.in-Some.high c.entry_at-first.result.0.0 ≡ true = sym (ap₂ int_le (to_z-of_z w64 c.in-Some.high high_fits) (to_z-of_z w64 c.entry_at-first.result.0.0 first_fits)) ∙ c.if-high-first.true in
    λ _. kept_above c.args.chunk.now c.args.range c.in-Some.high c.entry_at-first.result c.requires.rising c.entry_at-first.ensures c.in-Some.is (omega (arith, ints, told))
