use Rattle.std.proofs.Common.{◌≡◌, ◌∙◌, None, sym, ap, refl, subst, ℕ, ℤ, Some, true, false, int_lt, w64, SFits, rules}
use Rattle.std.proofs.lemmas.Int.{to_z-of_z}
use Rattle.std.specs.BTreeMap.{get}
use Rattle.std.specs.Ordering.{int_cmp}
use Rattle.flash_types.specs.Ranges.{is_below}
use Rattle.committed_log.specs.Laws.{owns}
use Rattle.committed_log.specs.Lows.{IsFirstAbove}
use Rattle.committed_log.proofs.LeastTaken.{taken_at_low, taken_above, none_taken, none_behind}
use Rattle.committed_log.proofs.lows.find_least_taken.Goals as goal

pub returns-in-Some : goal.returns-in-Some
returns-in-Some c =
    let fits : SFits w64 c.args.range.low = search rules in
    ap (λ x. Some x) (to_z-of_z w64 _ fits) ∙ sym (taken_at_low c.args.regions.now.entries c.requires.parted (get int_cmp c.args.lows.now) c.requires.lows c.args.range c.requires.filled _ (subst (λ (h : ℤ). owns c.args.regions.now.entries c.in-Some.field-0 h ≡ true) (to_z-of_z w64 _ fits) c.in-Some.ensures.some))

pub returns-then-is_below_end : goal.returns-then-is_below_end
returns-then-is_below_end c =
    let fits : SFits w64 c.args.range.low = search rules in
    let low_fits : SFits w64 c.in-Some-above.low = search rules in
    let free : (r : ℕ) → owns c.args.regions.now.entries r c.args.range.low ≡ false = subst (λ (h : ℤ). (r : ℕ) → owns c.args.regions.now.entries r h ≡ false) (to_z-of_z w64 _ fits) (c.in_default.ensures.none refl) in
    let first : IsFirstAbove (get int_cmp c.args.lows.now) c.args.range.low c.in-Some-above.low = subst (λ (h : ℤ). IsFirstAbove (get int_cmp c.args.lows.now) h c.in-Some-above.low) (to_z-of_z w64 _ fits) c.in-Some-above.ensures.some in
    let below : is_below c.in-Some-above.low c.args.range.high ≡ true = simp (to_z-of_z w64 _ low_fits) at (sym (rw c.if-is_below_end.true at c.is_below_end.ensures)) in
    ap (λ x. Some x) (to_z-of_z w64 _ low_fits) ∙ sym (taken_above c.args.regions.now.entries c.requires.parted (get int_cmp c.args.lows.now) c.requires.lows c.args.range c.requires.filled free c.in-Some-above.low first below)

pub returns-else-is_below_end : goal.returns-else-is_below_end
returns-else-is_below_end c =
    let fits : SFits w64 c.args.range.low = search rules in
    let low_fits : SFits w64 c.in-Some-above.low = search rules in
    let free : (r : ℕ) → owns c.args.regions.now.entries r c.args.range.low ≡ false = subst (λ (h : ℤ). (r : ℕ) → owns c.args.regions.now.entries r h ≡ false) (to_z-of_z w64 _ fits) (c.in_default.ensures.none refl) in
    let first : IsFirstAbove (get int_cmp c.args.lows.now) c.args.range.low c.in-Some-above.low = subst (λ (h : ℤ). IsFirstAbove (get int_cmp c.args.lows.now) h c.in-Some-above.low) (to_z-of_z w64 _ fits) c.in-Some-above.ensures.some in
    let past : is_below c.in-Some-above.low c.args.range.high ≡ false = simp (to_z-of_z w64 _ low_fits) at (sym (rw c.if-is_below_end.false at c.is_below_end.ensures)) in
    sym (none_behind c.args.regions.now.entries c.requires.parted (get int_cmp c.args.lows.now) c.requires.lows c.args.range c.requires.filled free c.in-Some-above.low first past)

pub returns-in-None : goal.returns-in-None
returns-in-None c =
    let fits : SFits w64 c.args.range.low = search rules in
    let free : (r : ℕ) → owns c.args.regions.now.entries r c.args.range.low ≡ false = subst (λ (h : ℤ). (r : ℕ) → owns c.args.regions.now.entries r h ≡ false) (to_z-of_z w64 _ fits) (c.in_default.ensures.none refl) in
    let none : (h : ℤ) → int_lt c.args.range.low h ≡ true → get int_cmp c.args.lows.now h ≡ None = subst (λ (low : ℤ). (h : ℤ) → int_lt low h ≡ true → get int_cmp c.args.lows.now h ≡ None) (to_z-of_z w64 _ fits) (c.in-None.ensures.none refl) in
    sym (none_taken c.args.regions.now.entries c.requires.parted (get int_cmp c.args.lows.now) c.requires.lows c.args.range c.requires.filled free (λ h above _. none h above))
