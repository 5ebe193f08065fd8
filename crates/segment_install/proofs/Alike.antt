-- New slots have the handles of those that they take the place of.
use Rattle.std.proofs.Common.{◌≡◌, ◌∙◌, refl, sym, ap, ℤ, true, int_le, int_lt, Option, Some, None, [], ◌∷◌, arith}
use Rattle.std.proofs.lemmas.Int.{ints}
use Rattle.flash_types.specs.Ranges.{has_any, is_below}
use Rattle.flash_types.specs.declared.range.HandleRange.{HandleRange}
use Rattle.segment_list.specs.Lists.{CoverAlike}
use Rattle.segment_list.specs.Slots.{Slotted}
use Rattle.segment_list.proofs.Insides.{both_true}
use Rattle.segment_merge.specs.Joined.{Touch, joined}
use Rattle.segment_split.specs.Halves.{IsCut, lower, upper}

below_trans : (a b : ℤ) (o : Option ℤ) → int_lt a b ≡ true → is_below b o ≡ true → is_below a o ≡ true
below_trans a b None p q = refl
below_trans a b (Some c) p q = less a b c p q
  where
    less : (a b c : ℤ) → int_lt a b ≡ true → int_lt b c ≡ true → int_lt a c ≡ true
    less a b c p q = grind (arith, ints)

module _ {G : Type 0} where
  pub alike_one : (s x : Slotted G) → x.range ≡ s.range → CoverAlike (s ∷ []) (x ∷ [])
  alike_one s x same range c = (ap (λ (r : HandleRange). r.low) same ∙ c.0, ap (λ (r : HandleRange). r.high) same ∙ c.1, ap has_any same ∙ c.2)

  pub alike_halves : (s x y : Slotted G) (whole : HandleRange) (at : ℤ) → s.range ≡ whole → IsCut whole at → x.range ≡ lower at whole → y.range ≡ upper at whole → CoverAlike (s ∷ []) (x ∷ y ∷ [])
  alike_halves s x y whole at is cut low high range c = (
    ap (λ (r : HandleRange). r.low) low ∙ sym (ap (λ (r : HandleRange). r.low) is) ∙ c.0,
    ap (λ (r : HandleRange). r.high) low ∙ ap (λ (z : ℤ). Some z) (sym (ap (λ (r : HandleRange). r.low) high)),
    ap has_any low ∙ cut.above,
    (
      refl,
      ap (λ (r : HandleRange). r.high) high ∙ sym (ap (λ (r : HandleRange). r.high) is) ∙ c.1,
      ap has_any high ∙ (both_true (int_le whole.low at) (is_below at whole.high) cut.within).1,
    ),
  )

  pub alike_joined : (s t x : Slotted G) (left right : HandleRange) → s.range ≡ left → t.range ≡ right → Touch left right → x.range ≡ joined left right → CoverAlike (s ∷ t ∷ []) (x ∷ [])
  alike_joined s t x left right s_is t_is touch both range c = (
    ap (λ (r : HandleRange). r.low) both ∙ sym (ap (λ (r : HandleRange). r.low) s_is) ∙ c.0,
    ap (λ (r : HandleRange). r.high) both ∙ sym (ap (λ (r : HandleRange). r.high) t_is) ∙ c.3.1,
    ap has_any both ∙ below_trans left.low right.low right.high (sym (ap (is_below left.low) touch.seam) ∙ touch.left_filled) touch.right_filled,
  )
