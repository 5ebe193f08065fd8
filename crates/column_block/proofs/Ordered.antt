-- The order of versions, told in its several ways.
use Rattle.std.proofs.Common.{◌≡◌, ◌∙◌, refl, sym, ap, ℕ, suc, ℤ, ◌<◌, ◌≤ℤ◌, Bool, true, false, true≢false, cond, ◌&&◌, ◌||◌, List, [], ◌∷◌, ◌++◌, length, filter, arith}
use Rattle.std.specs.Prelude.{◌==◌, int_lt, nat_lt}
use Rattle.std.specs.Ordering.{is_eq, is_lt, int_eq, int_cmp, nat_cmp, ordering_then, ordering_reverse}
use Rattle.std.specs.declared.cmp.Ordering.{Ordering}
use Rattle.std.specs.declared.cmp.Ordering.TheVariants.{Less, Equal, Greater}
use Rattle.std.specs.Cmp.{IsTotalOrder, int_cmp_total, nat_cmp_total}
use Rattle.std.specs.List.{All, AllPairs, AllByRecursion}
use Rattle.std.proofs.lemmas.Cmp.{then_total, on_total}
use Rattle.std.proofs.lemmas.Int.{ints}
use Rattle.std.proofs.lemmas.List.Elements.{All-from_recursion, recursion_from_All}
use Rattle.std.proofs.lemmas.List.Kept.{AllPairs-cons}
use Rattle.column_block.specs.declared.cell.Version.{Version}
use Rattle.column_block.specs.Order.{key_cmp, version_cmp, Rise, is_before, rise_after, rise, rises}

pub key_cmp_total : IsTotalOrder key_cmp
key_cmp_total = then_total {R = λ a b. int_cmp a.0 b.0} {S = λ a b. nat_cmp a.1 b.1} (on_total (λ a. a.0) int_cmp_total) (on_total (λ a. a.1) nat_cmp_total)

abbrev pub key : Version → ℤ × ℕ
key v = (v.handle, v.ts)

-- ---- one before another

pub before_is : (v w : Version) → is_before v w ≡ is_lt (version_cmp v w)
before_is v w = by (int_lt v.handle w.handle) (int_lt w.handle v.handle) (nat_lt v.ts w.ts) (v.ts == w.ts)
  where
    by : (p q r e : Bool) → (p || (is_eq (cond p Less (cond q Greater Equal)) && r)) ≡ is_lt (ordering_then (cond p Less (cond q Greater Equal)) (cond r Less (cond e Equal Greater)))
    by true q r e = refl
    by false true r e = refl
    by false false true e = refl
    by false false false true = refl
    by false false false false = refl

less_is : (o : Ordering) → is_lt o ≡ true → o ≡ Less
less_is Less e = refl
less_is Equal e = absurd (true≢false (sym e))
less_is Greater e = absurd (true≢false (sym e))

pub before_less : (v w : Version) → is_before v w ≡ true → version_cmp v w ≡ Less
before_less v w e = less_is (version_cmp v w) (sym (before_is v w) ∙ e)

pub less_before : (v w : Version) → version_cmp v w ≡ Less → is_before v w ≡ true
less_before v w e = before_is v w ∙ ap is_lt e

-- neither before the other
pub neither : (v w : Version) → is_before v w ≡ false → is_before w v ≡ false → version_cmp v w ≡ Equal
neither v w a b = by (version_cmp v w) refl
  where
    turned : version_cmp w v ≡ ordering_reverse (version_cmp v w)
    turned = key_cmp_total.antisymm (key w) (key v)

    by : (o : Ordering) → version_cmp v w ≡ o → o ≡ Equal
    by Less is = absurd (true≢false (sym (less_before v w is) ∙ a))
    by Equal is = refl
    by Greater is = absurd (true≢false (sym (less_before w v (turned ∙ ap ordering_reverse is)) ∙ b))

pub handle_le : (v w : Version) → version_cmp v w ≡ Less → v.handle ≤ℤ w.handle
handle_le v w less = by (int_cmp v.handle w.handle) refl less
  where
    lower : (a b : ℤ) → int_cmp a b ≡ Less → a ≤ℤ b
    lower a b e = grind (arith, ints)

    level : (a b : ℤ) → int_cmp a b ≡ Equal → a ≤ℤ b
    level a b e = grind (arith, ints)

    by : (o : Ordering) → int_cmp v.handle w.handle ≡ o → ordering_then o (nat_cmp v.ts w.ts) ≡ Less → v.handle ≤ℤ w.handle
    by Less is e = lower v.handle w.handle is
    by Equal is e = level v.handle w.handle is
    by Greater is e = cc e

-- ---- versions that rise, by recursion

abbrev pub Above : Version → List Version → Type 0
Above v vs = AllByRecursion (λ (w : Version). version_cmp v w ≡ Less) vs

abbrev pub Up : List Version → Type 0
Up [] = Unit {0}
Up (v ∷ vs) = Above v vs × Up vs

pub above_more : (v w : Version) (vs : List Version) → version_cmp v w ≡ Less → Above w vs → Above v vs
above_more v w [] less a = tt
above_more v w (x ∷ vs) less a = (key_cmp_total.trans (key v) (key w) (key x) less a.0, above_more v w vs less a.1)

and_left : (a b : Bool) → (a && b) ≡ true → a ≡ true
and_left true b e = refl
and_left false b e = e

and_right : (a b : Bool) → (a && b) ≡ true → b ≡ true
and_right true b e = e
and_right false b e = absurd (true≢false (sym e))

pub up_after : (v : Version) (vs : List Version) → rise_after v vs ≡ true → Up (v ∷ vs)
up_after v [] e = (tt, tt)
up_after v (w ∷ vs) e =
    let less = before_less v w (and_left (is_before v w) (rise_after w vs) e) in
    let up = up_after w vs (and_right (is_before v w) (rise_after w vs) e) in
    ((less, above_more v w vs less up.0), up)

pub up_from_rises : (vs : List Version) → rises vs ≡ true → Up vs
up_from_rises [] e = tt
up_from_rises (v ∷ vs) e = up_after v vs e

pub rises_from_up : (vs : List Version) → Up vs → rises vs ≡ true
rises_from_up [] up = refl
rises_from_up (v ∷ []) up = refl
rises_from_up (v ∷ w ∷ vs) up = ap (λ b. b && rise_after w vs) (less_before v w up.0.0) ∙ rises_from_up (w ∷ vs) up.1

abbrev Pair : Version → Version → Type 0
Pair v w = version_cmp v w ≡ Less

pairs_first : (v : Version) (vs : List Version) → Rise (v ∷ vs) → All (Pair v) vs
pairs_first v vs all = λ j d less. all 0 (suc j) d (omega arith) (omega (arith, less))

pairs_rest : (v : Version) (vs : List Version) → Rise (v ∷ vs) → Rise vs
pairs_rest v vs all = λ i j d less low. all (suc i) (suc j) d (omega (arith, less)) (omega (arith, low))

pub rise_from_up : (vs : List Version) → Up vs → Rise vs
rise_from_up [] up = λ i j d less low. absurd (omega (arith, low))
rise_from_up (v ∷ vs) up = AllPairs-cons Pair v vs (All-from_recursion (Pair v) vs up.0) (rise_from_up vs up.1)

pub up_from_rise : (vs : List Version) → Rise vs → Up vs
up_from_rise [] rise = tt
up_from_rise (v ∷ vs) rise = (recursion_from_All (Pair v) vs (pairs_first v vs rise), up_from_rise vs (pairs_rest v vs rise))

-- some versions that rise, by the test
pub rise_of : (vs : List Version) → (length vs ≡ 0 → ⊥) → Rise vs → rise vs ≡ true
rise_of [] some up = absurd (some refl)
rise_of (v ∷ vs) some up = rises_from_up (v ∷ vs) (up_from_rise (v ∷ vs) up)

pub rise_is : (vs : List Version) → rise vs ≡ true → Rise vs
rise_is [] up = rise_from_up [] tt
rise_is (v ∷ vs) up = rise_from_up (v ∷ vs) (up_after v vs up)

-- ---- the parts of such lists

module _ {X : Type 0} (P : X → Type 0) where
  pub each_both : (xs ys : List X) → AllByRecursion P xs → AllByRecursion P ys → AllByRecursion P (xs ++ ys)
  each_both [] ys a b = b
  each_both (x ∷ xs) ys a b = (a.0, each_both xs ys a.1 b)

  pub each_left : (xs ys : List X) → AllByRecursion P (xs ++ ys) → AllByRecursion P xs
  each_left [] ys a = tt
  each_left (x ∷ xs) ys a = (a.0, each_left xs ys a.1)

  pub each_right : (xs ys : List X) → AllByRecursion P (xs ++ ys) → AllByRecursion P ys
  each_right [] ys a = a
  each_right (x ∷ xs) ys a = each_right xs ys a.1

  pub each_filter : (p : X → Bool) (xs : List X) → AllByRecursion P xs → AllByRecursion P (filter p xs)
  each_filter p [] a = tt
  each_filter p (x ∷ xs) a = elim (p x) as (λ b. AllByRecursion P (cond b (x ∷ filter p xs) (filter p xs))) [ true ↦ (a.0, each_filter p xs a.1) | false ↦ each_filter p xs a.1 ]

  pub each_weaker : (Q : X → Type 0) → ((x : X) → P x → Q x) → (xs : List X) → AllByRecursion P xs → AllByRecursion Q xs
  each_weaker Q f [] a = tt
  each_weaker Q f (x ∷ xs) a = (f x a.0, each_weaker Q f xs a.1)

pub up_left : (xs ys : List Version) → Up (xs ++ ys) → Up xs
up_left [] ys up = tt
up_left (x ∷ xs) ys up = (each_left (Pair x) xs ys up.0, up_left xs ys up.1)

pub up_right : (xs ys : List Version) → Up (xs ++ ys) → Up ys
up_right [] ys up = up
up_right (x ∷ xs) ys up = up_right xs ys up.1

pub up_cross : (xs ys : List Version) → Up (xs ++ ys) → AllByRecursion (λ (x : Version). Above x ys) xs
up_cross [] ys up = tt
up_cross (x ∷ xs) ys up = (each_right (Pair x) xs ys up.0, up_cross xs ys up.1)

pub up_both : (xs ys : List Version) → Up xs → Up ys → AllByRecursion (λ (x : Version). Above x ys) xs → Up (xs ++ ys)
up_both [] ys a b cross = b
up_both (x ∷ xs) ys a b cross = (each_both (Pair x) xs ys a.0 cross.0, up_both xs ys a.1 b cross.1)

pub up_filter : (p : Version → Bool) (xs : List Version) → Up xs → Up (filter p xs)
up_filter p [] up = tt
up_filter p (x ∷ xs) up = elim (p x) as (λ b. Up (cond b (x ∷ filter p xs) (filter p xs))) [ true ↦ (each_filter (Pair x) p xs up.0, up_filter p xs up.1) | false ↦ up_filter p xs up.1 ]
