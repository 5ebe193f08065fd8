-- The version of a handle at a timestamp.
use Rattle.std.proofs.Common.{◌≡◌, ◌∙◌, refl, sym, ap, ℕ, ℤ, Bool, true, false, true≢false, cond, ◌&&◌, List, [], ◌∷◌, ◌++◌, Option, Some, None, arith}
use Rattle.std.specs.Prelude.{◌==◌}
use Rattle.std.specs.Option.{option_or}
use Rattle.std.specs.Ordering.{is_eq, int_eq, int_cmp, nat_cmp, ordering_then, ordering_reverse}
use Rattle.std.specs.declared.cmp.Ordering.{Ordering}
use Rattle.std.specs.declared.cmp.Ordering.TheVariants.{Less, Equal, Greater}
use Rattle.std.specs.Cmp.{int_cmp_total}
use Rattle.column_block.specs.declared.cell.Version.{Version}
use Rattle.column_block.specs.Order.{key_cmp}
use Rattle.column_block.proofs.Ordered.{key, key_cmp_total, Above, Up}
use Rattle.good_replica.specs.Changed.{had}
use Rattle.good_replica.specs.Trail.{after_versions, versions_on}
use Rattle.good_replica.proofs.Facts.{or_none_right}
use Rattle.good_replica.proofs.Steps.{versions_over}

abbrev pub is_at_key : ℤ → ℕ → Version → Bool
is_at_key h ts v = is_eq (key_cmp (h, ts) (key v))

abbrev pub at : ℤ → ℕ → List Version → Option Version
at h ts [] = None
at h ts (v ∷ vs) = cond (is_at_key h ts v) (Some v) (at h ts vs)

pub at_both : (h : ℤ) (ts : ℕ) (xs ys : List Version) → at h ts (xs ++ ys) ≡ option_or (at h ts xs) (at h ts ys)
at_both h ts [] ys = refl
at_both h ts (x ∷ xs) ys = elim (is_at_key h ts x) as (λ b. cond b (Some x) (at h ts (xs ++ ys)) ≡ option_or (cond b (Some x) (at h ts xs)) (at h ts ys)) [ true ↦ refl | false ↦ at_both h ts xs ys ]

equal_is : (o : Ordering) → is_eq o ≡ true → o ≡ Equal
equal_is Less e = absurd (true≢false (sym e))
equal_is Equal e = refl
equal_is Greater e = absurd (true≢false (sym e))

pub key_is : (h : ℤ) (ts : ℕ) (v : Version) → is_at_key h ts v ≡ true → key_cmp (h, ts) (key v) ≡ Equal
key_is h ts v e = equal_is (key_cmp (h, ts) (key v)) e

-- none of those above a version with the key has it
pub none_above : (h : ℤ) (ts : ℕ) (v : Version) (vs : List Version) → is_at_key h ts v ≡ true → Above v vs → at h ts vs ≡ None
none_above h ts v [] e a = refl
none_above h ts v (w ∷ vs) e a =
    let less : key_cmp (h, ts) (key w) ≡ Less = key_cmp_total.congr (h, ts) (key v) (key w) (key_is h ts v e) ∙ a.0 in
    ap (λ o. cond (is_eq o) (Some w) (at h ts vs)) less ∙ none_above h ts v vs e a.1

same_test : (a b : ℤ) (x y : ℕ) → is_eq (ordering_then (int_cmp a b) (nat_cmp x y)) ≡ (int_eq b a && (y == x))
same_test a b x y = by (int_cmp a b) refl
  where
    turned : int_cmp b a ≡ ordering_reverse (int_cmp a b)
    turned = int_cmp_total.antisymm b a

    numbers : is_eq (nat_cmp x y) ≡ (y == x)
    numbers = grind arith

    by : (o : Ordering) → int_cmp a b ≡ o → is_eq (ordering_then o (nat_cmp x y)) ≡ (is_eq (int_cmp b a) && (y == x))
    by Less is = sym (ap (λ o. is_eq o && (y == x)) (turned ∙ ap ordering_reverse is))
    by Equal is = numbers ∙ sym (ap (λ o. is_eq o && (y == x)) (turned ∙ ap ordering_reverse is))
    by Greater is = sym (ap (λ o. is_eq o && (y == x)) (turned ∙ ap ordering_reverse is))

abbrev pub here : ℤ → ℕ → Version → Option Version
here h ts v = cond (int_eq v.handle h) (cond (v.ts == ts) (Some v) None) None

pub had_cons : (h : ℤ) (ts : ℕ) (v : Version) (vs : List Version) → had h (v ∷ vs) ts ≡ option_or (had h vs ts) (here h ts v)
had_cons h ts v vs = elim (int_eq v.handle h) as (λ b. after_versions ts None (cond b (v ∷ versions_on h vs) (versions_on h vs)) ≡ option_or (had h vs ts) (cond b (cond (v.ts == ts) (Some v) None) None)) [
  | true ↦ versions_over ts (cond (v.ts == ts) (Some v) None) (versions_on h vs)
  | false ↦ sym (or_none_right (had h vs ts))
]

pub here_is : (h : ℤ) (ts : ℕ) (v : Version) → here h ts v ≡ cond (is_at_key h ts v) (Some v) None
here_is h ts v = by (int_eq v.handle h) (v.ts == ts) ∙ ap (λ b. cond b (Some v) None) (sym (same_test h v.handle ts v.ts))
  where
    by : (p q : Bool) → cond p (cond q (Some v) None) None ≡ cond (p && q) (Some v) None
    by true q = refl
    by false q = refl

-- of versions that rise, what they have of a handle is the one with the key
pub had_is : (h : ℤ) (ts : ℕ) (vs : List Version) → Up vs → had h vs ts ≡ at h ts vs
had_is h ts [] up = refl
had_is h ts (v ∷ vs) up = had_cons h ts v vs ∙ (λ i. option_or (had_is h ts vs up.1 i) (here_is h ts v i)) ∙ by (is_at_key h ts v) refl
  where
    by : (b : Bool) → is_at_key h ts v ≡ b → option_or (at h ts vs) (cond b (Some v) None) ≡ cond b (Some v) (at h ts vs)
    by true is = ap (λ o. option_or o (Some v)) (none_above h ts v vs is up.0)
    by false is = or_none_right (at h ts vs)
