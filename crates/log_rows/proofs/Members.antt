-- Members of lists, and lists in order with the same members.
use Rattle.std.proofs.Common.{◌≡◌, ◌⊎◌, inl, inr, ◌∙◌, refl, sym, ap, subst, zero, suc, ℤ, List, [], ◌∷◌, Option, Some, None, filter_map, map, arith, Less}
use Rattle.std.specs.Prelude.{Contains}
use Rattle.std.specs.List.{AllByRecursion, cons_option}
use Rattle.std.specs.List.Sorted.{IsStrictlySortedBy}
use Rattle.std.specs.Ordering.{int_cmp}
use Rattle.std.proofs.lemmas.Int.{ints}
use Rattle.std.proofs.lemmas.List.Elements.{Contains-append_cases, Contains-append_right}
use Rattle.column_block.specs.declared.cell.Row.{Row}

head_is : {X : Type 0} (x y : X) → Contains (x ∷ []) y → x ≡ y
head_is x y (zero, lt, is) = is
head_is x y (suc k, lt, is) = absurd (omega (arith, lt))

in_cons : {X : Type 0} (x : X) (xs : List X) (y : X) → Contains (x ∷ xs) y → (x ≡ y) ⊎ Contains xs y
in_cons x xs y has = elim (Contains-append_cases (x ∷ []) xs y has) [ inl h ↦ inl (head_is x y h) | inr t ↦ inr t ]

at_head : {X : Type 0} (x : X) (xs : List X) → Contains (x ∷ xs) x
at_head x xs = (0, omega arith, refl)

in_tail : {X : Type 0} (x : X) (xs : List X) (y : X) → Contains xs y → Contains (x ∷ xs) y
in_tail x xs y has = Contains-append_right (x ∷ []) xs y has

in_nothing : {X : Type 0} (y : X) → Contains [] y → ⊥
in_nothing y has = absurd (omega (arith, has.1))

-- ---- what a test keeps of a list
from_kept : {X Y : Type 0} (h : X → Option Y) (x : X) (o : Option Y) (others : List Y) (xs : List X) (y : Y) → h x ≡ o → (Contains others y → (z : X) × Contains xs z × (h z ≡ Some y)) → Contains (cons_option o others) y → (z : X) × Contains (x ∷ xs) z × (h z ≡ Some y)
from_kept h x None others xs y is later has = let l = later has in (l.0, in_tail x xs l.0 l.1, l.2)
from_kept h x (Some v) others xs y is later has = elim (in_cons v others y has) [
  | inl same ↦ (x, at_head x xs, is ∙ ap (λ w. Some w) same)
  | inr t ↦ let l = later t in (l.0, in_tail x xs l.0 l.1, l.2)
]

pub in_kept : {X Y : Type 0} (h : X → Option Y) (xs : List X) (y : Y) → Contains (filter_map h xs) y → (x : X) × Contains xs x × (h x ≡ Some y)
in_kept h [] y has = absurd (omega (arith, has.1))
in_kept h (x ∷ xs) y has = from_kept h x (h x) (filter_map h xs) xs y refl (in_kept h xs y) has

past_one : {Y : Type 0} (o : Option Y) (others : List Y) (y : Y) → Contains others y → Contains (cons_option o others) y
past_one None others y has = has
past_one (Some v) others y has = in_tail v others y has

pub kept : {X Y : Type 0} (h : X → Option Y) (xs : List X) (x : X) (y : Y) → Contains xs x → h x ≡ Some y → Contains (filter_map h xs) y
kept h [] x y has is = absurd (omega (arith, has.1))
kept h (z ∷ xs) x y has is = elim (in_cons z xs x has) [
  | inl same ↦ let here : h z ≡ Some y = ap h same ∙ is in subst (λ o. Contains (cons_option o (filter_map h xs)) y) (sym here) (at_head y (filter_map h xs))
  | inr t ↦ past_one (h z) (filter_map h xs) y (kept h xs x y t is)
]

-- ---- rows in the order of their handles

abbrev pub handles_of : List Row → List ℤ
handles_of rows = map (λ (row : Row). row.handle) rows

above : (h : ℤ) (rows : List Row) (row : Row) → AllByRecursion (λ q. int_cmp h q ≡ Less) (handles_of rows) → Contains rows row → int_cmp h row.handle ≡ Less
above h [] row all has = absurd (in_nothing row has)
above h (r ∷ rows) row all has = elim (in_cons r rows row has) [
  | inl same ↦ subst (λ (x : Row). int_cmp h x.handle ≡ Less) same all.0
  | inr t ↦ above h rows row all.1 t
]

not_both : (a b : ℤ) → int_cmp a b ≡ Less → int_cmp b a ≡ Less → ⊥
not_both a b l m = absurd (grind (arith, ints, l, m))

not_itself : (a : ℤ) → int_cmp a a ≡ Less → ⊥
not_itself a l = absurd (grind (arith, ints, l))

-- rows in order with the same members are the same rows
pub same_rows : (xs ys : List Row) → IsStrictlySortedBy int_cmp (handles_of xs) → IsStrictlySortedBy int_cmp (handles_of ys) → ((row : Row) → Contains xs row → Contains ys row) → ((row : Row) → Contains ys row → Contains xs row) → xs ≡ ys
unfolding IsStrictlySortedBy
same_rows [] [] rise rise' to from = refl
same_rows [] (y ∷ ys) rise rise' to from = absurd (in_nothing y (from y (at_head y ys)))
same_rows (x ∷ xs) [] rise rise' to from = absurd (in_nothing x (to x (at_head x xs)))
same_rows (x ∷ xs) (y ∷ ys) rise rise' to from =
    (λ i. same i ∷ same_rows xs ys rise.1 rise'.1 to_tail from_tail i)
  where
    same : x ≡ y
    same = elim (in_cons y ys x (to x (at_head x xs))) [
      | inl is ↦ sym is
      | inr later ↦ elim (in_cons x xs y (from y (at_head y ys))) [
        | inl is ↦ is
        | inr later' ↦ absurd (not_both y.handle x.handle (above y.handle ys x rise'.0 later) (above x.handle xs y rise.0 later'))
      ]
    ]

    to_tail : (row : Row) → Contains xs row → Contains ys row
    to_tail row has = elim (in_cons y ys row (to row (in_tail x xs row has))) [
      | inl is ↦ absurd (not_itself x.handle (subst (λ (r : Row). int_cmp x.handle r.handle ≡ Less) (sym is ∙ sym same) (above x.handle xs row rise.0 has)))
      | inr later ↦ later
    ]

    from_tail : (row : Row) → Contains ys row → Contains xs row
    from_tail row has = elim (in_cons x xs row (from row (in_tail y ys row has))) [
      | inl is ↦ absurd (not_itself y.handle (subst (λ (r : Row). int_cmp y.handle r.handle ≡ Less) (sym is ∙ same) (above y.handle ys row rise'.0 has)))
      | inr later ↦ later
    ]
