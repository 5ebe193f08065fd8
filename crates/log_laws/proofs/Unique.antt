-- One list of rows alone is by a rule.
use Rattle.std.proofs.Common.{◌≡◌, ◌≢◌, ◌∙◌, refl, sym, ap, ℤ, Bool, true, false, true≢false, cond, List, [], ◌∷◌, Option, Some, None, map, arith}
use Rattle.std.proofs.lemmas.Int.{ints}
use Rattle.std.proofs.lemmas.List.Elements.{All-cons, All-contains, All-head, All-nil, All-tail}
use Rattle.std.specs.List.{All, AllByRecursion, Contains}
use Rattle.std.specs.List.Sorted.{IsStrictlySortedBy}
use Rattle.std.specs.Ordering.{int_cmp, int_eq}
use Rattle.std.specs.declared.cmp.Ordering.TheVariants.{Less}
use Rattle.column_block.specs.declared.cell.Row.{Row}
use Rattle.committed_log.specs.Laws.{AreRowsBy}
use Rattle.log_laws.specs.Rows.{row_on}
use Rattle.log_laws.proofs.Small.{some_is}

abbrev pub Above : ℤ → List Row → Type 0
Above h rows = AllByRecursion (λ (r : Row). int_cmp h r.handle ≡ Less) rows

abbrev pub Up : List Row → Type 0
Up [] = Unit {0}
Up (r ∷ rows) = Above r.handle rows × Up rows

int_same : (a b : ℤ) → int_eq a b ≡ true → a ≡ b
int_same a b e = grind (arith, ints)

int_itself : (a : ℤ) → int_eq a a ≡ true
int_itself a = grind (arith, ints)

not_less : (a b : ℤ) → int_cmp a b ≡ Less → int_eq b a ≡ true → ⊥
not_less a b e f = grind (arith, ints)

less_less : (a b c : ℤ) → int_cmp a b ≡ Less → int_cmp b c ≡ Less → int_cmp a c ≡ Less
less_less a b c e f = grind (arith, ints)

-- none above a handle has it
none_above : (h : ℤ) (rows : List Row) → Above h rows → row_on h rows ≡ None
none_above h [] above = refl
none_above h (r ∷ rows) above = by (int_eq r.handle h) refl (none_above h rows above.1)
  where
    by : (b : Bool) → int_eq r.handle h ≡ b → row_on h rows ≡ None → cond b (Some r) (row_on h rows) ≡ None
    by true is rest = absurd (not_less h r.handle above.0 is)
    by false is rest = rest

above_more : (a b : ℤ) (rows : List Row) → int_cmp a b ≡ Less → Above b rows → Above a rows
above_more a b [] less above = tt
above_more a b (r ∷ rows) less above = (less_less a b r.handle less above.0, above_more a b rows less above.1)

row_here : (r : Row) (rows : List Row) → row_on r.handle (r ∷ rows) ≡ Some r
row_here r rows = ap (λ b. cond b (Some r) (row_on r.handle rows)) (int_itself r.handle)

less_or : (a b : ℤ) → int_eq a b ≡ false → int_cmp a b ≢ Less → int_cmp b a ≡ Less
less_or a b e f = grind (arith, ints)

-- lists that rise and have the same row of each handle are one
pub one_list : (xs ys : List Row) → Up xs → Up ys → ((h : ℤ) → row_on h xs ≡ row_on h ys) → xs ≡ ys
one_list [] [] up up' same = refl
one_list [] (y ∷ ys) up up' same = cc (same y.handle ∙ row_here y ys)
one_list (x ∷ xs) [] up up' same = cc (sym (same x.handle) ∙ row_here x xs)
one_list (x ∷ xs) (y ∷ ys) up up' same = by (int_eq x.handle y.handle) refl (one_list xs ys up.1 up'.1)
  where
    -- the first of one list is in the other, and not below its first
    not_below : (a b : Row) (us bs : List Row) → Above b.handle bs → row_on a.handle (b ∷ bs) ≡ Some a → int_cmp a.handle b.handle ≡ Less → ⊥
    not_below a b us bs above is less = cc (sym (none_above a.handle (b ∷ bs) (less, above_more a.handle b.handle bs less above)) ∙ is)

    x_there : row_on x.handle (y ∷ ys) ≡ Some x
    x_there = sym (same x.handle) ∙ row_here x xs

    y_there : row_on y.handle (x ∷ xs) ≡ Some y
    y_there = same y.handle ∙ row_here y ys

    at_one : int_eq x.handle y.handle ≡ true → x ≡ y
    at_one e = some_is x y (sym x_there ∙ ap (λ h. row_on h (y ∷ ys)) (int_same x.handle y.handle e) ∙ row_here y ys)

    rest : (h : ℤ) → x ≡ y → row_on h xs ≡ row_on h ys
    rest h e = test (int_eq x.handle h) refl
      where
        test : (b : Bool) → int_eq x.handle h ≡ b → row_on h xs ≡ row_on h ys
        test true is =
            let at : x.handle ≡ h = int_same x.handle h is in
            sym (ap (λ k. row_on k xs) at) ∙ none_above x.handle xs up.0 ∙ sym (none_above y.handle ys up'.0) ∙ ap (λ k. row_on k ys) (ap (λ (r : Row). r.handle) (sym e) ∙ at)
        test false is =
            sym (ap (λ b. cond b (Some x) (row_on h xs)) is) ∙ same h ∙ ap (λ b. cond b (Some y) (row_on h ys)) (ap (λ (r : Row). int_eq r.handle h) (sym e) ∙ is)

    by : (b : Bool) → int_eq x.handle y.handle ≡ b → (((h : ℤ) → row_on h xs ≡ row_on h ys) → xs ≡ ys) → x ∷ xs ≡ y ∷ ys
    by true e more = (let one = at_one e in (λ i. one i ∷ more (λ h. rest h one) i))
    by false e more = absurd (not_below y x ys xs up.0 y_there (less_or x.handle y.handle e (λ less. not_below x y xs ys up'.0 x_there less)))

-- ---- rows by a rule

pub sorted_up : (rows : List Row) → IsStrictlySortedBy int_cmp (map (λ (r : Row). r.handle) rows) → Up rows
unfolding IsStrictlySortedBy
sorted_up [] sorted = tt
sorted_up (r ∷ rows) sorted = (above rows sorted.0, sorted_up rows sorted.1)
  where
    above : (rows : List Row) → AllByRecursion (λ k. int_cmp r.handle k ≡ Less) (map (λ (r : Row). r.handle) rows) → Above r.handle rows
    above [] all = tt
    above (s ∷ rows) all = (all.0, above rows all.1)

module _ (rule : ℤ → Option Row) (h : ℤ) where
  found : (rows : List Row) → All (λ (row : Row). rule row.handle ≡ Some row) rows → (row : Row) → row_on h rows ≡ Some row → rule h ≡ Some row
  found [] each row e = cc e
  found (r ∷ rows) each row e = test (int_eq r.handle h) refl e (found rows (All-tail (λ (row : Row). rule row.handle ≡ Some row) r rows each) row)
    where
      test : (b : Bool) → int_eq r.handle h ≡ b → cond b (Some r) (row_on h rows) ≡ Some row → (row_on h rows ≡ Some row → rule h ≡ Some row) → rule h ≡ Some row
      test true is e rest = ap rule (sym (int_same r.handle h is)) ∙ All-head (λ (row : Row). rule row.handle ≡ Some row) r rows each ∙ e
      test false is e rest = rest e

  absent : (rows : List Row) → row_on h rows ≡ None → All (λ (r : Row). int_eq r.handle h ≡ false) rows
  absent [] none = All-nil (λ (r : Row). int_eq r.handle h ≡ false)
  absent (r ∷ rows) none = test (int_eq r.handle h) refl none (absent rows)
    where
      test : (b : Bool) → int_eq r.handle h ≡ b → cond b (Some r) (row_on h rows) ≡ None → (row_on h rows ≡ None → All (λ (r : Row). int_eq r.handle h ≡ false) rows) → All (λ (r : Row). int_eq r.handle h ≡ false) (r ∷ rows)
      test true is e rest = cc e
      test false is e rest = All-cons (λ (r : Row). int_eq r.handle h ≡ false) r rows is (rest e)

  there : (rows : List Row) (row : Row) → Contains rows row → int_eq row.handle h ≡ true → row_on h rows ≡ None → ⊥
  there rows row has is none = true≢false (sym is ∙ All-contains (λ (r : Row). int_eq r.handle h ≡ false) rows row (absent rows none) has)

  -- what the rows have of a handle is what the rule gives
  pub on_rule : ((k : ℤ) (row : Row) → rule k ≡ Some row → row.handle ≡ k) → (rows : List Row) → AreRowsBy rule rows → row_on h rows ≡ rule h
  on_rule own rows are = by (row_on h rows) refl (rule h) refl
    where
      by : (o : Option Row) → row_on h rows ≡ o → (r : Option Row) → rule h ≡ r → o ≡ r
      by None is None e = refl
      by None is (Some row) e = absurd (there rows row (are.all h row e) (ap (λ k. int_eq k h) (own h row e) ∙ int_itself h) is)
      by (Some row) is r e = sym (found rows are.each row is) ∙ e

-- a rule determines its rows
pub one_by_rule : (rule : ℤ → Option Row) → ((h : ℤ) (row : Row) → rule h ≡ Some row → row.handle ≡ h) → (xs ys : List Row) → AreRowsBy rule xs → AreRowsBy rule ys → xs ≡ ys
one_by_rule rule own xs ys a b = one_list xs ys (sorted_up xs a.rise) (sorted_up ys b.rise) (λ h. on_rule rule h own xs a ∙ sym (on_rule rule h own ys b))
