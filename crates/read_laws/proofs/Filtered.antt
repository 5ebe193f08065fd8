-- Rows that rise by handle, and of them those that pass.
use Rattle.std.proofs.Common.{◌≡◌, ◌∙◌, refl, sym, ap, subst, ℤ, Bool, true, false, cond, List, [], ◌∷◌, Option, Some, None, filter, arith}
use Rattle.std.proofs.lemmas.Int.{ints}
use Rattle.std.specs.Ordering.{int_cmp, int_eq}
use Rattle.std.specs.declared.cmp.Ordering.TheVariants.{Less}
use Rattle.column_block.specs.declared.cell.Row.{Row}
use Rattle.log_laws.specs.Rows.{row_on}
use Rattle.log_laws.proofs.Unique.{Above, Up}

not_same : (a b : ℤ) → int_cmp a b ≡ Less → int_eq a b ≡ false
not_same a b e = grind (arith, ints)

less_less : (a b c : ℤ) → int_cmp a b ≡ Less → int_cmp b c ≡ Less → int_cmp a c ≡ Less
less_less a b c e f = grind (arith, ints)

not_at : (a b : ℤ) → int_cmp a b ≡ Less → int_eq b a ≡ false
not_at a b e = grind (arith, ints)

int_same : (a b : ℤ) → int_eq a b ≡ true → a ≡ b
int_same a b e = grind (arith, ints)

abbrev pub keep : (Row → Bool) → Option Row → Option Row
keep p None = None
keep p (Some row) = cond (p row) (Some row) None

-- none above a handle has it
none_above : (h : ℤ) (rows : List Row) → Above h rows → row_on h rows ≡ None
none_above h [] above = refl
none_above h (r ∷ rows) above = ap (λ b. cond b (Some r) (row_on h rows)) (not_at h r.handle above.0) ∙ none_above h rows above.1

module _ (p : Row → Bool) where
  above_filter : (h : ℤ) (rows : List Row) → Above h rows → Above h (filter p rows)
  above_filter h [] above = tt
  above_filter h (r ∷ rows) above = by (p r) (above_filter h rows above.1)
    where
      by : (b : Bool) → Above h (filter p rows) → Above h (cond b (r ∷ filter p rows) (filter p rows))
      by true rest = (above.0, rest)
      by false rest = rest

  pub up_filter : (rows : List Row) → Up rows → Up (filter p rows)
  up_filter [] up = tt
  up_filter (r ∷ rows) up = by (p r) (up_filter rows up.1)
    where
      by : (b : Bool) → Up (filter p rows) → Up (cond b (r ∷ filter p rows) (filter p rows))
      by true rest = (above_filter r.handle rows up.0, rest)
      by false rest = rest

  -- what the rows that pass have of a handle
  pub on_filter : (h : ℤ) (rows : List Row) → Up rows → row_on h (filter p rows) ≡ keep p (row_on h rows)
  on_filter h [] up = refl
  on_filter h (r ∷ rows) up = by (p r) refl (int_eq r.handle h) refl (on_filter h rows up.1)
    where
      rest_none : int_eq r.handle h ≡ true → row_on h (filter p rows) ≡ None
      rest_none e = none_above h (filter p rows) (above_filter h rows (moved (int_same r.handle h e)))
        where
          moved : r.handle ≡ h → Above h rows
          moved same = subst (λ k. Above k rows) same up.0

      by : (b : Bool) → p r ≡ b → (c : Bool) → int_eq r.handle h ≡ c → row_on h (filter p rows) ≡ keep p (row_on h rows) → row_on h (cond b (r ∷ filter p rows) (filter p rows)) ≡ keep p (cond c (Some r) (row_on h rows))
      by true passes true is rest = ap (λ x. cond x (Some r) (row_on h (filter p rows))) is ∙ sym (ap (λ x. cond x (Some r) None) passes)
      by true passes false is rest = ap (λ x. cond x (Some r) (row_on h (filter p rows))) is ∙ rest
      by false fails true is rest = rest_none is ∙ sym (ap (λ x. cond x (Some r) None) fails)
      by false fails false is rest = rest

-- where each passes
pub all_pass : (rows : List Row) → filter (λ (row : Row). true) rows ≡ rows
all_pass [] = refl
all_pass (r ∷ rows) = ap (λ rs. r ∷ rs) (all_pass rows)
