-- What versions in order show of a row is what the read rule says, and each row once.
use Rattle.std.proofs.Common.{◌≡◌, ◌⊎◌, inl, inr, ◌∙◌, refl, sym, ap, subst, ℕ, zero, suc, ◌<◌, ◌≤◌, ◌<ℤ◌, ℤ, Bool, true, false, true≢false, not, ◌&&◌, List, Option, Some, None, nat_lt, nat_le, get_or, option_map, arith}
use Rattle.std.specs.Prelude.{find}
use Rattle.std.specs.List.{AllPairs, list_any}
use Rattle.std.specs.Ordering.{int_eq, int_cmp, nat_cmp, ordering_then}
use Rattle.std.specs.declared.cmp.Ordering.{Ordering}
use Rattle.std.specs.declared.cmp.Ordering.TheVariants.{Less, Equal, Greater}
use Rattle.std.proofs.lemmas.Int.{ints}
use Rattle.std.proofs.lemmas.List.Kept.{AllPairs-filter}
use Rattle.column_block.specs.declared.cell.Version.{Version}
use Rattle.good_replica.specs.Changed.{had}
use Rattle.column_block.specs.Order.{Rise}
use Rattle.good_replica.specs.Shows.{Shows, IsNewestAt}
use Rattle.good_replica.specs.Versions.{Versions}
use Rattle.good_replica.proofs.Facts.{int_same, int_itself, le_or}
use Rattle.learner_read.specs.Rows.{cells_on, is_newer, is_shown, shown_rows}
use Rattle.learner_read.proofs.Members.{In, IsBefore, any_in, in_any, in_filter, filter_in, find_in, find_none, in_get, before_later, had_in, in_had}

both : (a b : Bool) → (a && b) ≡ true → (a ≡ true) × (b ≡ true)
both true b e = (refl, e)
both false b e = absurd (true≢false (sym e))

and : (a b : Bool) → a ≡ true → b ≡ true → (a && b) ≡ true
and true b e f = f
and false b e f = absurd (true≢false (sym e))

not_true : (b : Bool) → not b ≡ true → b ≡ false
not_true true e = absurd (true≢false (sym e))
not_true false e = refl

false_not : (b : Bool) → b ≡ false → not b ≡ true
false_not b e = ap not e

at_most : (a b : ℕ) → nat_le a b ≡ true → a ≤ b
at_most a b e = grind arith

is_at_most : (a b : ℕ) → a ≤ b → nat_le a b ≡ true
is_at_most a b e = grind arith

below : (a b : ℕ) → nat_lt a b ≡ true → a < b
below a b e = grind arith

is_below : (a b : ℕ) → a < b → nat_lt a b ≡ true
is_below a b e = grind arith

-- ---- newer versions

pub newer : (ts : ℕ) (v w : Version) → is_newer ts v w ≡ true → (w.handle ≡ v.handle) × (v.ts < w.ts) × (w.ts ≤ ts)
newer ts v w e =
    let a = both (int_eq w.handle v.handle) (nat_lt v.ts w.ts && nat_le w.ts ts) e in
    let b = both (nat_lt v.ts w.ts) (nat_le w.ts ts) (a.1) in
    (int_same w.handle v.handle (a.0), below v.ts w.ts (b.0), at_most w.ts ts (b.1))

pub is_newer_at : (ts : ℕ) (v w : Version) → w.handle ≡ v.handle → v.ts < w.ts → w.ts ≤ ts → is_newer ts v w ≡ true
is_newer_at ts v w same less low = and (int_eq w.handle v.handle) (nat_lt v.ts w.ts && nat_le w.ts ts) (int_itself w.handle v.handle same) (and (nat_lt v.ts w.ts) (nat_le w.ts ts) (is_below v.ts w.ts less) (is_at_most w.ts ts low))

pub record IsTop (ts : ℕ) (vs : List Version) (v : Version) : Type 0 where
  pub low : v.ts ≤ ts
  pub put : v.gone ≡ false
  pub alone : list_any (is_newer ts v) vs ≡ false

pub top : (ts : ℕ) (vs : List Version) (v : Version) → is_shown ts vs v ≡ true → IsTop ts vs v
top ts vs v e =
    let a = both (nat_le v.ts ts) (not v.gone && not (list_any (is_newer ts v) vs)) e in
    let b = both (not v.gone) (not (list_any (is_newer ts v) vs)) (a.1) in
    record { low = at_most v.ts ts (a.0); put = not_true v.gone (b.0); alone = not_true (list_any (is_newer ts v) vs) (b.1) }

pub is_top : (ts : ℕ) (vs : List Version) (v : Version) → IsTop ts vs v → is_shown ts vs v ≡ true
is_top ts vs v t = and (nat_le v.ts ts) (not v.gone && not (list_any (is_newer ts v) vs)) (is_at_most v.ts ts t.low) (and (not v.gone) (not (list_any (is_newer ts v) vs)) (false_not v.gone t.put) (false_not (list_any (is_newer ts v) vs) t.alone))

-- ---- the newest up to a timestamp

pub newest : (all : Versions) (n : ℕ) → ((d : ℕ) → d ≤ n → all d ≡ None) ⊎ ((c : ℕ) × (v : Version) × IsNewestAt all n c v)
newest all zero = by (all zero) refl
  where
    is_zero : (d : ℕ) → d ≤ 0 → d ≡ 0
    is_zero d low = omega (arith, low)

    by : (o : Option Version) → all zero ≡ o → ((d : ℕ) → d ≤ zero → all d ≡ None) ⊎ ((c : ℕ) × (v : Version) × IsNewestAt all zero c v)
    by None e = inl (λ d low. ap all (is_zero d low) ∙ e)
    by (Some v) e = inr (zero, v, record { here = e; below = omega arith; newest = λ d w i low. low })
newest all (suc n) = by (all (suc n)) refl (newest all n)
  where
    by : (o : Option Version) → all (suc n) ≡ o → ((d : ℕ) → d ≤ n → all d ≡ None) ⊎ ((c : ℕ) × (v : Version) × IsNewestAt all n c v) → ((d : ℕ) → d ≤ suc n → all d ≡ None) ⊎ ((c : ℕ) × (v : Version) × IsNewestAt all (suc n) c v)
    by (Some v) e rest = inr (suc n, v, record { here = e; below = omega arith; newest = λ d w i low. low })
    by None e (inl none) = inl (λ d low. elim (le_or d n low) [ inl l ↦ none d l | inr same ↦ ap all same ∙ e ])
    by None e (inr x) = inr (
      x.0,
      x.1,
      record {
        here = x.2.here;
        below = (let l = x.2.below in omega (arith, l));
        newest = λ d w i low. elim (le_or d n low) [ inl l ↦ x.2.newest d w i l | inr same ↦ cc (sym i ∙ ap all same ∙ e) ];
      },
    )

-- ---- the read rule

module _ (ts : ℕ) (vs : List Version) (rise : Rise vs) where
  pub shows : (h : ℤ) → Shows (had h vs) ts (cells_on h (shown_rows ts vs))
  shows h = by (find (λ (v : Version). int_eq v.handle h) (shown_rows ts vs)) refl
    where
      there : (v : Version) → In v vs → v.handle ≡ h → had h vs v.ts ≡ Some v
      there v i same = subst (λ k. had k vs v.ts ≡ Some v) same (in_had v vs rise i)

      of_row : (v : Version) → In v vs → v.handle ≡ h → IsTop ts vs v → Shows (had h vs) ts (Some v.cells)
      of_row v i same t = (v.ts, v, record { here = there v i same; below = t.low; newest = above }, t.put, refl)
        where
          cases : (a b : ℕ) → (b ≤ a) ⊎ (a < b)
          cases a b = grind arith

          above : (d : ℕ) (w : Version) → had h vs d ≡ Some w → d ≤ ts → d ≤ v.ts
          above d w e low = elim (cases v.ts d) [
            | inl l ↦ l
            | inr less ↦ (let r = had_in h d w vs e in
                let at = r.1.1 in
                absurd (true≢false (sym (any_in (is_newer ts v) w vs (r.0) (is_newer_at ts v w (r.1.0 ∙ sym same) (omega (arith, less, at)) (omega (arith, low, at)))) ∙ t.alone)))
          ]

      none : find (λ (v : Version). int_eq v.handle h) (shown_rows ts vs) ≡ None → Shows (had h vs) ts None
      none e = elim (newest (had h vs) ts) [ inl nothing ↦ inl nothing | inr x ↦ inr (x.0, x.1, x.2, gone x.0 x.1 x.2) ]
        where
          gone : (c : ℕ) (v : Version) → IsNewestAt (had h vs) ts c v → v.gone ≡ true
          gone c v n = of v.gone refl
            where
              r : In v vs × ((v.handle ≡ h) × (v.ts ≡ c))
              r = had_in h c v vs n.here

              alone : (b : Bool) → list_any (is_newer ts v) vs ≡ b → b ≡ false
              alone false is = refl
              alone true is =
                  let x = in_any (is_newer ts v) vs is in
                  let y = newer ts v x.0 (x.1.1) in
                  let high = n.newest x.0.ts x.0 (there x.0 (x.1.0) (y.0 ∙ r.1.0)) y.2 in
                  let at = r.1.1 in
                  let less = y.1 in
                  absurd (omega (arith, high, less, at))

              low : v.ts ≤ ts
              low = let l = n.below in let at = r.1.1 in omega (arith, l, at)

              of : (b : Bool) → v.gone ≡ b → v.gone ≡ true
              of true is = is
              of false is =
                  let t : IsTop ts vs v = record { low = low; put = is; alone = alone (list_any (is_newer ts v) vs) refl } in
                  let i = filter_in (is_shown ts vs) v vs (r.0) (is_top ts vs v t) in
                  absurd (true≢false (sym (int_itself v.handle h (r.1.0)) ∙ find_none (λ (v : Version). int_eq v.handle h) v (shown_rows ts vs) e i))

      by : (o : Option Version) → find (λ (v : Version). int_eq v.handle h) (shown_rows ts vs) ≡ o → Shows (had h vs) ts (cells_on h (shown_rows ts vs))
      by None e = subst (λ o. Shows (had h vs) ts (option_map (λ (v : Version). v.cells) o)) (sym e) (none e)
      by (Some v) e =
          let f = find_in (λ (v : Version). int_eq v.handle h) v (shown_rows ts vs) e in
          let i = in_filter (is_shown ts vs) v vs (f.0) in
          subst (λ o. Shows (had h vs) ts (option_map (λ (v : Version). v.cells) o)) (sym e) (of_row v (i.0) (int_same v.handle h (f.1)) (top ts vs v (i.1)))

  -- two shown versions in order are of different rows
  apart : (v w : Version) → In w vs → IsBefore v w → is_shown ts vs v ≡ true → is_shown ts vs w ≡ true → v.handle <ℤ w.handle
  apart v w i before a b = by (int_cmp v.handle w.handle) refl before
    where
      up : (a b : ℤ) → int_cmp a b ≡ Less → a <ℤ b
      up a b e = grind (arith, ints)

      level : (a b : ℤ) → int_cmp a b ≡ Equal → a ≡ b
      level a b e = grind (arith, ints)

      by : (o : Ordering) → int_cmp v.handle w.handle ≡ o → ordering_then o (nat_cmp v.ts w.ts) ≡ Less → v.handle <ℤ w.handle
      by Less is e = up v.handle w.handle is
      by Greater is e = cc e
      by Equal is e =
          let same = level v.handle w.handle is in
          let s = top ts vs v a in
          let t = top ts vs w b in
          absurd (true≢false (sym (any_in (is_newer ts v) w vs i (is_newer_at ts v w (sym same) (before_later v w before same) t.low)) ∙ s.alone))

  pub once : AllPairs (λ (v w : Version). v.handle <ℤ w.handle) (shown_rows ts vs)
  once i j d less within =
      let v = in_filter (is_shown ts vs) (get_or (shown_rows ts vs) i d) vs (in_get (shown_rows ts vs) i d (omega (arith, less, within))) in
      let w = in_filter (is_shown ts vs) (get_or (shown_rows ts vs) j d) vs (in_get (shown_rows ts vs) j d within) in
      apart (get_or (shown_rows ts vs) i d) (get_or (shown_rows ts vs) j d) (w.0) (AllPairs-filter IsBefore (is_shown ts vs) vs rise i j d less within) (v.1) (w.1)
