-- Entries that are ready: a closed set stays closed with one, and its regions are those that the log has before and after the entry.
use Rattle.std.proofs.Common.{◌≡◌, ◌⊎◌, inl, inr, ◌∙◌, refl, sym, ap, ℕ, ◌<◌, ◌≤◌, Bool, true, false, true≢false, not, ◌&&◌, ◌||◌, Some, None, nat_lt, arith, slice_get, length}
use Rattle.std.specs.Prelude.{◌==◌}
use Rattle.std.specs.List.{list_all}
use Rattle.std.proofs.lemmas.Option.{slice_get_within}
use Rattle.log_codec.specs.declared.entry.Entry.{Entry}
use Rattle.committed_log.specs.Applied.{acts_at, left_at, entry_is, applied, first_numbers, IsClosed, is_ready, with_position, waits_for}
use Rattle.committed_log.specs.Lawful.{IsLawful}
use Rattle.committed_log.specs.Laws.{region_at, IsFirstOut}
use Rattle.committed_log.specs.Log.{Log}
use Rattle.committed_log.specs.Regions.{Unborn}
use Rattle.committed_log.proofs.Closed.{acts_closed, applied_is, applied_none, entry_holds, entry_at, order, same_is}
use Rattle.committed_log.proofs.Faults.{both_true, or_either, or_first, or_second}
use Rattle.committed_log.proofs.Places.{last_acting}
use Rattle.committed_log.proofs.Positions.{IsLeast, IsGreatest, last_same, all_first, each_first}
use Rattle.committed_log.proofs.Ranks.{acts_within, same_number}

-- what it takes to be ready
pub record CanBeApplied (log : Log) (A : ℕ → Bool) (p : ℕ) : Type 0 where
  pub free : A p ≡ false
  pub entry : Entry
  pub here : slice_get log.entries p ≡ Some entry
  pub earlier : (q : ℕ) (e : Entry) → q < p → slice_get log.entries q ≡ Some e → waits_for entry e ≡ true → A q ≡ true

not_true : (b : Bool) → not b ≡ true → b ≡ false
not_true true e = absurd (true≢false (sym e))
not_true false e = refl

waits_at : Log → Entry → (ℕ → Bool) → ℕ → Bool
waits_at log later A q = not (entry_is log (waits_for later) q) || A q

module _ (log : Log) (A : ℕ → Bool) (p : ℕ) where
  pub ready_parts : is_ready log A p ≡ true → CanBeApplied log A p
  ready_parts ready = record { free = not_true (A p) split.0; entry = at_p.0; here = at_p.1; earlier = waited }
    where
      test : Entry → Bool
      test later = list_all (λ q. not (entry_is log (waits_for later) q) || A q) (first_numbers p)

      split : (not (A p) ≡ true) × (entry_is log (λ later. list_all (λ q. not (entry_is log (waits_for later) q) || A q) (first_numbers p)) p ≡ true)
      split = both_true (not (A p)) (entry_is log (λ later. list_all (λ q. not (entry_is log (waits_for later) q) || A q) (first_numbers p)) p) ready

      at_p : (e : Entry) × (slice_get log.entries p ≡ Some e) × (list_all (λ q. not (entry_is log (waits_for e) q) || A q) (first_numbers p) ≡ true)
      at_p = entry_holds log (λ later. list_all (λ q. not (entry_is log (waits_for later) q) || A q) (first_numbers p)) p split.1

      applied_if : (a b : Bool) → (not a || b) ≡ true → a ≡ true → b ≡ true
      applied_if true b e is = e
      applied_if false b e is = absurd (true≢false (sym is))

      waited : (q : ℕ) (e : Entry) → q < p → slice_get log.entries q ≡ Some e → waits_for at_p.0 e ≡ true → A q ≡ true
      waited q e less is waits = applied_if (entry_is log (waits_for at_p.0) q) (A q) (each_first (λ q. not (entry_is log (waits_for at_p.0) q) || A q) p at_p.2 q less) (ap (λ o. elim o [ None ↦ false | Some e ↦ waits_for at_p.0 e ]) is ∙ waits)

  pub is_ready_by : CanBeApplied log A p → is_ready log A p ≡ true
  is_ready_by can = ap (λ a. not a && entry_is log (λ later. list_all (λ q. not (entry_is log (waits_for later) q) || A q) (first_numbers p)) p) can.free
      ∙ ap (λ o. elim o [ None ↦ false | Some later ↦ list_all (λ q. not (entry_is log (waits_for later) q) || A q) (first_numbers p) ]) can.here
      ∙ all_first (λ q. not (entry_is log (waits_for can.entry) q) || A q) p each
    where
      each : (q : ℕ) → q < p → (not (entry_is log (waits_for can.entry) q) || A q) ≡ true
      each q less = by (entry_is log (waits_for can.entry) q) refl
        where
          by : (b : Bool) → entry_is log (waits_for can.entry) q ≡ b → (not b || A q) ≡ true
          by false is = refl
          by true is = let at_q = entry_holds log (waits_for can.entry) q is in can.earlier q at_q.0 less at_q.1 at_q.2

  -- whether a number is in the set with the position
  in_more : (q : ℕ) → with_position A p q ≡ true → (q ≡ p) ⊎ (A q ≡ true)
  in_more q e = elim (or_either (q == p) (A q) e) [ inl same ↦ inl (same_number q p same) | inr old ↦ inr old ]

  -- with a ready position a closed set is closed
  pub closed_more : IsClosed log A → is_ready log A p ≡ true → IsClosed log (with_position A p)
  closed_more closed ready = record {
    within = λ q a. elim (in_more q a) [ inl same ↦ (let low = slice_get_within log.entries p can.entry can.here in omega (arith, low, same)) | inr old ↦ closed.within q old ];
    earlier = λ x y later e a less is_later is_e waits. or_second (y == p) (A y) (elim (in_more x a) [
      | inl same ↦ can.earlier y e (omega (arith, less, same)) is_e (ap (λ z. waits_for z e) (one x later same is_later) ∙ waits)
      | inr old ↦ closed.earlier x y later e old less is_later is_e waits
    ]);
  }
    where
      can : CanBeApplied log A p
      can = ready_parts ready

      some_is : {a b : Entry} → Some a ≡ Some b → a ≡ b
      some_is e = cc e

      one : (x : ℕ) (later : Entry) → x ≡ p → slice_get log.entries x ≡ Some later → can.entry ≡ later
      one x later same is = some_is (sym can.here ∙ ap (slice_get log.entries) (sym same) ∙ is)

  -- and only with a ready one
  pub ready_if_closed : A p ≡ false → IsClosed log (with_position A p) → is_ready log A p ≡ true
  ready_if_closed free more = is_ready_by (record { free = free; entry = at_p.0; here = at_p.1; earlier = waited })
    where
      in_set : with_position A p p ≡ true
      in_set = or_first (p == p) (A p) (same_is p)

      at_p : (e : Entry) × (slice_get log.entries p ≡ Some e)
      at_p = entry_at log p (more.within p in_set)

      waited : (q : ℕ) (e : Entry) → q < p → slice_get log.entries q ≡ Some e → waits_for at_p.0 e ≡ true → A q ≡ true
      waited q e less is waits = old (in_more q (more.earlier p q at_p.0 e in_set less at_p.1 is waits))
        where
          old : (q ≡ p) ⊎ (A q ≡ true) → A q ≡ true
          old (inl same) = absurd (omega (arith, less, same))
          old (inr a) = a

  -- ---- the regions

  module _ (lawful : IsLawful log) (closed : IsClosed log A) (ready : is_ready log A p ≡ true) (r : ℕ) where
    free : A p ≡ false
    free = (ready_parts ready).free

    -- a region that the entry doesn't act on stays
    pub applied_other : acts_at log r p ≡ false → applied log (with_position A p) r ≡ applied log A r
    applied_other out = ap (λ o. elim o [ None ↦ Unborn | Some p ↦ left_at log r p ]) (last_same (λ q. with_position A p q && acts_at log r q) (λ q. A q && acts_at log r q) (length log.entries) (λ q low. same q))
      where
        same : (q : ℕ) → (with_position A p q && acts_at log r q) ≡ (A q && acts_at log r q)
        same q = by (q == p) refl
          where
            none : (a : Bool) → acts_at log r q ≡ false → acts_at log r q ≡ (a && acts_at log r q)
            none true e = refl
            none false e = e

            by : (b : Bool) → (q == p) ≡ b → ((b || A q) && acts_at log r q) ≡ (A q && acts_at log r q)
            by true is = none (A q) (ap (acts_at log r) (same_number q p is) ∙ out)
            by false is = refl

    module _ (acts : acts_at log r p ≡ true) where
      -- no later entry on the region is applied
      no_later : (x : ℕ) → p < x → (A x && acts_at log r x) ≡ false
      no_later x less = by (A x && acts_at log r x) refl
        where
          by : (b : Bool) → (A x && acts_at log r x) ≡ b → (A x && acts_at log r x) ≡ false
          by false e = e
          by true e = let parts = both_true (A x) (acts_at log r x) e in absurd (true≢false (sym (acts_closed log lawful A closed r x p parts.0 parts.1 less acts) ∙ free))

      -- of a region that the entry acts on, the set leaves what the log has there before the entry
      pub applied_before : applied log A r ≡ region_at log r p
      applied_before = by (last_acting log lawful r p)
        where
          earlier_in : (q : ℕ) → q < p → acts_at log r q ≡ true → A q ≡ true
          earlier_in q less a = old (in_more q (acts_closed log lawful (with_position A p) (closed_more closed ready) r p q (or_first (p == p) (A p) (same_is p)) acts less a))
            where
              old : (q ≡ p) ⊎ (A q ≡ true) → A q ≡ true
              old (inl same) = absurd (omega (arith, less, same))
              old (inr a) = a

          after : (x : ℕ) → p ≤ x → (A x && acts_at log r x) ≡ false
          after x le = elim (order x p) [
            | inl less ↦ absurd (omega (arith, less, le))
            | inr more ↦ elim more [ inl same ↦ ap (λ z. A z && acts_at log r z) same ∙ ap (λ a. a && acts_at log r p) free | inr less ↦ no_later x less ]
          ]

          split : (x : ℕ) → (x < p) ⊎ (p ≤ x)
          split x = grind arith

          off : (a b : Bool) → b ≡ false → (a && b) ≡ false
          off true b e = e
          off false b e = refl

          both_in : (a b : Bool) → a ≡ true → b ≡ true → (a && b) ≡ true
          both_in true b e f = f
          both_in false b e f = absurd (true≢false (sym e))

          by : (((q : ℕ) → q < p → acts_at log r q ≡ false) × (region_at log r p ≡ Unborn)) ⊎ ((q : ℕ) × IsGreatest (acts_at log r) p q × (region_at log r p ≡ left_at log r q)) → applied log A r ≡ region_at log r p
          by (inl none) = applied_none log A r (λ x low. elim (split x) [ inl less ↦ off (A x) (acts_at log r x) (none.0 x less) | inr le ↦ after x le ]) ∙ sym none.1
          by (inr some) = applied_is log A r some.0 (record {
            below = (let a = some.1.below in let b = acts_within log lawful r p acts in omega (arith, a, b));
            passes = both_in (A some.0) (acts_at log r some.0) (earlier_in some.0 some.1.below some.1.passes) some.1.passes;
            later = λ x more low. elim (split x) [ inl less ↦ off (A x) (acts_at log r x) (some.1.later x more less) | inr le ↦ after x le ];
          }) ∙ sym some.2

      -- and with the entry what the log has after it
      pub applied_after : applied log (with_position A p) r ≡ left_at log r p
      applied_after = applied_is log (with_position A p) r p (record {
        below = acts_within log lawful r p acts;
        passes = ap (λ b. b && acts_at log r p) (or_first (p == p) (A p) (same_is p)) ∙ acts;
        later = λ x more low. ap (λ b. (b || A x) && acts_at log r x) (apart x p more) ∙ no_later x more;
      })
        where
          apart : (x p : ℕ) → p < x → (x == p) ≡ false
          apart x p less = grind arith

-- the least position that isn't applied is ready
pub first_is_ready : (log : Log) (A : ℕ → Bool) (p : ℕ) → IsLeast (λ q. not (A q)) (length log.entries) p → is_ready log A p ≡ true
first_is_ready log A p least = is_ready_by log A p (record {
  free = not_true (A p) least.passes;
  entry = (entry_at log p least.below).0;
  here = (entry_at log p least.below).1;
  earlier = λ q e less is waits. applied_one (A q) (least.first q less);
})
  where
    applied_one : (b : Bool) → not b ≡ false → b ≡ true
    applied_one true e = refl
    applied_one false e = absurd (true≢false e)

pub first_out_is_ready : (log : Log) (A : ℕ → Bool) (p : ℕ) → IsFirstOut log A p → is_ready log A p ≡ true
first_out_is_ready log A p out = first_is_ready log A p (record { below = out.within; passes = ap not out.out; first = λ q less. ap not (out.first q less) })

-- ---- closed sets

-- all positions below a number
pub below_closed : (log : Log) (n : ℕ) → n ≤ length log.entries → IsClosed log (λ p. nat_lt p n)
below_closed log n le = record { within = λ p a. (let low = under p n a in omega (arith, low, le)); earlier = λ p q later e a less x y w. (let low = under p n a in over q n (omega (arith, less, low))) }
  where
    under : (p n : ℕ) → nat_lt p n ≡ true → p < n
    under p n e = grind arith

    over : (p n : ℕ) → p < n → nat_lt p n ≡ true
    over p n e = grind arith

-- two closed sets together, and what they have in common
pub union_closed : (log : Log) (A B : ℕ → Bool) → IsClosed log A → IsClosed log B → IsClosed log (λ p. A p || B p)
union_closed log A B a b = record {
  within = λ p e. elim (or_either (A p) (B p) e) [ inl x ↦ a.within p x | inr x ↦ b.within p x ];
  earlier = λ p q later e x less is_later is_e waits. elim (or_either (A p) (B p) x) [ inl y ↦ or_first (A q) (B q) (a.earlier p q later e y less is_later is_e waits) | inr y ↦ or_second (A q) (B q) (b.earlier p q later e y less is_later is_e waits) ];
}

pub common_closed : (log : Log) (A B : ℕ → Bool) → IsClosed log A → IsClosed log B → IsClosed log (λ p. A p && B p)
common_closed log A B a b = record {
  within = λ p e. a.within p (both_true (A p) (B p) e).0;
  earlier = λ p q later e x less is_later is_e waits. (let parts = both_true (A p) (B p) x in both_in (A q) (B q) (a.earlier p q later e parts.0 less is_later is_e waits) (b.earlier p q later e parts.1 less is_later is_e waits));
}
  where
    both_in : (a b : Bool) → a ≡ true → b ≡ true → (a && b) ≡ true
    both_in true b e f = f
    both_in false b e f = absurd (true≢false (sym e))
