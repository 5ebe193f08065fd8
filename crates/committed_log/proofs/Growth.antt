-- As more is applied regions only go on; and the indexes of the regions tell a closed set.
use Rattle.std.proofs.Common.{◌≡◌, ◌⊎◌, inl, inr, ◌∙◌, refl, sym, ap, subst, ℕ, zero, suc, ◌<◌, ◌≤◌, Bool, true, false, true≢false, not, ◌&&◌, List, [], ◌∷◌, Option, Some, None, nat_lt, arith, length}
use Rattle.std.specs.Prelude.{◌==◌}
use Rattle.std.specs.List.{list_any}
use Rattle.log_codec.specs.declared.entry.Entry.{Entry}
use Rattle.log_codec.specs.declared.entry.Body.{Body}
use Rattle.log_codec.specs.declared.entry.Body.TheVariants as body
use Rattle.committed_log.specs.Admission.{other_fault, is_unborn, is_prepared_for}
use Rattle.committed_log.specs.Applied.{acts_at, left_at, next, applied, IsClosed, unsettled, is_settled}
use Rattle.committed_log.specs.Lawful.{IsLawful}
use Rattle.committed_log.specs.Laws.{region_at, IsInside, HasGrown}
use Rattle.committed_log.specs.Log.{Log, at}
use Rattle.committed_log.specs.Regions.{Region, Unborn, Gone, region, index_of, acts_on, also_acted}
use Rattle.committed_log.proofs.Acting.{left_alone}
use Rattle.committed_log.proofs.Closed.{acts_closed, applied_cases, acting_entry, order}
use Rattle.committed_log.proofs.Entries.{head_next}
use Rattle.committed_log.proofs.Faults.{both_true, or_either, IsFine}
use Rattle.committed_log.proofs.Owners.{tested}
use Rattle.committed_log.proofs.Places.{index_grows}
use Rattle.committed_log.proofs.Positions.{IsLeast, IsGreatest, Finds, find_least, find_none}
use Rattle.committed_log.proofs.Ranks.{rank, rank_grows, same_number, no_entry}

both : (a b : Bool) → a ≡ true → b ≡ true → (a && b) ≡ true
both true b e f = f
both false b e f = absurd (true≢false (sym e))

-- ---- a region that is gone

-- no entry acts on it
pub gone_unacted : (p : ℕ) (regions : List (ℕ × Region)) (e : Entry) → IsFine p regions e → (q last : ℕ) → region regions q ≡ Gone last → acts_on q e ≡ true → ⊥
gone_unacted p regions e fine q last gone acts = by (or_either (e.region == q) (list_any (λ acted. acted == q) (also_acted e.body)) acts)
  where
    single : (a : ℕ) → list_any (λ acted. acted == q) (a ∷ []) ≡ true → a ≡ q
    single a s = elim (or_either (a == q) false s) [ inl x ↦ same_number a q x | inr x ↦ absurd (true≢false (sym x)) ]

    is_gone : (a : ℕ) → list_any (λ acted. acted == q) (a ∷ []) ≡ true → region regions a ≡ Gone last
    is_gone a s = ap (region regions) (single a s) ∙ gone

    also : (b : Body) → other_fault regions e.region b ≡ None → list_any (λ acted. acted == q) (also_acted b) ≡ true → ⊥
    also (body.Split middle child) fault s = true≢false (sym (tested regions child is_unborn fault) ∙ ap is_unborn (is_gone child s))
    also (body.Commit source) fault s = true≢false (sym (tested regions source (is_prepared_for e.region) fault) ∙ ap (is_prepared_for e.region) (is_gone source s))
    also (body.Prepare target) fault s = true≢false (sym s)
    also body.Remove fault s = true≢false (sym s)
    also (body.Write ops) fault s = true≢false (sym s)
    also body.Empty fault s = true≢false (sym s)
    also (body.Open conf_ver version low high) fault s = true≢false (sym s)
    also (body.Install conf_ver version low high ops) fault s = true≢false (sym s)

    by : ((e.region == q) ≡ true) ⊎ (list_any (λ acted. acted == q) (also_acted e.body) ≡ true) → ⊥
    by (inl own) = no_entry p regions e fine (Gone last) (ap (region regions) (same_number e.region q own) ∙ gone) refl refl
    by (inr other) = also e.body fine.other other

module _ (log : Log) (lawful : IsLawful log) (r : ℕ) where
  unacted : (p last : ℕ) → region_at log r p ≡ Gone last → acts_at log r p ≡ false
  unacted p last gone = by (acts_at log r p) refl
    where
      by : (b : Bool) → acts_at log r p ≡ b → acts_at log r p ≡ false
      by false is = is
      by true is = let e = acting_entry log r p is in absurd (gone_unacted p (at log p).regions e.0 (head_next log p e.0 e.1 lawful) r last gone e.2)

  -- it stays gone, with its index
  pub gone_stays : (p q last : ℕ) → p ≤ q → region_at log r p ≡ Gone last → region_at log r q ≡ Gone last
  gone_stays p zero last le gone = let same : p ≡ 0 = omega (arith, le) in ap (region_at log r) (sym same) ∙ gone
  gone_stays p (suc q) last le gone = elim (le_or p q le) [
    | inl low ↦ (let before = gone_stays p q last low gone in left_alone log r q (unacted q last before) ∙ before)
    | inr same ↦ ap (region_at log r) (sym same) ∙ gone
  ]
    where
      le_or : (p q : ℕ) → p ≤ suc q → (p ≤ q) ⊎ (p ≡ suc q)
      le_or p q h = grind arith

  -- ---- a set inside of another
  module _ (B A : ℕ → Bool) (inside : (p : ℕ) → B p ≡ true → A p ≡ true) where
    abbrev Cases : (ℕ → Bool) → Type 0
    Cases S = (((q : ℕ) → q < length log.entries → (S q && acts_at log r q) ≡ false) × (applied log S r ≡ Unborn)) ⊎ ((q : ℕ) × IsGreatest (λ p. S p && acts_at log r p) (length log.entries) q × (applied log S r ≡ left_at log r q))

    -- the greater set's last entry on the region isn't earlier
    pub later_or_same : (q : ℕ) → IsGreatest (λ p. B p && acts_at log r p) (length log.entries) q → (x : ℕ) × IsGreatest (λ p. A p && acts_at log r p) (length log.entries) x × (applied log A r ≡ left_at log r x) × (q ≤ x)
    later_or_same q greatest = by (applied_cases log A r)
      where
        parts : (B q ≡ true) × (acts_at log r q ≡ true)
        parts = both_true (B q) (acts_at log r q) greatest.passes

        passes : (A q && acts_at log r q) ≡ true
        passes = both (A q) (acts_at log r q) (inside q parts.0) parts.1

        by : Cases A → (x : ℕ) × IsGreatest (λ p. A p && acts_at log r p) (length log.entries) x × (applied log A r ≡ left_at log r x) × (q ≤ x)
        by (inl none) = absurd (true≢false (sym passes ∙ none.0 q greatest.below))
        by (inr some) = (some.0, some.1, some.2, under (order some.0 q))
          where
            under : (some.0 < q) ⊎ ((some.0 ≡ q) ⊎ (q < some.0)) → q ≤ some.0
            under (inl less) = absurd (true≢false (sym passes ∙ some.1.later q less greatest.below))
            under (inr (inl same)) = omega (arith, same)
            under (inr (inr less)) = omega (arith, less)

    pub rank_inside : rank (applied log B r) ≤ rank (applied log A r)
    rank_inside = by (applied_cases log B r)
      where
        by : Cases B → rank (applied log B r) ≤ rank (applied log A r)
        by (inl none) = let zero_is : rank (applied log B r) ≡ 0 = ap rank none.1 in omega (arith, zero_is)
        by (inr some) =
            let x = later_or_same some.0 some.1 in
            let grows = rank_grows log lawful r (suc some.0) (suc x.0) (omega (arith, x.3)) in
            let before = ap rank some.2 in
            let after = ap rank x.2 in
            omega (arith, grows, before, after)

    -- a region that is born stays born, and its index doesn't fall
    pub index_inside : (i : ℕ) → index_of (applied log B r) ≡ Some i → (j : ℕ) × (index_of (applied log A r) ≡ Some j) × (i ≤ j)
    index_inside i index = index_grows (applied log B r) (applied log A r) rank_inside i index

    -- one that is gone stays gone, with its index
    pub gone_inside : (last : ℕ) → applied log B r ≡ Gone last → applied log A r ≡ Gone last
    gone_inside last gone = by (applied_cases log B r)
      where
        by : Cases B → applied log A r ≡ Gone last
        by (inl none) = cc (sym none.1 ∙ gone)
        by (inr some) = let x = later_or_same some.0 some.1 in x.2 ∙ gone_stays (suc some.0) (suc x.0) last (omega (arith, x.3)) (sym some.2 ∙ gone)

-- ---- the next entry

module _ (log : Log) (r : ℕ) (B A : ℕ → Bool) (inside : (p : ℕ) → B p ≡ true → A p ≡ true) where
  abbrev waiting : (ℕ → Bool) → ℕ → Bool
  waiting S p = not (S p) && acts_at log r p

  fewer : (x : ℕ) → waiting B x ≡ false → waiting A x ≡ false
  fewer x = by (B x) (A x) (acts_at log r x) (inside x)
    where
      by : (b a c : Bool) → (b ≡ true → a ≡ true) → (not b && c) ≡ false → (not a && c) ≡ false
      by b true c f e = refl
      by true false c f e = absurd (true≢false (sym (f refl)))
      by false false c f e = e

  -- it doesn't come earlier
  pub next_inside : (q : ℕ) → next log A r ≡ Some q → (p : ℕ) × (next log B r ≡ Some p) × (p ≤ q)
  next_inside q is = by (next log B r) refl (find_least (waiting B) (length log.entries)) (subst (Finds (waiting A) (length log.entries)) is (find_least (waiting A) (length log.entries)))
    where
      by : (o : Option ℕ) → next log B r ≡ o → Finds (waiting B) (length log.entries) (next log B r) → IsLeast (waiting A) (length log.entries) q → (p : ℕ) × (next log B r ≡ Some p) × (p ≤ q)
      by None is_b finds least = absurd (true≢false (sym least.passes ∙ fewer q (subst (Finds (waiting B) (length log.entries)) is_b finds q least.below)))
      by (Some p) is_b finds least = (p, is_b, under (order q p) (subst (Finds (waiting B) (length log.entries)) is_b finds))
        where
          under : (q < p) ⊎ ((q ≡ p) ⊎ (p < q)) → IsLeast (waiting B) (length log.entries) p → p ≤ q
          under (inl less) first = absurd (true≢false (sym least.passes ∙ fewer q (first.first q less)))
          under (inr (inl same)) first = omega (arith, same)
          under (inr (inr less)) first = omega (arith, less)

  -- a region that is settled for a mark stays settled
  pub settled_inside : (mark : ℕ) → is_settled log B mark r ≡ true → is_settled log A mark r ≡ true
  settled_inside mark settled = by (next log A r) refl
    where
      above : (p q : ℕ) → p ≤ q → not (nat_lt p mark) ≡ true → not (nat_lt q mark) ≡ true
      above p q le e = at_mark (nat_lt q mark) refl
        where
          lower : nat_lt q mark ≡ true → nat_lt p mark ≡ true
          lower h = grind (arith, le)

          at_mark : (b : Bool) → nat_lt q mark ≡ b → not b ≡ true
          at_mark false h = refl
          at_mark true h = absurd (true≢false (sym e ∙ ap not (lower h)))

      by : (o : Option ℕ) → next log A r ≡ o → not (unsettled o mark) ≡ true
      by None is = refl
      by (Some q) is = let p = next_inside q is in above p.0 q p.2 (sym (ap (λ o. not (unsettled o mark)) p.1) ∙ settled)

-- a region that is gone has no next entry
pub next_of_gone : (log : Log) → IsLawful log → (A : ℕ → Bool) → IsClosed log A → (r last : ℕ) → applied log A r ≡ Gone last → next log A r ≡ None
next_of_gone log lawful A closed r last gone = by (applied_cases log A r)
  where
    none : (q : ℕ) → IsGreatest (λ p. A p && acts_at log r p) (length log.entries) q → left_at log r q ≡ Gone last → (x : ℕ) → x < length log.entries → (not (A x) && acts_at log r x) ≡ false
    none q greatest is x low = of (acts_at log r x) refl (order x q)
      where
        parts : (A q ≡ true) × (acts_at log r q ≡ true)
        parts = both_true (A q) (acts_at log r q) greatest.passes

        off : (a : Bool) → (a && false) ≡ false
        off true = refl
        off false = refl

        in_set : A x ≡ true → (not (A x) && acts_at log r x) ≡ false
        in_set a = ap (λ b. not b && acts_at log r x) a

        of : (b : Bool) → acts_at log r x ≡ b → (x < q) ⊎ ((x ≡ q) ⊎ (q < x)) → (not (A x) && acts_at log r x) ≡ false
        of false e where_x = ap (λ b. not (A x) && b) e ∙ off (not (A x))
        of true e (inl less) = in_set (acts_closed log lawful A closed r q x parts.0 parts.1 less e)
        of true e (inr (inl same)) = in_set (ap A same ∙ parts.0)
        of true e (inr (inr less)) = absurd (true≢false (sym e ∙ unacted log lawful r x last (gone_stays log lawful r (suc q) x last less is)))

    by : (((q : ℕ) → q < length log.entries → (A q && acts_at log r q) ≡ false) × (applied log A r ≡ Unborn)) ⊎ ((q : ℕ) × IsGreatest (λ p. A p && acts_at log r p) (length log.entries) q × (applied log A r ≡ left_at log r q)) → next log A r ≡ None
    by (inl empty) = cc (sym empty.1 ∙ gone)
    by (inr some) = find_none (λ x. not (A x) && acts_at log r x) (length log.entries) (none some.0 some.1 (sym some.2 ∙ gone))

-- all of it
pub has_grown : (log : Log) → IsLawful log → (B A : ℕ → Bool) → IsInside B A → (r : ℕ) → HasGrown log B A r
has_grown log lawful B A inside r = record {
  index = index_inside log lawful r B A inside;
  gone = gone_inside log lawful r B A inside;
  next = next_inside log r B A inside;
  settled = settled_inside log r B A inside;
}
