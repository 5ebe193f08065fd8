-- The place of a region's index: the position of the last entry that acted on the region, while it is there.
use Rattle.std.proofs.Common.{◌≡◌, ◌⊎◌, inl, inr, ◌∙◌, refl, sym, ap, ℕ, zero, suc, ◌+◌, ◌<◌, ◌≤◌, Bool, true, false, true≢false, Some, None, arith, length}
use Rattle.std.specs.Prelude.{◌==◌}
use Rattle.flash_types.specs.declared.range.HandleRange.{HandleRange}
use Rattle.committed_log.specs.Applied.{acts_at, left_at, has_index, place, state}
use Rattle.committed_log.specs.Lawful.{IsLawful}
use Rattle.committed_log.specs.Laws.{region_at, IsLastActing}
use Rattle.committed_log.specs.Log.{Log}
use Rattle.committed_log.specs.Regions.{Region, Unborn, Live, Prepared, Gone, range_of, index_of}
use Rattle.committed_log.proofs.Acting.{left_alone}
use Rattle.committed_log.proofs.Positions.{IsGreatest, find_is}
use Rattle.committed_log.proofs.Ranks.{rank, acts_rise, rank_grows, acts_within, same_number}

same : (n : ℕ) → (n == n) ≡ true
same n = grind arith

-- ---- ranks and indexes

-- a state with an index has at least its rank
pub rank_of_index : (s : Region) (i : ℕ) → has_index i s ≡ true → suc (i + i) ≤ rank s
rank_of_index Unborn i e = absurd (true≢false (sym e))
rank_of_index (Live d) i e = let is = same_number d.index i e in omega (arith, is)
rank_of_index (Prepared d target) i e = let is = same_number d.index i e in omega (arith, is)
rank_of_index (Gone index) i e = let is = same_number index i e in omega (arith, is)

-- one that is there has just it
pub rank_there : (s : Region) (i : ℕ) (range : HandleRange) → range_of s ≡ Some range → index_of s ≡ Some i → rank s ≡ suc (i + i)
rank_there Unborn i range there e = cc e
rank_there (Live d) i range there e = let is : d.index ≡ i = cc e in omega (arith, is)
rank_there (Prepared d target) i range there e = let is : d.index ≡ i = cc e in omega (arith, is)
rank_there (Gone index) i range there e = cc there

index_has : (s : Region) (i : ℕ) → index_of s ≡ Some i → has_index i s ≡ true
index_has s i e = ap (λ o. elim o [ None ↦ false | Some index ↦ index == i ]) e ∙ same i

-- a state of a higher rank has no lower index
pub index_grows : (s t : Region) → rank s ≤ rank t → (i : ℕ) → index_of s ≡ Some i → (j : ℕ) × (index_of t ≡ Some j) × (i ≤ j)
index_grows s t le i e = by t (omega (arith, le, rank_of_index s i (index_has s i e)))
  where
    by : (t : Region) → suc (i + i) ≤ rank t → (j : ℕ) × (index_of t ≡ Some j) × (i ≤ j)
    by Unborn low = absurd (omega (arith, low))
    by (Live d) low = (d.index, refl, omega (arith, low))
    by (Prepared d target) low = (d.index, refl, omega (arith, low))
    by (Gone index) low = (index, refl, omega (arith, low))

-- ---- along a lawful log

module _ (log : Log) (lawful : IsLawful log) (r : ℕ) where
  -- no entry below p acts on the region, which is unborn, or the last one left it as it is
  pub last_acting : (p : ℕ) → (((q : ℕ) → q < p → acts_at log r q ≡ false) × (region_at log r p ≡ Unborn)) ⊎ ((q : ℕ) × IsGreatest (acts_at log r) p q × (region_at log r p ≡ left_at log r q))
  last_acting zero = inl ((λ q less. absurd (omega (arith, less))), refl)
  last_acting (suc p) = by (acts_at log r p) refl (last_acting p)
    where
      lt_or : (q n : ℕ) → q < suc n → (q < n) ⊎ (q ≡ n)
      lt_or q n h = grind arith

      by : (b : Bool) → acts_at log r p ≡ b → (((q : ℕ) → q < p → acts_at log r q ≡ false) × (region_at log r p ≡ Unborn)) ⊎ ((q : ℕ) × IsGreatest (acts_at log r) p q × (region_at log r p ≡ left_at log r q)) →
          (((q : ℕ) → q < suc p → acts_at log r q ≡ false) × (region_at log r (suc p) ≡ Unborn)) ⊎ ((q : ℕ) × IsGreatest (acts_at log r) (suc p) q × (region_at log r (suc p) ≡ left_at log r q))
      by true is before = inr (p, record { below = omega arith; passes = is; later = λ q more less. absurd (omega (arith, more, less)) }, refl)
      by false is (inl none) = inl ((λ q less. elim (lt_or q p less) [ inl low ↦ none.0 q low | inr e ↦ ap (acts_at log r) e ∙ is ]), left_alone log r p is ∙ none.1)
      by false is (inr some) = inr (some.0, record { below = omega (arith, some.1.below); passes = some.1.passes; later = λ q more less. elim (lt_or q p less) [ inl low ↦ some.1.later q more low | inr e ↦ ap (acts_at log r) e ∙ is ] }, left_alone log r p is ∙ some.2)

  -- what an entry leaves of a region that is there has its index from that entry
  pub place_left : (q i : ℕ) (range : HandleRange) → acts_at log r q ≡ true → range_of (left_at log r q) ≡ Some range → index_of (left_at log r q) ≡ Some i → place log r i ≡ Some q
  place_left q i range acts there index = find_is (λ x. has_index i (left_at log r x)) (length log.entries) q (record {
    below = acts_within log lawful r q acts;
    passes = index_has (left_at log r q) i index;
    first = λ x less. before x less (has_index i (left_at log r x)) refl;
  })
    where
      before : (x : ℕ) → x < q → (b : Bool) → has_index i (left_at log r x) ≡ b → has_index i (left_at log r x) ≡ false
      before x less false is = is
      before x less true is =
          let high = rank_of_index (left_at log r x) i is in
          let grows = rank_grows log lawful r (suc x) q less in
          let rises = acts_rise log lawful r q acts in
          let end = rank_there (left_at log r q) i range there index in
          absurd (omega (arith, high, grows, rises, end))

  -- the index of a region that is there was given by the last entry that acted on it
  pub place_is_last : (p i : ℕ) (range : HandleRange) → range_of (region_at log r p) ≡ Some range → index_of (region_at log r p) ≡ Some i → (q : ℕ) × (place log r i ≡ Some q) × IsGreatest (acts_at log r) p q × (left_at log r q ≡ region_at log r p)
  place_is_last p i range there index = by (last_acting p)
    where
      by : (((q : ℕ) → q < p → acts_at log r q ≡ false) × (region_at log r p ≡ Unborn)) ⊎ ((q : ℕ) × IsGreatest (acts_at log r) p q × (region_at log r p ≡ left_at log r q)) → (q : ℕ) × (place log r i ≡ Some q) × IsGreatest (acts_at log r) p q × (left_at log r q ≡ region_at log r p)
      by (inl none) = cc (sym (ap range_of none.1) ∙ there)
      by (inr some) = (some.0, place_left some.0 i range some.1.passes (ap range_of (sym some.2) ∙ there) (ap index_of (sym some.2) ∙ index), some.1, sym some.2)

  -- so its state at its index is its state
  pub state_is : (p i : ℕ) (range : HandleRange) → range_of (region_at log r p) ≡ Some range → index_of (region_at log r p) ≡ Some i → state log r i ≡ region_at log r p
  state_is p i range there index = let q = place_is_last p i range there index in ap (λ o. elim o [ None ↦ Unborn | Some p ↦ left_at log r p ]) q.1 ∙ q.3

  -- the index never falls
  pub index_never_falls : (p q : ℕ) → p ≤ q → (i : ℕ) → index_of (region_at log r p) ≡ Some i → (j : ℕ) × (index_of (region_at log r q) ≡ Some j) × (i ≤ j)
  index_never_falls p q le i index = index_grows (region_at log r p) (region_at log r q) (rank_grows log lawful r p q le) i index

-- all of it
pub last_acting_is : (log : Log) → IsLawful log → (r p i : ℕ) (range : HandleRange) → range_of (region_at log r p) ≡ Some range → index_of (region_at log r p) ≡ Some i → IsLastActing log r p i
last_acting_is log lawful r p i range there index =
    let q = place_is_last log lawful r p i range there index in
    record { place = q.0; is = q.1; below = q.2.below; acts = q.2.passes; later = q.2.later; left = q.3; state = state_is log lawful r p i range there index }
