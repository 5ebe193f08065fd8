-- The indexes of the regions tell which entries a closed set has: so a region table need keep no more.
use Rattle.std.proofs.Common.{◌≡◌, ◌≢◌, ◌⊎◌, inl, inr, ◌∙◌, refl, sym, ap, ℕ, suc, ◌+◌, ◌<◌, ◌≤◌, Bool, true, false, true≢false, ◌&&◌, List, Some, None, arith, slice_get, length}
use Rattle.std.specs.Prelude.{◌==◌}
use Rattle.std.specs.List.{list_any}
use Rattle.log_codec.specs.declared.entry.Entry.{Entry}
use Rattle.log_codec.specs.declared.entry.Body.{Body}
use Rattle.log_codec.specs.declared.entry.Body.TheVariants as body
use Rattle.committed_log.specs.declared.region.Descriptor.{Descriptor}
use Rattle.committed_log.specs.Admission.{other_fault, is_prepared_for}
use Rattle.committed_log.specs.Applied.{acts_at, left_at, applied, IsClosed}
use Rattle.committed_log.specs.Lawful.{IsLawful}
use Rattle.committed_log.specs.Log.{Log, at}
use Rattle.committed_log.specs.Regions.{Region, Unborn, Live, Prepared, Gone, region, index_of, acts_on, also_acted, with_region, regions_step, regions_after, live_after, born_after, after_merge, merged, lower_part, upper_part, makes_region}
use Rattle.committed_log.proofs.Closed.{acts_closed, applied_cases, entry_at, order, same_is}
use Rattle.committed_log.proofs.Entries.{head_next, regions_next}
use Rattle.committed_log.proofs.Faults.{both_true, or_first, IsFine}
use Rattle.committed_log.proofs.Owners.{tested}
use Rattle.committed_log.proofs.Places.{index_grows}
use Rattle.committed_log.proofs.Positions.{IsGreatest}
use Rattle.committed_log.proofs.Ranks.{rank, rank_grows, region_here, region_there, of_unborn, index_is, no_entry}

-- ---- an entry gives its index to its region

module _ (regions : List (ℕ × Region)) (r i : ℕ) where
  put_index : (s : Region) → index_of s ≡ Some i → index_of (region (with_region r s regions) r) ≡ Some i
  put_index s is = ap index_of (region_here regions r s) ∙ is

  module _ (d : Descriptor) (live : region regions r ≡ Live d) where
    merge_index : (source : ℕ) (s : Region) → region regions source ≡ s → is_prepared_for r s ≡ true → index_of (region (after_merge r d i source s regions) r) ≡ Some i
    merge_index source Unborn is e = absurd (true≢false (sym e))
    merge_index source (Live c) is e = absurd (true≢false (sym e))
    merge_index source (Gone last) is e = absurd (true≢false (sym e))
    merge_index source (Prepared c target) is e = ap index_of (region_there (with_region r (Live (merged d c i)) regions) source (Gone c.index) r apart ∙ region_here regions r (Live (merged d c i)))
      where
        apart : r ≢ source
        apart same = cc (sym live ∙ ap (region regions) same ∙ is)

    live_index : (b : Body) → other_fault regions r b ≡ None → index_of (region (live_after r d i b regions) r) ≡ Some i
    live_index (body.Split at child) fine = ap index_of (region_here (with_region child (Live (upper_part d at)) regions) r (Live (lower_part d at i)))
    live_index (body.Commit source) fine = merge_index source (region regions source) refl (tested regions source (is_prepared_for r) fine)
    live_index (body.Prepare target) fine = put_index _ refl
    live_index body.Remove fine = put_index _ refl
    live_index (body.Write ops) fine = put_index _ refl
    live_index body.Empty fine = put_index _ refl
    live_index (body.Open conf_ver version low high) fine = put_index _ refl
    live_index (body.Install conf_ver version low high ops) fine = put_index _ refl

  born_index : (b : Body) → makes_region b ≡ true → index_of (region (born_after r i b regions) r) ≡ Some i
  born_index (body.Open conf_ver version low high) e = put_index _ refl
  born_index (body.Install conf_ver version low high ops) e = put_index _ refl
  born_index (body.Split at child) e = absurd (true≢false (sym e))
  born_index (body.Prepare target) e = absurd (true≢false (sym e))
  born_index (body.Commit source) e = absurd (true≢false (sym e))
  born_index body.Remove e = absurd (true≢false (sym e))
  born_index (body.Write ops) e = absurd (true≢false (sym e))
  born_index body.Empty e = absurd (true≢false (sym e))

-- which the region hadn't reached before
pub own_index : (p : ℕ) (regions : List (ℕ × Region)) (e : Entry) → IsFine p regions e → (rank (region regions e.region) < suc (e.index + e.index)) × (index_of (region (regions_after regions e) e.region) ≡ Some e.index)
own_index p regions e fine = by (region regions e.region) refl
  where
    by : (s : Region) → region regions e.region ≡ s → (rank (region regions e.region) < suc (e.index + e.index)) × (index_of (region (regions_step s e regions) e.region) ≡ Some e.index)
    by Unborn is = (let none : rank (region regions e.region) ≡ 0 = ap rank is in omega (arith, none), born_index regions e.region e.index e.body (of_unborn p regions e fine is))
    by (Live d) is = (let before : rank (region regions e.region) ≡ suc (d.index + d.index) = ap rank is in let next = index_is p regions e fine d is in omega (arith, before, next), live_index regions e.region e.index d is e.body fine.other)
    by (Prepared d target) is = absurd (no_entry p regions e fine (Prepared d target) is refl refl)
    by (Gone last) is = absurd (no_entry p regions e fine (Gone last) is refl refl)

-- ---- two closed sets with the same indexes

both : (a b : Bool) → a ≡ true → b ≡ true → (a && b) ≡ true
both true b e f = f
both false b e f = absurd (true≢false (sym e))

pub low_index : (s : Region) (i j : ℕ) → rank s < suc (j + j) → index_of s ≡ Some i → i < j
low_index Unborn i j less e = cc e
low_index (Live d) i j less e = let is : d.index ≡ i = cc e in omega (arith, less, is)
low_index (Prepared d target) i j less e = let is : d.index ≡ i = cc e in omega (arith, less, is)
low_index (Gone index) i j less e = let is : index ≡ i = cc e in omega (arith, less, is)

module _ (log : Log) (lawful : IsLawful log) (A B : ℕ → Bool) (a_closed : IsClosed log A) (b_closed : IsClosed log B) (same : (r : ℕ) → index_of (applied log A r) ≡ index_of (applied log B r)) where
  abbrev Cases : (ℕ → Bool) → ℕ → Type 0
  Cases S r = (((q : ℕ) → q < length log.entries → (S q && acts_at log r q) ≡ false) × (applied log S r ≡ Unborn)) ⊎ ((q : ℕ) × IsGreatest (λ p. S p && acts_at log r p) (length log.entries) q × (applied log S r ≡ left_at log r q))

  -- each of the one is in the other
  inside : (p : ℕ) → A p ≡ true → B p ≡ true
  inside p in_a = by_test (B p) refl
    where
      at_p : (e : Entry) × (slice_get log.entries p ≡ Some e)
      at_p = entry_at log p (a_closed.within p in_a)

      e : Entry
      e = at_p.0

      r : ℕ
      r = at_p.0.region

      acts : acts_at log r p ≡ true
      acts = ap (λ o. elim o [ None ↦ false | Some e ↦ acts_on at_p.0.region e ]) at_p.1 ∙ or_first (at_p.0.region == at_p.0.region) (list_any (λ acted. acted == at_p.0.region) (also_acted at_p.0.body)) (same_is at_p.0.region)

      own : (rank (region (at log p).regions at_p.0.region) < suc (at_p.0.index + at_p.0.index)) × (index_of (region (regions_after (at log p).regions at_p.0) at_p.0.region) ≡ Some at_p.0.index)
      own = own_index p (at log p).regions at_p.0 (head_next log p at_p.0 at_p.1 lawful)

      left_index : index_of (left_at log at_p.0.region p) ≡ Some at_p.0.index
      left_index = ap (λ regions. index_of (region regions at_p.0.region)) (regions_next log p at_p.0 at_p.1) ∙ own.1

      -- the one set has the region at this index or a later one
      high : Cases A at_p.0.region → (j : ℕ) × (index_of (applied log A at_p.0.region) ≡ Some j) × (at_p.0.index ≤ j)
      high (inl none) = absurd (true≢false (sym (both (A p) (acts_at log at_p.0.region p) in_a acts) ∙ none.0 p (a_closed.within p in_a)))
      high (inr some) = (let j = index_grows (left_at log at_p.0.region p) (left_at log at_p.0.region some.0) (rank_grows log lawful at_p.0.region (suc p) (suc some.0) (up (order some.0 p))) at_p.0.index left_index in (j.0, ap index_of some.2 ∙ j.1, j.2))
        where
          up : (some.0 < p) ⊎ ((some.0 ≡ p) ⊎ (p < some.0)) → suc p ≤ suc some.0
          up (inl less) = absurd (true≢false (sym (both (A p) (acts_at log at_p.0.region p) in_a acts) ∙ some.1.later p less (a_closed.within p in_a)))
          up (inr (inl is)) = omega (arith, is)
          up (inr (inr less)) = omega (arith, less)

      -- without the entry the other set has it at a lower one
      no_lower : B p ≡ false → (j : ℕ) → index_of (applied log B at_p.0.region) ≡ Some j → at_p.0.index ≤ j → Cases B at_p.0.region → ⊥
      no_lower out j index le (inl none) = cc (sym index ∙ ap index_of none.1)
      no_lower out j index le (inr some) = where_q (order some.0 p)
        where
          parts : (B some.0 ≡ true) × (acts_at log at_p.0.region some.0 ≡ true)
          parts = both_true (B some.0) (acts_at log at_p.0.region some.0) some.1.passes

          where_q : (some.0 < p) ⊎ ((some.0 ≡ p) ⊎ (p < some.0)) → ⊥
          where_q (inl less) =
              let grows = rank_grows log lawful at_p.0.region (suc some.0) p less in
              let own_rank = own.0 in
              let lower = low_index (left_at log at_p.0.region some.0) j at_p.0.index (omega (arith, grows, own_rank)) (ap index_of (sym some.2) ∙ index) in
              absurd (omega (arith, lower, le))
          where_q (inr (inl is)) = true≢false (sym parts.0 ∙ ap B is ∙ out)
          where_q (inr (inr less)) = true≢false (sym (acts_closed log lawful B b_closed at_p.0.region some.0 p parts.0 parts.1 less acts) ∙ out)

      by_test : (b : Bool) → B p ≡ b → B p ≡ true
      by_test true is = is
      by_test false is = let j = high (applied_cases log A at_p.0.region) in absurd (no_lower is j.0 (sym (same at_p.0.region) ∙ j.1) j.2 (applied_cases log B at_p.0.region))

pub determined : (log : Log) → IsLawful log → (A B : ℕ → Bool) → IsClosed log A → IsClosed log B → ((r : ℕ) → index_of (applied log A r) ≡ index_of (applied log B r)) → (p : ℕ) → A p ≡ B p
determined log lawful A B a_closed b_closed same p = by (A p) (B p) (inside log lawful A B a_closed b_closed same p) (inside log lawful B A b_closed a_closed (λ r. sym (same r)) p)
  where
    by : (a b : Bool) → (a ≡ true → b ≡ true) → (b ≡ true → a ≡ true) → a ≡ b
    by true b f g = sym (f refl)
    by false true f g = g refl
    by false false f g = refl
