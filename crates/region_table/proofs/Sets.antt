-- A table tells which entries are applied.
use Rattle.std.proofs.Common.{◌≡◌, ◌⊎◌, inl, inr, ◌∙◌, refl, sym, ap, ℕ, suc, ◌+◌, ◌<◌, ◌≤◌, Bool, true, false, true≢false, ◌&&◌, Option, Some, None, nat_le, arith, slice_get, length, List}
use Rattle.std.specs.Prelude.{◌==◌}
use Rattle.std.specs.List.{list_any}
use Rattle.std.proofs.lemmas.Option.{slice_get_within}
use Rattle.log_codec.specs.declared.entry.Entry.{Entry}
use Rattle.committed_log.specs.Applied.{acts_at, left_at, applied, IsClosed}
use Rattle.committed_log.specs.Lawful.{IsLawful}
use Rattle.committed_log.specs.Log.{Log, at}
use Rattle.committed_log.specs.Regions.{region, index_of, acts_on, also_acted, regions_after}
use Rattle.committed_log.specs.declared.region.Region.{Region}
use Rattle.committed_log.specs.declared.region.Region.TheVariants.{Unborn, Live, Prepared, Gone}
use Rattle.committed_log.proofs.Closed.{acts_closed, applied_cases, entry_at, order, same_is}
use Rattle.committed_log.proofs.Determined.{own_index, low_index}
use Rattle.committed_log.proofs.Entries.{head_next, regions_next}
use Rattle.committed_log.proofs.Faults.{both_true, or_first}
use Rattle.committed_log.proofs.Places.{index_grows}
use Rattle.committed_log.proofs.Positions.{IsGreatest}
use Rattle.committed_log.proofs.Ranks.{rank, rank_grows}
use Rattle.region_table.specs.Counting.{has_reached, applied_in}
use Rattle.region_table.specs.Table.{Kept, Table, IsTableAt, AreRegionsAt, state_in, state_kept, kept_at}

-- the state that is kept of a region is the region's
pub state_of_kept : (log : Log) (r : ℕ) (s : Region) → state_kept (kept_at log r s) ≡ s
state_of_kept log r Unborn = refl
state_of_kept log r (Live d) = refl
state_of_kept log r (Prepared d target) = refl
state_of_kept log r (Gone index) = refl

pub of_table : (log : Log) (A : ℕ → Bool) (t : Table) → IsTableAt log A t → AreRegionsAt log A t.regions
of_table log A t is = record { closed = is.closed; regions = is.regions }

pub state_is : (log : Log) (A : ℕ → Bool) (regions : List (ℕ × Kept)) → AreRegionsAt log A regions → (r : ℕ) → state_in regions r ≡ applied log A r
state_is log A regions is r = ap state_kept (is.regions r) ∙ state_of_kept log r (applied log A r)

pub states_are : (log : Log) (A : ℕ → Bool) (regions : List (ℕ × Kept)) → AreRegionsAt log A regions → state_in regions ≡ applied log A
states_are log A regions is = λ i r. state_is log A regions is r i

both : (a b : Bool) → a ≡ true → b ≡ true → (a && b) ≡ true
both true b e f = f
both false b e f = absurd (true≢false (sym e))

reached : (last index : ℕ) → index ≤ last → nat_le index last ≡ true
reached last index le = grind arith

not_reached : (last index : ℕ) → last < index → nat_le index last ≡ false
not_reached last index less = grind arith

module _ (log : Log) (lawful : IsLawful log) (A : ℕ → Bool) (closed : IsClosed log A) where
  module _ (p : ℕ) (e : Entry) (here : slice_get log.entries p ≡ Some e) where
    acts : acts_at log e.region p ≡ true
    acts = ap (λ o. elim o [ None ↦ false | Some f ↦ acts_on e.region f ]) here ∙ or_first (e.region == e.region) (list_any (λ acted. acted == e.region) (also_acted e.body)) (same_is e.region)

    within : p < length log.entries
    within = slice_get_within log.entries p e here

    own : (rank (region (at log p).regions e.region) < suc (e.index + e.index)) × (index_of (region (regions_after (at log p).regions e) e.region) ≡ Some e.index)
    own = own_index p (at log p).regions e (head_next log p e here lawful)

    pub left_index : index_of (left_at log e.region p) ≡ Some e.index
    left_index = ap (λ regions. index_of (region regions e.region)) (regions_next log p e here) ∙ own.1

    abbrev Cases : Type 0
    Cases = (((q : ℕ) → q < length log.entries → (A q && acts_at log e.region q) ≡ false) × (applied log A e.region ≡ Unborn)) ⊎ ((q : ℕ) × IsGreatest (λ p. A p && acts_at log e.region p) (length log.entries) q × (applied log A e.region ≡ left_at log e.region q))

    high : A p ≡ true → Cases → has_reached (index_of (applied log A e.region)) e.index ≡ true
    high in_set (inl none) = absurd (true≢false (sym (both (A p) (acts_at log e.region p) in_set acts) ∙ none.0 p within))
    high in_set (inr some) =
        let j = index_grows (left_at log e.region p) (left_at log e.region some.0) (rank_grows log lawful e.region (suc p) (suc some.0) (up (order some.0 p))) e.index left_index in
        ap (λ o. has_reached o e.index) (ap index_of some.2 ∙ j.1) ∙ reached j.0 e.index j.2
      where
        up : (some.0 < p) ⊎ ((some.0 ≡ p) ⊎ (p < some.0)) → suc p ≤ suc some.0
        up (inl less) = absurd (true≢false (sym (both (A p) (acts_at log e.region p) in_set acts) ∙ some.1.later p less within))
        up (inr (inl is)) = omega (arith, is)
        up (inr (inr less)) = omega (arith, less)

    low : A p ≡ false → Cases → has_reached (index_of (applied log A e.region)) e.index ≡ false
    low out (inl none) = ap (λ s. has_reached (index_of s) e.index) none.1
    low out (inr some) = ap (λ s. has_reached (index_of s) e.index) some.2 ∙ by (index_of (left_at log e.region some.0)) refl
      where
        parts : (A some.0 ≡ true) × (acts_at log e.region some.0 ≡ true)
        parts = both_true (A some.0) (acts_at log e.region some.0) some.1.passes

        before : (some.0 < p) ⊎ ((some.0 ≡ p) ⊎ (p < some.0)) → some.0 < p
        before (inl less) = less
        before (inr (inl is)) = absurd (true≢false (sym parts.0 ∙ ap A is ∙ out))
        before (inr (inr less)) = absurd (true≢false (sym (acts_closed log lawful A closed e.region some.0 p parts.0 parts.1 less acts) ∙ out))

        by : (o : Option ℕ) → index_of (left_at log e.region some.0) ≡ o → has_reached o e.index ≡ false
        by None is = refl
        by (Some k) is =
            let grows = rank_grows log lawful e.region (suc some.0) p (before (order some.0 p)) in
            let own_rank = own.0 in
            not_reached k e.index (low_index (left_at log e.region some.0) k e.index (omega (arith, grows, own_rank)) is)

    pub told_here : A p ≡ has_reached (index_of (applied log A e.region)) e.index
    told_here = by (A p) refl
      where
        by : (b : Bool) → A p ≡ b → A p ≡ has_reached (index_of (applied log A e.region)) e.index
        by true is = is ∙ sym (high is (applied_cases log A e.region))
        by false is = is ∙ sym (low is (applied_cases log A e.region))

  pub none_past : (p : ℕ) → slice_get log.entries p ≡ None → A p ≡ false
  none_past p past = by (A p) refl
    where
      by : (b : Bool) → A p ≡ b → A p ≡ false
      by false is = is
      by true is = let e = entry_at log p (closed.within p is) in cc (sym past ∙ e.1)

-- the set of a table, by the indexes of its regions
pub tells : (log : Log) → IsLawful log → (A : ℕ → Bool) (regions : List (ℕ × Kept)) → AreRegionsAt log A regions → (p : ℕ) → A p ≡ applied_in log regions p
tells log lawful A regions is p = by (slice_get log.entries p) refl
  where
    by : (o : Option Entry) → slice_get log.entries p ≡ o → A p ≡ elim o [ None ↦ false | Some e ↦ has_reached (index_of (state_in regions e.region)) e.index ]
    by None past = none_past log lawful A is.closed p past
    by (Some e) here = told_here log lawful A is.closed p e here ∙ ap (λ s. has_reached (index_of s) e.index) (sym (state_is log A regions is e.region))

pub set_is : (log : Log) → IsLawful log → (A : ℕ → Bool) (regions : List (ℕ × Kept)) → AreRegionsAt log A regions → applied_in log regions ≡ A
set_is log lawful A regions is = λ i p. sym (tells log lawful A regions is p) i
