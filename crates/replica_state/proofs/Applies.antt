-- What is in memory is in order once an entry is applied.
use Rattle.std.proofs.Common.{◌≡◌, ◌≢◌, ◌∙◌, ◌⊎◌, inl, inr, ℕ, ◌+◌, ◌<◌, ◌≤◌, max, Bool, true, false, List, [], ◌∷◌, ◌++◌, length, map, refl, sym, ap, subst, arith, length-append}
use Rattle.std.specs.List.{AllByRecursion}
use Rattle.std.proofs.lemmas.List.Elements.{recursion_from_All}
use Rattle.column_block.specs.Suiting.{Suits}
use Rattle.committed_log.specs.Applied.{IsClosed, is_ready, with_position}
use Rattle.committed_log.specs.Lawful.{IsLawful}
use Rattle.good_replica.specs.Effect.{added, clearing}
use Rattle.good_replica.proofs.Added.{added_suit}
use Rattle.region_table.specs.Table.{Table, IsTableAt, size_of}
use Rattle.region_table.proofs.Counts.{one_more}
use Rattle.region_table.proofs.Sets.{of_table, set_is}
use Rattle.segment_list.specs.Order.{IsSlot}
use Rattle.segment_list.specs.Slots.{Slotted, absorbed}
use Rattle.segment_list.proofs.Orders.{absorbed_stays}
use Rattle.replica_state.specs.Core.{Core, IsCore, AreSets, AreSlots, IsHighest, IsNumbered, SlotSuits, full, upto}
use Rattle.replica_state.specs.Applying.{HasApplied, KeepsSets, with_entry}
use Rattle.replica_state.proofs.Sets.{all_weaker, applied_now, free_of, has_it, highest_with, le_or_more, pairs_one_more, upto_all, upto_earlier}
use Rattle.replica_state.proofs.Slots.{all_map, numbered_absorbed, suits_absorbed}

module _ {G : Type 0} (s : Core G) (lawful : IsLawful s.log) (is : IsCore s) (p : ℕ) (ready : is_ready s.log (full s) p ≡ true) (t : Table) (at : IsTableAt s.log (with_position (full s) p) t) where
  new : Core G
  new = with_entry s p t

  free : full s p ≡ false
  free = free_of s.log (full s) p ready

  pub set_now : full (with_entry s p t) ≡ with_position (full s) p
  set_now = set_is s.log lawful (with_position (full s) p) t.regions (of_table s.log (with_position (full s) p) t at)

  -- one entry more is applied
  pub one_counted : size_of s.log (with_position (full s) p) ≡ s.count + 1
  one_counted =
      let inside : p < length s.log.entries = at.closed.within p (has_it (full s) p) in
      one_more (full s) p free (length s.log.entries) inside ∙ ap (λ (n : ℕ). n + 1) (sym is.sets.count)

  closed_at : (k : ℕ) → (k ≤ length s.listed) ⊎ (length s.listed < k) → IsClosed s.log (upto (with_entry s p t) k)
  closed_at k (inl le) = subst (IsClosed s.log) (sym (upto_earlier s (with_entry s p t) is.sets.applied p free refl set_now k le)) (is.sets.closed k)
  closed_at k (inr more) =
      let longer : length (s.listed ++ p ∷ []) ≡ length s.listed + 1 = length-append s.listed (p ∷ []) in
      let all : length (s.listed ++ p ∷ []) ≤ k = omega (arith, more, longer) in
      subst (IsClosed s.log) (sym (upto_all (with_entry s p t) (applied_now s (with_entry s p t) is.sets.applied p free refl set_now) k all ∙ set_now)) at.closed

  sets_now : AreSets (with_entry s p t)
  sets_now =
      let longer : length (s.listed ++ p ∷ []) ≡ length s.listed + 1 = length-append s.listed (p ∷ []) in
      record {
        table = subst (λ (A : ℕ → Bool). IsTableAt s.log A t) (sym set_now) at;
        closed = λ k. closed_at k (le_or_more k (length s.listed));
        differ = pairs_one_more (λ (a b : ℕ). a ≢ b) s.listed p is.sets.differ (all_weaker (λ (q : ℕ). full s q ≡ true) (λ (q : ℕ). q ≢ p) (λ q h e. absurd (cc (sym h ∙ ap (full s) e ∙ free))) s.listed is.sets.applied);
        applied = applied_now s (with_entry s p t) is.sets.applied p free refl set_now;
        committed = omega (arith, is.sets.committed, longer);
        count = sym one_counted ∙ ap (size_of s.log) (sym set_now);
        highest = subst (λ (A : ℕ → Bool). IsHighest A (max s.highest (p + 1))) (sym set_now) (highest_with (full s) s.highest p is.sets.highest);
      }

  suit : AllByRecursion (Suits s.log.schema) (added s.log p)
  suit = recursion_from_All (Suits s.log.schema) (added s.log p) (added_suit s.log lawful p)

  slots_now : AreSlots s.log.schema s.numbers.next s.committed (length (s.listed ++ p ∷ [])) (map (absorbed (length s.listed + 1) (clearing s.log p) (added s.log p)) s.slots)
  slots_now =
      let clears = clearing s.log p in
      let adds = added s.log p in
      let longer : length (s.listed ++ p ∷ []) ≡ length s.listed + 1 = length-append s.listed (p ∷ []) in
      let committed = is.sets.committed in
      record {
        order = subst (λ (n : ℕ). AllByRecursion (IsSlot s.committed n) (map (absorbed (length s.listed + 1) clears adds) s.slots)) (sym longer)
            (all_map (IsSlot s.committed (length s.listed)) (IsSlot s.committed (length s.listed + 1)) (absorbed (length s.listed + 1) clears adds)
            (λ slot ok. absorbed_stays s.committed (length s.listed) (length s.listed + 1) clears adds slot (omega arith) (omega (arith, committed)) ok) s.slots is.slots.order);
        numbered = all_map (IsNumbered s.numbers.next) (IsNumbered s.numbers.next) (absorbed (length s.listed + 1) clears adds) (numbered_absorbed (length s.listed + 1) s.numbers.next s.log.schema clears adds suit) s.slots is.slots.numbered;
        suit = all_map (SlotSuits s.log.schema) (SlotSuits s.log.schema) (absorbed (length s.listed + 1) clears adds) (suits_absorbed (length s.listed + 1) s.log.schema clears adds suit) s.slots is.slots.suit;
      }

  pub core_applied : IsCore (with_entry s p t)
  core_applied = record { sets = sets_now; slots = slots_now; numbers = is.numbers; settings = is.settings }

  pub has_applied : HasApplied s p (with_entry s p t)
  has_applied = record { ready = ready; set = set_now; table = at; same = refl }

  -- a state of these parts is that
  parts_are : (slots : List (Slotted G)) (listed : List ℕ) (count highest : ℕ) → slots ≡ map (absorbed (length s.listed + 1) (clearing s.log p) (added s.log p)) s.slots → listed ≡ s.listed ++ p ∷ [] → count ≡ size_of s.log (with_position (full s) p) → highest ≡ max s.highest (p + 1)
      → record { log = s.log; slots = slots; table = t; listed = listed; committed = s.committed; count = count; highest = highest; numbers = s.numbers; settings = s.settings } ≡ with_entry s p t
  parts_are slots listed count highest slots_is listed_is count_is highest_is =
      let counted : count ≡ s.count + 1 = count_is ∙ one_counted in
      λ i. record { log = s.log; slots = slots_is i; table = t; listed = listed_is i; committed = s.committed; count = counted i; highest = highest_is i; numbers = s.numbers; settings = s.settings }

  pub parts_in_order : (slots : List (Slotted G)) (listed : List ℕ) (count highest : ℕ) → slots ≡ map (absorbed (length s.listed + 1) (clearing s.log p) (added s.log p)) s.slots → listed ≡ s.listed ++ p ∷ [] → count ≡ size_of s.log (with_position (full s) p) → highest ≡ max s.highest (p + 1)
      → IsCore (record { log = s.log; slots = slots; table = t; listed = listed; committed = s.committed; count = count; highest = highest; numbers = s.numbers; settings = s.settings })
  parts_in_order slots listed count highest a b c d = subst IsCore (sym (parts_are slots listed count highest a b c d)) core_applied

  pub parts_applied : (slots : List (Slotted G)) (listed : List ℕ) (count highest : ℕ) → slots ≡ map (absorbed (length s.listed + 1) (clearing s.log p) (added s.log p)) s.slots → listed ≡ s.listed ++ p ∷ [] → count ≡ size_of s.log (with_position (full s) p) → highest ≡ max s.highest (p + 1)
      → HasApplied s p (record { log = s.log; slots = slots; table = t; listed = listed; committed = s.committed; count = count; highest = highest; numbers = s.numbers; settings = s.settings })
  parts_applied slots listed count highest a b c d = subst (HasApplied s p) (sym (parts_are slots listed count highest a b c d)) has_applied

pub keeps_sets : {G : Type 0} (old new : Core G) (p : ℕ) → IsCore old → HasApplied old p new → KeepsSets old new
keeps_sets old new p is has =
    let free : full old p ≡ false = free_of old.log (full old) p has.ready in
    let longer : new.listed ≡ old.listed ++ p ∷ [] = ap (λ (s : Core _). s.listed) has.same in
    record {
      earlier = λ k le. upto_earlier old new is.sets.applied p free longer has.set k le;
      all = upto_all new (applied_now old new is.sets.applied p free longer has.set) (length new.listed) (omega arith);
    }
