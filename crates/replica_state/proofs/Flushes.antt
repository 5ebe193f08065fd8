-- What is in memory stays in order where slots are flushed.
use Rattle.std.proofs.Common.{◌≡◌, ◌≢◌, ◌∙◌, ℕ, suc, ◌+◌, ◌<◌, ◌≤◌, Bool, true, false, cond, List, [], ◌∷◌, length, set, Option, Some, None, refl, sym, ap, subst, arith, nat_lt}
use Rattle.std.specs.Prelude.{slice_get}
use Rattle.std.specs.List.{AllByRecursion, AllPairs, list_any}
use Rattle.std.proofs.lemmas.Bool.Decides.{nat_tests}
use Rattle.column_block.specs.Suiting.{Suits}
use Rattle.column_block.specs.declared.column.Column.{Column}
use Rattle.column_file.specs.declared.file.ColumnFile.{ColumnFile}
use Rattle.column_file.specs.declared.file.ColumnFile.TheVariants.{Mem, Tiny, DeleteRange}
use Rattle.delta_layer.specs.Files.{FilesHave, files_of, file_of, is_mem}
use Rattle.good_replica.specs.Trail.{DeltaFile}
use Rattle.segment_flush.specs.Flushing.{after_one, after_slots, flushed_slots, has_more, is_slot, one_flushed}
use Rattle.segment_flush.proofs.Flushed.{one_flush}
use Rattle.segment_flush.proofs.Planned.{at_place}
use Rattle.segment_list.specs.Flushes.{IsFlushOf, after_files, flushed_files, flushed_slot}
use Rattle.segment_list.specs.declared.flush.Flush.{Flush}
use Rattle.segment_list.specs.Order.{IsSlot}
use Rattle.segment_list.specs.Slots.{Slotted}
use Rattle.segment_list.proofs.Flushing.{in_order}
use Rattle.replica_state.specs.Changes.{AllNamed, checkpointed, with_flushes}
use Rattle.replica_state.specs.Core.{Core, IsCore, IsFileBelow, IsNumberBelow, IsNumbered, SlotSuits}

-- ---- numbers

pub no_fewer : (n : ℕ) (fs : List ColumnFile) → n ≤ after_files n fs
no_fewer n [] = omega arith
no_fewer n (Mem block ∷ fs) = let rest = no_fewer (n + 1) fs in omega (arith, rest)
no_fewer n (Tiny file block ∷ fs) = no_fewer n fs
no_fewer n (DeleteRange range ∷ fs) = no_fewer n fs

more_with_mem : (n : ℕ) (fs : List ColumnFile) → list_any is_mem fs ≡ true → n < after_files n fs
more_with_mem n [] any = absurd (cc any)
more_with_mem n (Mem block ∷ fs) any = let rest = no_fewer (n + 1) fs in omega (arith, rest)
more_with_mem n (Tiny file block ∷ fs) any = more_with_mem n fs any
more_with_mem n (DeleteRange range ∷ fs) any = more_with_mem n fs any

file_below : (low high : ℕ) → low ≤ high → (f : ColumnFile) → IsFileBelow low f → IsFileBelow high f
file_below low high le (Mem block) below = tt
file_below low high le (Tiny file block) below = omega (arith, le, below)
file_below low high le (DeleteRange range) below = tt

number_below : (low high : ℕ) → low ≤ high → (o : Option ℕ) → IsNumberBelow low o → IsNumberBelow high o
number_below low high le None below = tt
number_below low high le (Some n) below = omega (arith, le, below)

pub files_below : (low n high : ℕ) → low ≤ n → (fs : List ColumnFile) → after_files n fs ≤ high → AllByRecursion (IsFileBelow low) fs → AllByRecursion (IsFileBelow high) (flushed_files n fs)
files_below low n high le [] within all = tt
files_below low n high le (Mem block ∷ fs) within all = let more = no_fewer (n + 1) fs in (omega (arith, within, more), files_below low (n + 1) high (omega (arith, le)) fs within all.1)
files_below low n high le (Tiny file block ∷ fs) within all = let more = no_fewer n fs in (omega (arith, within, more, le, all.0), files_below low n high le fs within all.1)
files_below low n high le (DeleteRange range ∷ fs) within all = (tt, files_below low n high le fs within all.1)

-- ---- what the files say

pub same_say : (n : ℕ) (fs : List ColumnFile) → files_of (flushed_files n fs) ≡ files_of fs
same_say n [] = refl
same_say n (Mem block ∷ fs) = ap (λ (r : List DeltaFile). file_of (Mem block) ∷ r) (same_say (n + 1) fs)
same_say n (Tiny file block ∷ fs) = ap (λ (r : List DeltaFile). file_of (Tiny file block) ∷ r) (same_say n fs)
same_say n (DeleteRange range ∷ fs) = ap (λ (r : List DeltaFile). file_of (DeleteRange range) ∷ r) (same_say n fs)

-- ---- slots

some_length : (n : ℕ) → nat_lt 0 (suc n) ≡ false → ⊥
some_length n e = grind (arith, nat_tests)

all_below : (low high : ℕ) → low ≤ high → (fs : List ColumnFile) → AllByRecursion (IsFileBelow low) fs → AllByRecursion (IsFileBelow high) fs
all_below low high le [] all = tt
all_below low high le (f ∷ fs) all = (file_below low high le f all.0, all_below low high le fs all.1)

module _ {G : Type 0} where
  pub numbered_up : (low high : ℕ) → low ≤ high → (s : Slotted G) → IsNumbered low s → IsNumbered high s
  numbered_up low high le s is = record {
    id = (let less = is.id in omega (arith, le, less));
    epoch = (let less = is.epoch in omega (arith, le, less));
    files = all_below low high le s.files is.files;
    stable = number_below low high le s.stable_number is.stable;
  }

  pub all_numbered_up : (low high : ℕ) → low ≤ high → (slots : List (Slotted G)) → AllByRecursion (IsNumbered low) slots → AllByRecursion (IsNumbered high) slots
  all_numbered_up low high le [] all = tt
  all_numbered_up low high le (s ∷ ss) all = (numbered_up low high le s all.0, all_numbered_up low high le ss all.1)

  flushed_numbered : (low n high : ℕ) → low ≤ n → (s : Slotted G) → after_files n s.files ≤ high → IsNumbered low s → IsNumbered high (flushed_slot n s)
  flushed_numbered low n high le s within is = record {
    id = (let less = is.id in let more = no_fewer n s.files in omega (arith, le, less, more, within));
    epoch = epoch (list_any is_mem s.files) refl;
    files = files_below low n high le s.files within is.files;
    stable = (let more = no_fewer n s.files in number_below low high (omega (arith, le, more, within)) s.stable_number is.stable);
  }
    where
      epoch : (b : Bool) → list_any is_mem s.files ≡ b → cond b (s.epoch + 1) s.epoch < high
      epoch true any = (let less = is.epoch in let more = more_with_mem n s.files any in omega (arith, le, less, more, within))
      epoch false any = (let less = is.epoch in let more = no_fewer n s.files in omega (arith, le, less, more, within))

  flushed_suits : (columns : List Column) (n : ℕ) (s : Slotted G) → SlotSuits columns s → SlotSuits columns (flushed_slot n s)
  flushed_suits columns n s is = record { stable = is.stable; files = subst (FilesHave (Suits columns)) (sym (same_say n s.files)) is.files }

  module _ (p : Slotted G → Bool) where
    pub no_fewer_slots : (n : ℕ) (slots : List (Slotted G)) → n ≤ after_slots p n slots
    no_fewer_slots n [] = omega arith
    no_fewer_slots n (s ∷ ss) = by (p s) (λ k. no_fewer_slots k ss)
      where
        by : (b : Bool) → ((k : ℕ) → k ≤ after_slots p k ss) → n ≤ after_slots p (after_one b n s) ss
        by true rest = (let one = no_fewer n s.files in let more = rest (after_files n s.files) in omega (arith, one, more))
        by false rest = rest n

    pub slots_numbered : (low n high : ℕ) → low ≤ n → (slots : List (Slotted G)) → after_slots p n slots ≤ high → AllByRecursion (IsNumbered low) slots → AllByRecursion (IsNumbered high) (flushed_slots p n slots)
    slots_numbered low n high le [] within all = tt
    slots_numbered low n high le (s ∷ ss) within all = by (p s) within (λ k up fits. slots_numbered low k high up ss fits all.1)
      where
        by : (b : Bool) → after_slots p (after_one b n s) ss ≤ high → ((k : ℕ) → low ≤ k → after_slots p k ss ≤ high → AllByRecursion (IsNumbered high) (flushed_slots p k ss)) → AllByRecursion (IsNumbered high) (one_flushed b n s ∷ flushed_slots p (after_one b n s) ss)
        by true within rest =
            let one = no_fewer n s.files in
            let more = no_fewer_slots (after_files n s.files) ss in
            (flushed_numbered low n high le s (omega (arith, more, within)) all.0, rest (after_files n s.files) (omega (arith, le, one)) within)
        by false within rest =
            let more = no_fewer_slots n ss in
            (numbered_up low high (omega (arith, le, more, within)) s all.0, rest n le within)

    slots_suit : (columns : List Column) (n : ℕ) (slots : List (Slotted G)) → AllByRecursion (SlotSuits columns) slots → AllByRecursion (SlotSuits columns) (flushed_slots p n slots)
    slots_suit columns n [] all = tt
    slots_suit columns n (s ∷ ss) all = by (p s) (λ k. slots_suit columns k ss all.1)
      where
        by : (b : Bool) → ((k : ℕ) → AllByRecursion (SlotSuits columns) (flushed_slots p k ss)) → AllByRecursion (SlotSuits columns) (one_flushed b n s ∷ flushed_slots p (after_one b n s) ss)
        by true rest = (flushed_suits columns n s all.0, rest (after_files n s.files))
        by false rest = (all.0, rest n)

    slots_order : (committed last n : ℕ) (slots : List (Slotted G)) → AllByRecursion (IsSlot committed last) slots → AllByRecursion (IsSlot committed last) (flushed_slots p n slots)
    slots_order committed last n [] all = tt
    slots_order committed last n (s ∷ ss) all = by (p s) (λ k. slots_order committed last k ss all.1)
      where
        by : (b : Bool) → ((k : ℕ) → AllByRecursion (IsSlot committed last) (flushed_slots p k ss)) → AllByRecursion (IsSlot committed last) (one_flushed b n s ∷ flushed_slots p (after_one b n s) ss)
        by true rest = (in_order committed last committed last n s all.0, rest (after_files n s.files))
        by false rest = (all.0, rest n)

    pub core_flushed : (s : Core G) (high : ℕ) → IsCore s → s.numbers.high ≤ high → high ≤ length s.log.entries → IsCore (with_flushes p high s)
    core_flushed s high is no_lower within = record {
      sets = record { table = is.sets.table; closed = is.sets.closed; differ = is.sets.differ; applied = is.sets.applied; committed = is.sets.committed; count = is.sets.count; highest = is.sets.highest };
      slots = record {
        order = slots_order s.committed (length s.listed) s.numbers.next s.slots is.slots.order;
        numbered = slots_numbered s.numbers.next s.numbers.next (after_slots p s.numbers.next s.slots) (omega arith) s.slots (omega arith) is.slots.numbered;
        suit = slots_suit s.log.schema s.numbers.next s.slots is.slots.suit;
      };
      numbers = record {
        mark = (let le = is.numbers.mark in omega (arith, le, no_lower));
        high = within;
        kept = is.numbers.kept;
        generation = (let less = is.numbers.generation in let more = no_fewer_slots s.numbers.next s.slots in omega (arith, less, more));
      };
      settings = is.settings;
    }

  -- ---- a checkpoint

  no_tags : (s : Slotted G) → has_more s ≡ false → s.tags ≡ []
  no_tags s none = by s.tags none
    where
      by : (ts : List ℕ) → nat_lt 0 (length ts) ≡ false → ts ≡ []
      by [] e = refl
      by (t ∷ ts) e = absurd (some_length (length ts) e)

  pub all_named : (n : ℕ) (slots : List (Slotted G)) → AllNamed (flushed_slots has_more n slots)
  all_named n [] = tt
  all_named n (s ∷ ss) = by (has_more s) refl (λ k. all_named k ss)
    where
      by : (b : Bool) → has_more s ≡ b → ((k : ℕ) → AllNamed (flushed_slots has_more k ss)) → AllNamed (one_flushed b n s ∷ flushed_slots has_more (after_one b n s) ss)
      by true e rest = (refl, rest (after_files n s.files))
      by false e rest = (no_tags s e, rest n)

  named_order : (committed last other : ℕ) (slots : List (Slotted G)) → AllNamed slots → AllByRecursion (IsSlot committed last) slots → AllByRecursion (IsSlot other other) slots
  named_order committed last other [] named all = tt
  named_order committed last other (s ∷ ss) named all = (
    record {
      tagged = all.0.tagged;
      tags = subst (AllByRecursion (λ (t : ℕ). (other < t) × (t ≤ other))) (sym named.0) tt;
      named = all.0.named;
      behind = all.0.behind;
      rows = all.0.rows;
    },
    named_order committed last other ss named.1 all.1,
  )

  pub core_checkpointed : (s : Core G) (next high generation : ℕ) → IsCore s → after_slots has_more s.numbers.next s.slots < next → s.numbers.high ≤ high → high ≤ length s.log.entries → s.numbers.generation ≤ generation → generation < next → IsCore (checkpointed next high generation s)
  core_checkpointed s next high generation is above no_lower within no_younger numbered =
      let flushed = core_flushed has_more s high is no_lower within in
      record {
        sets = record { table = is.sets.table; closed = is.sets.closed; differ = is.sets.differ; applied = is.sets.applied; committed = omega arith; count = is.sets.count; highest = is.sets.highest };
        slots = record {
          order = named_order s.committed (length s.listed) (length s.listed) (flushed_slots has_more s.numbers.next s.slots) (all_named s.numbers.next s.slots) flushed.slots.order;
          numbered = all_numbered_up (after_slots has_more s.numbers.next s.slots) next (omega (arith, above)) (flushed_slots has_more s.numbers.next s.slots) flushed.slots.numbered;
          suit = flushed.slots.suit;
        };
        numbers = record {
          mark = flushed.numbers.mark;
          high = within;
          kept = (let le = is.numbers.kept in omega (arith, le, no_younger));
          generation = numbered;
        };
        settings = is.settings;
      }

-- ---- what a call leaves, by its parts

module _ {G : Type 0} where
  abbrev pub with_parts : Core G → List (Slotted G) → ℕ → ℕ → Core G
  with_parts s slots next high = record s { slots = slots; numbers = record s.numbers { next = next; high = high } }

  pub put_is : (s : Core G) → AllPairs (λ a b. a.id ≢ b.id) s.slots → (place : ℕ) (flush : Flush) (high : ℕ) (slots : List (Slotted G))
      → ((t : Slotted G) → slice_get s.slots place ≡ Some t → IsFlushOf t.files flush) → flush.from ≡ s.numbers.next
      → ((t : Slotted G) → slice_get s.slots place ≡ Some t → slots ≡ set s.slots place (flushed_slot flush.from t))
      → (t : Slotted G) → slice_get s.slots place ≡ Some t → with_parts s slots flush.next high ≡ with_flushes (is_slot t.id) high s
  put_is s differ place flush high slots planned from put t here =
      let one = one_flush s.numbers.next place t s.slots differ here in
      let is : slots ≡ flushed_slots (is_slot t.id) s.numbers.next s.slots = put t here ∙ ap (λ (n : ℕ). set s.slots place (flushed_slot n t)) from ∙ sym one.slots in
      let next : flush.next ≡ after_slots (is_slot t.id) s.numbers.next s.slots = (planned t here).next ∙ ap (λ (n : ℕ). after_files n t.files) from ∙ sym one.next in
      λ i. with_parts s (is i) (next i) high

  pub put_core : (s : Core G) → IsCore s → AllPairs (λ a b. a.id ≢ b.id) s.slots → (place : ℕ) (flush : Flush) (high : ℕ) (slots : List (Slotted G))
      → place < length s.slots
      → ((t : Slotted G) → slice_get s.slots place ≡ Some t → IsFlushOf t.files flush) → flush.from ≡ s.numbers.next
      → s.numbers.high ≤ high → high ≤ length s.log.entries
      → ((t : Slotted G) → slice_get s.slots place ≡ Some t → slots ≡ set s.slots place (flushed_slot flush.from t))
      → IsCore (with_parts s slots flush.next high)
  put_core s is differ place flush high slots lt planned from no_lower within put =
      let it = at_place s.slots place lt in
      subst IsCore (sym (put_is s differ place flush high slots planned from put it.0 it.1)) (core_flushed (is_slot it.0.id) s high is no_lower within)

  abbrev pub with_more_parts : Core G → List (Slotted G) → (committed next high generation : ℕ) → Core G
  with_more_parts s slots committed next high generation = record s { slots = slots; committed = committed; numbers = record s.numbers { next = next; high = high; generation = generation } }

  pub checkpoint_core : (s : Core G) → IsCore s → (slots : List (Slotted G)) (committed next high generation : ℕ)
      → slots ≡ flushed_slots has_more s.numbers.next s.slots → committed ≡ length s.listed
      → after_slots has_more s.numbers.next s.slots < next → s.numbers.high ≤ high → high ≤ length s.log.entries → s.numbers.generation ≤ generation → generation < next
      → IsCore (with_more_parts s slots committed next high generation)
  checkpoint_core s is slots committed next high generation are all above no_lower within no_younger numbered =
      subst (λ (c : Core G). IsCore c) (λ i. with_more_parts s (sym are i) (sym all i) next high generation) (core_checkpointed s next high generation is above no_lower within no_younger numbered)
