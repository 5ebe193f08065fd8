-- What a flush keeps.
use Rattle.std.proofs.Common.{◌≡◌, ◌∙◌, ℕ, ◌+◌, ◌-◌, ◌≤◌, Bool, true, false, cond, List, [], ◌∷◌, ◌++◌, length, drop, map, replicate, Some, refl, sym, ap, subst, arith, length-append, append-nil, append_assoc}
use Rattle.std.specs.Prelude.{◌==◌}
use Rattle.std.specs.List.{AllByRecursion, list_any}
use Rattle.std.proofs.lemmas.List.{drop_all, length-replicate}
use Rattle.column_file.specs.declared.file.ColumnFile.{ColumnFile}
use Rattle.delta_layer.specs.Files.{files_of, file_of, is_mem}
use Rattle.committed_log.specs.Lawful.{IsLawful}
use Rattle.committed_log.specs.Log.{Log}
use Rattle.good_replica.specs.Good.{AreGood}
use Rattle.prefix_laws.specs.Prefixes.{ArePrefixesGood, AreSteps}
use Rattle.prefix_laws.specs.Tagged.{TaggedSegment, content, file_in}
use Rattle.prefix_laws.proofs.Replica.{changed, changed_once, mark_up}
use Rattle.prefix_laws.proofs.Steps.{are_steps}
use Rattle.segment_laws.specs.Runs.{IsFlush}
use Rattle.segment_laws.proofs.Flushed.{flushed_good, flushed_once}
use Rattle.segment_list.specs.Flushes.{after_files, flushed_files, flushed_slot}
use Rattle.segment_list.specs.Laws.{told_by}
use Rattle.segment_list.specs.Order.{IsSlot}
use Rattle.segment_list.specs.Slots.{Slotted, IsTagged, tagged, tags_of}
use Rattle.segment_list.proofs.Flushing.{in_order, none_same, repacked_or_same}
use Rattle.segment_snapshot.specs.Rights.{IsReadable, stable_of}
use Rattle.replica_state.specs.Core.{Core, IsCore, full, opened, upto}
use Rattle.replica_state.specs.Changes.{with_flushes}
use Rattle.replica_state.proofs.Flushes.{no_fewer_slots}
use Rattle.replica_state.proofs.Sets.{upto_all}
use Rattle.segment_flush.specs.Flushing.{after_one, flushed_slots, one_flushed}
use Rattle.good_state.specs.Good.{IsGoodState, told, segments_at}
use Rattle.good_state.specs.Follows.{KeepsSlot, SlotFollows, StateFollows, slot_of}
use Rattle.good_state.proofs.Applying.{named_by, upper}
use Rattle.good_state.proofs.Following.{core_itself, grown_itself}

-- ---- what tagged files say

said : (tags : List ℕ) (files : List ColumnFile) → length files ≡ length tags → map file_in (tagged tags files) ≡ files_of files
said [] [] e = refl
said [] (f ∷ fs) e = absurd (omega (arith, e))
said (t ∷ ts) [] e = absurd (omega (arith, e))
said (t ∷ ts) (f ∷ fs) e = ap (λ gs. file_of f ∷ gs) (said ts fs (omega (arith, e)))

module _ {G : Type 0} where
  pub all_said : (s : Slotted G) → IsTagged s → map file_in (tagged (tags_of s) s.files) ≡ files_of s.files
  all_said s e =
      let many : length (replicate s.named 0 ++ s.tags) ≡ s.named + length s.tags = length-append (replicate s.named 0) s.tags ∙ ap (λ n. n + length s.tags) (length-replicate s.named 0) in
      said (tags_of s) s.files (e ∙ sym many)

  flush_of : (committed last first : ℕ) (s : Slotted G) → IsSlot committed last s → IsTagged (flushed_slot first s) → IsFlush committed last (tagged (tags_of s) s.files) (tagged (tags_of (flushed_slot first s)) (flushed_slot first s).files)
  flush_of committed last first s is tags = record {
    layer = s.files;
    renewed = flushed_files first s.files;
    known = named_by last s.named s.tags s.files (upper committed last s.tags is.tags);
    by = named_by committed (length s.files) [] (flushed_files first s.files) tt;
    old_is = all_said s is.tagged;
    new_is = all_said (flushed_slot first s) tags;
    came = repacked_or_same first s.files;
  }

-- ---- each slot that is flushed, behind those before it

module _ {G : Type 0} (bytes : G → List ℕ) (p : Slotted G → Bool) (log : Log) (safe committed last : ℕ) (ordered : committed ≤ last) where
  abbrev tell : Slotted G → TaggedSegment
  tell = told_by (stable_of bytes)

  tagged_then : (n : ℕ) (s : Slotted G) → IsSlot committed last s → IsTagged (flushed_slot n s)
  tagged_then n s is = (in_order committed last committed last n s is).tagged

  module _ (A : ℕ → Bool) (mark : ℕ) where
    abbrev IsGoodOf : List TaggedSegment → Type 0
    IsGoodOf ts = AreGood log A mark safe (map (content last) ts)

    some_good : (left : List TaggedSegment) (n : ℕ) (slots : List (Slotted G)) → AllByRecursion (IsSlot committed last) slots → IsGoodOf (left ++ map tell slots) → IsGoodOf (left ++ map tell (flushed_slots p n slots))
    some_good left n [] all good = good
    some_good left n (s ∷ ss) all good = by (p s) (λ before k. some_good before k ss all.1)
      where
        by : (b : Bool) → ((before : List TaggedSegment) (k : ℕ) → IsGoodOf (before ++ map tell ss) → IsGoodOf (before ++ map tell (flushed_slots p k ss))) → IsGoodOf (left ++ map tell (one_flushed b n s ∷ flushed_slots p (after_one b n s) ss))
        by true rest =
            subst IsGoodOf (append_assoc left (tell (flushed_slot n s) ∷ []) (map tell (flushed_slots p (after_files n s.files) ss)))
            (rest (left ++ tell (flushed_slot n s) ∷ []) (after_files n s.files)
            (subst IsGoodOf (sym (append_assoc left (tell (flushed_slot n s) ∷ []) (map tell ss)))
            (changed_once log A mark safe last left (tell s) (tell (flushed_slot n s)) (map tell ss) refl
            (flushed_once log A mark safe last committed ordered s.range (stable_of bytes s.stable) (tagged (tags_of s) s.files) (tagged (tags_of (flushed_slot n s)) (flushed_slot n s).files) (flush_of committed last n s all.0 (tagged_then n s all.0)))
            good)))
        by false rest =
            subst IsGoodOf (append_assoc left (tell s ∷ []) (map tell (flushed_slots p n ss)))
            (rest (left ++ tell s ∷ []) n (subst IsGoodOf (sym (append_assoc left (tell s ∷ []) (map tell ss))) good))

  module _ (lawful : IsLawful log) (sets : ℕ → ℕ → Bool) (high : ℕ) (steps : AreSteps sets high last) where
    abbrev AreGoodOf : List TaggedSegment → Type 0
    AreGoodOf ts = ArePrefixesGood log sets high safe committed last ts

    some_counts : (left : List TaggedSegment) (n : ℕ) (slots : List (Slotted G)) → AllByRecursion (IsSlot committed last) slots → AreGoodOf (left ++ map tell slots) → AreGoodOf (left ++ map tell (flushed_slots p n slots))
    some_counts left n [] all good = good
    some_counts left n (s ∷ ss) all good = by (p s) (λ before k. some_counts before k ss all.1)
      where
        by : (b : Bool) → ((before : List TaggedSegment) (k : ℕ) → AreGoodOf (before ++ map tell ss) → AreGoodOf (before ++ map tell (flushed_slots p k ss))) → AreGoodOf (left ++ map tell (one_flushed b n s ∷ flushed_slots p (after_one b n s) ss))
        by true rest =
            subst AreGoodOf (append_assoc left (tell (flushed_slot n s) ∷ []) (map tell (flushed_slots p (after_files n s.files) ss)))
            (rest (left ++ tell (flushed_slot n s) ∷ []) (after_files n s.files)
            (subst AreGoodOf (sym (append_assoc left (tell (flushed_slot n s) ∷ []) (map tell ss)))
            (changed log sets high safe committed last left (tell s) (tell (flushed_slot n s)) (map tell ss) refl
            (flushed_good log lawful sets high safe committed last steps ordered s.range (stable_of bytes s.stable) (tagged (tags_of s) s.files) (tagged (tags_of (flushed_slot n s)) (flushed_slot n s).files) (flush_of committed last n s all.0 (tagged_then n s all.0)))
            good)))
        by false rest =
            subst AreGoodOf (append_assoc left (tell s ∷ []) (map tell (flushed_slots p n ss)))
            (rest (left ++ tell s ∷ []) n (subst AreGoodOf (sym (append_assoc left (tell s ∷ []) (map tell ss))) good))

  some_readable : (n : ℕ) (slots : List (Slotted G)) → AllByRecursion (IsReadable bytes) slots → AllByRecursion (IsReadable bytes) (flushed_slots p n slots)
  some_readable n [] all = tt
  some_readable n (s ∷ ss) all = by (p s) (λ k. some_readable k ss all.1)
    where
      by : (b : Bool) → ((k : ℕ) → AllByRecursion (IsReadable bytes) (flushed_slots p k ss)) → AllByRecursion (IsReadable bytes) (one_flushed b n s ∷ flushed_slots p (after_one b n s) ss)
      by true rest = (all.0, rest (after_files n s.files))
      by false rest = (all.0, rest n)

module _ {G : Type 0} (bytes : G → List ℕ) (s : Core G) (is : IsCore s) (lawful : IsLawful s.log) (p : Slotted G → Bool) (high : ℕ) (reached : s.highest ≤ high) (no_lower : s.numbers.high ≤ high) (within : high ≤ length s.log.entries) where
  abbrev last : ℕ
  last = length s.listed

  steps : AreSteps (upto s) high last
  steps = are_steps (opened s) s.listed high last (λ q h. let less = is.sets.highest.below q (subst (λ (A : ℕ → Bool). A q ≡ true) (upto_all s is.sets.applied last (omega arith)) h) in omega (arith, less, reached))

  pub flush_good : IsGoodState bytes s → IsGoodState bytes (with_flushes p high s)
  flush_good good = record {
    readable = some_readable bytes p s.log s.numbers.safe_point s.committed last is.sets.committed s.numbers.next s.slots good.readable;
    memory = some_good bytes p s.log s.numbers.safe_point s.committed last is.sets.committed (full s) s.numbers.mark [] s.numbers.next s.slots is.slots.order good.memory;
    counts = some_counts bytes p s.log s.numbers.safe_point s.committed last is.sets.committed lawful (upto s) high steps [] s.numbers.next s.slots is.slots.order
        (mark_up s.log lawful (upto s) s.numbers.high s.numbers.safe_point s.committed last high (told bytes s) no_lower within good.counts);
    below = λ q h. let less = good.below q h in omega (arith, less, no_lower);
  }

-- ---- it follows the old state

module _ {G : Type 0} where
  -- a flush that changes no epoch had no block, and left the files
  flush_keeps : (n first : ℕ) (s : Slotted G) → IsTagged s → KeepsSlot n (flushed_slot first s) s
  flush_keeps n first s tagged = by (list_any is_mem s.files) refl
    where
      by : (b : Bool) → list_any is_mem s.files ≡ b → KeepsSlot n (flushed_slot first s) s
      by true is = let raised : (flushed_slot first s).epoch ≡ s.epoch + 1 = ap (λ b. cond b (s.epoch + 1) s.epoch) is in
          record { epoch = omega (arith, raised); grown = λ same. absurd (omega (arith, raised, same)) }
      by false is = let stays : (flushed_slot first s).epoch ≡ s.epoch = ap (λ b. cond b (s.epoch + 1) s.epoch) is in
          record {
            epoch = omega (arith, stays);
            grown = λ same. record {
              range = refl;
              stable = refl;
              stable_number = refl;
              named = omega (arith, tagged);
              more = [];
              files = none_same first s.files is ∙ sym (append-nil s.files);
              no_tiny = tt;
              more_tags = [];
              tags = sym (append-nil (drop (length s.files - s.named) s.tags) ∙ drop_all (length s.files - s.named) s.tags (omega (arith, tagged)));
              above = tt;
            };
          }

  one_keeps : (m id : ℕ) (c : Bool) (t s : Slotted G) (news olds : List (Slotted G)) → KeepsSlot m t s → SlotFollows m (slot_of id news) (slot_of id olds) → SlotFollows m (cond c (Some t) (slot_of id news)) (cond c (Some s) (slot_of id olds))
  one_keeps m id true t s news olds keeps rest = keeps
  one_keeps m id false t s news olds keeps rest = rest

  itself_keeps : (m : ℕ) (s : Slotted G) → KeepsSlot m s s
  itself_keeps m s = record { epoch = omega arith; grown = λ same. grown_itself m s }

  slots_keep : (p : Slotted G → Bool) (m committed last n id : ℕ) (slots : List (Slotted G)) → AllByRecursion (IsSlot committed last) slots → SlotFollows m (slot_of id (flushed_slots p n slots)) (slot_of id slots)
  slots_keep p m committed last n id [] all = tt
  slots_keep p m committed last n id (s ∷ ss) all = by (p s) (λ k. slots_keep p m committed last k id ss all.1)
    where
      by : (b : Bool) → ((k : ℕ) → SlotFollows m (slot_of id (flushed_slots p k ss)) (slot_of id ss)) → SlotFollows m (slot_of id (one_flushed b n s ∷ flushed_slots p (after_one b n s) ss)) (slot_of id (s ∷ ss))
      by true rest = one_keeps m id (s.id == id) (flushed_slot n s) s (flushed_slots p (after_files n s.files) ss) ss (flush_keeps m n s all.0.tagged) (rest (after_files n s.files))
      by false rest = one_keeps m id (s.id == id) s s (flushed_slots p n ss) ss (itself_keeps m s) (rest n)

  slots_follow : (p : Slotted G → Bool) (m committed last n id : ℕ) (slots : List (Slotted G)) → AllByRecursion (IsSlot committed last) slots → SlotFollows m (slot_of id (flushed_slots p n slots)) (slot_of id slots)
  slots_follow p m committed last n id slots all = slots_keep p m committed last n id slots all

  pub flush_follows : (s : Core G) → IsCore s → (p : Slotted G → Bool) (high : ℕ) → s.numbers.high ≤ high → StateFollows (with_flushes p high s) s
  flush_follows s is p high no_lower = let same = core_itself s in record {
    log = same.log;
    settings = same.settings;
    mark = same.mark;
    opened = same.opened;
    listed = same.listed;
    count = same.count;
    committed = same.committed;
    high = no_lower;
    safe_point = same.safe_point;
    next = no_fewer_slots p s.numbers.next s.slots;
    generation = same.generation;
    kept_from = same.kept_from;
    slots = λ id low. slots_follow p (length s.listed) s.committed (length s.listed) s.numbers.next id s.slots is.slots.order;
  }
