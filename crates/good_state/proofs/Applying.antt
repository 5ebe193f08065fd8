-- What applying an entry keeps.
use Rattle.std.proofs.Common.{◌≡◌, ◌∙◌, ℕ, zero, suc, ◌+◌, ◌-◌, ◌<◌, ◌≤◌, Bool, true, false, cond, List, [], ◌∷◌, ◌++◌, length, drop, map, replicate, filter, Option, Some, None, refl, sym, ap, subst, arith, length-append, append-nil}
use Rattle.std.specs.Prelude.{◌||◌, ◌==◌, option_map}
use Rattle.std.specs.List.{AllByRecursion}
use Rattle.column_block.specs.declared.cell.Version.{Version}
use Rattle.column_file.specs.declared.file.ColumnFile.{ColumnFile}
use Rattle.column_file.specs.declared.file.ColumnFile.TheVariants.{DeleteRange}
use Rattle.delta_layer.specs.Files.{is_tiny}
use Rattle.flash_types.specs.declared.range.HandleRange.{HandleRange}
use Rattle.flash_types.specs.Ranges.{common, has_any}
use Rattle.committed_log.specs.Applied.{IsClosed, with_position}
use Rattle.committed_log.specs.Lawful.{IsLawful}
use Rattle.good_replica.specs.Effect.{added, clearing}
use Rattle.good_replica.specs.Changed.{of_parts}
use Rattle.good_replica.specs.Good.{AreGood}
use Rattle.prefix_laws.specs.Clipped.{absorb, clears_part, puts_part, says}
use Rattle.prefix_laws.specs.Prefixes.{ArePrefixesGood}
use Rattle.prefix_laws.specs.Tagged.{Tagged, TaggedSegment, content, files_at}
use Rattle.prefix_laws.specs.Views.{AllBy, AreBy}
use Rattle.prefix_laws.proofs.Tagging.{at_both, none_at}
use Rattle.prefix_laws.proofs.Replica.{applied, applied_once}
use Rattle.region_table.specs.Table.{Table, IsTableAt}
use Rattle.segment_list.specs.Order.{IsSlot}
use Rattle.segment_list.specs.Slots.{Slotted, IsTagged, absorbed, added_file, cleared_file, block_file, kept, pushed_some, tagged}
use Rattle.replica_state.specs.Core.{Core, IsCore, full, opened, upto}
use Rattle.replica_state.specs.Applying.{HasApplied, KeepsSets, with_entry}
use Rattle.replica_state.proofs.Applies.{keeps_sets}
use Rattle.replica_state.proofs.Sets.{free_of, upto_all}
use Rattle.good_state.specs.Follows.{StateFollows, HasGrown, SlotFollows, slot_of}
use Rattle.good_state.specs.Good.{IsGoodState, told, segments_at, committed_set}
use Rattle.segment_snapshot.specs.Rights.{AreReadable, stable_of}
use Rattle.segment_list.proofs.Telling.{absorbed_lists}
use Rattle.delta_layer.specs.Stable.{stable_in}
use Rattle.good_state.proofs.Following.{grown_itself, grown_on}

-- ---- a slot grows by what an entry says

-- a file that comes isn't tiny
abbrev pub IsNoTiny : Option ColumnFile → Type 0
IsNoTiny None = Unit {0}
IsNoTiny (Some f) = is_tiny f ≡ false

cleared_no_tiny : (range : HandleRange) (clears : Option HandleRange) → IsNoTiny (cleared_file range clears)
cleared_no_tiny range None = tt
cleared_no_tiny range (Some other) = elim (has_any (common range other)) as (λ b. IsNoTiny (cond b (Some (DeleteRange (common range other))) None)) [ true ↦ refl | false ↦ tt ]

block_no_tiny : (versions : List Version) → IsNoTiny (block_file versions)
block_no_tiny [] = tt
block_no_tiny (v ∷ vs) = refl

module _ {G : Type 0} where
  pushed_grown : (n tag : ℕ) → n < tag → (o : Option ColumnFile) → IsNoTiny o → (s : Slotted G) → HasGrown n (pushed_some tag o s) s
  pushed_grown n tag less None calm s = grown_itself n s
  pushed_grown n tag less (Some f) calm s = record {
    range = refl;
    stable = refl;
    stable_number = refl;
    named = omega arith;
    more = f ∷ [];
    files = refl;
    no_tiny = (calm, tt);
    more_tags = tag ∷ [];
    tags = let none : s.named - s.named ≡ 0 = omega arith in ap (λ (n : ℕ). drop n s.tags ++ tag ∷ []) (sym none);
    above = (less, tt);
  }

  absorbed_grown : (n tag : ℕ) → n < tag → (clears : Option HandleRange) (adds : List Version) (s : Slotted G) → HasGrown n (absorbed tag clears adds s) s
  absorbed_grown n tag less clears adds s =
      let first = pushed_some tag (cleared_file s.range clears) s in
      grown_on n n (omega arith) (absorbed tag clears adds s) first s
      (pushed_grown n tag less (added_file s.range adds) (block_no_tiny (kept s.range adds)) first)
      (pushed_grown n tag less (cleared_file s.range clears) (cleared_no_tiny s.range clears) s)

  some_id : (tag : ℕ) (o : Option ColumnFile) (s : Slotted G) → (pushed_some tag o s).id ≡ s.id
  some_id tag None s = refl
  some_id tag (Some f) s = refl

  some_epoch : (tag : ℕ) (o : Option ColumnFile) (s : Slotted G) → (pushed_some tag o s).epoch ≡ s.epoch
  some_epoch tag None s = refl
  some_epoch tag (Some f) s = refl

  some_stable : (tag : ℕ) (o : Option ColumnFile) (s : Slotted G) → (pushed_some tag o s).stable ≡ s.stable
  some_stable tag None s = refl
  some_stable tag (Some f) s = refl

  module _ (tag : ℕ) (clears : Option HandleRange) (adds : List Version) where
    id_stays : (s : Slotted G) → (absorbed tag clears adds s).id ≡ s.id
    id_stays s = some_id tag (added_file s.range adds) (pushed_some tag (cleared_file s.range clears) s) ∙ some_id tag (cleared_file s.range clears) s

    epoch_stays : (s : Slotted G) → (absorbed tag clears adds s).epoch ≡ s.epoch
    epoch_stays s = some_epoch tag (added_file s.range adds) (pushed_some tag (cleared_file s.range clears) s) ∙ some_epoch tag (cleared_file s.range clears) s

    stable_stays : (s : Slotted G) → (absorbed tag clears adds s).stable ≡ s.stable
    stable_stays s = some_stable tag (added_file s.range adds) (pushed_some tag (cleared_file s.range clears) s) ∙ some_stable tag (cleared_file s.range clears) s

    found_same : (id : ℕ) (slots : List (Slotted G)) → slot_of id (map (absorbed tag clears adds) slots) ≡ option_map (absorbed tag clears adds) (slot_of id slots)
    found_same id [] = refl
    found_same id (s ∷ ss) =
        ap (λ (n : ℕ). cond (n == id) (Some (absorbed tag clears adds s)) (slot_of id (map (absorbed tag clears adds) ss))) (id_stays s)
        ∙ by (s.id == id) (found_same id ss)
      where
        by : (b : Bool) → slot_of id (map (absorbed tag clears adds) ss) ≡ option_map (absorbed tag clears adds) (slot_of id ss)
            → cond b (Some (absorbed tag clears adds s)) (slot_of id (map (absorbed tag clears adds) ss)) ≡ option_map (absorbed tag clears adds) (cond b (Some s) (slot_of id ss))
        by true rest = refl
        by false rest = rest

    slot_grows : (n : ℕ) → n < tag → (o : Option (Slotted G)) → SlotFollows n (option_map (absorbed tag clears adds) o) o
    slot_grows n less None = tt
    slot_grows n less (Some s) = record { epoch = omega (arith, epoch_stays s); grown = λ same. absorbed_grown n tag less clears adds s }

    slots_grow : (n : ℕ) → n < tag → (id : ℕ) (slots : List (Slotted G)) → SlotFollows n (slot_of id (map (absorbed tag clears adds) slots)) (slot_of id slots)
    slots_grow n less id slots = subst (λ (o : Option (Slotted G)). SlotFollows n o (slot_of id slots)) (sym (found_same id slots)) (slot_grows n less (slot_of id slots))

-- ---- what there is at a count

-- files that are named have come by any count, and the others by the last
pub named_by : (last n : ℕ) (tags : List ℕ) (files : List ColumnFile) → AllByRecursion (λ (t : ℕ). t ≤ last) tags → AreBy last (tagged (replicate n 0 ++ tags) files)
named_by last zero [] files all = tt
named_by last zero (t ∷ ts) [] all = tt
named_by last zero (t ∷ ts) (f ∷ fs) all = (all.0, named_by last zero ts fs all.1)
named_by last (suc n) tags [] all = tt
named_by last (suc n) tags (f ∷ fs) all = (omega arith, named_by last n tags fs all)

pub upper : (committed last : ℕ) (tags : List ℕ) → AllByRecursion (λ (t : ℕ). (committed < t) × (t ≤ last)) tags → AllByRecursion (λ (t : ℕ). t ≤ last) tags
upper committed last [] all = tt
upper committed last (t ∷ ts) all = (all.0.1, upper committed last ts all.1)

module _ {G : Type 0} where
  pub all_known : (bytes : G → List ℕ) (committed last : ℕ) (core : Core G) (slots : List (Slotted G)) → AllByRecursion (IsSlot committed last) slots → AllBy last (told bytes (record core { slots = slots }))
  all_known bytes committed last core [] all = tt
  all_known bytes committed last core (s ∷ ss) all = (named_by last s.named s.tags s.files (upper committed last s.tags all.0.tags), all_known bytes committed last core ss all.1)

  pub all_tagged : (committed last : ℕ) (slots : List (Slotted G)) → AllByRecursion (IsSlot committed last) slots → AllByRecursion (λ (s : Slotted G). IsTagged s) slots
  all_tagged committed last [] all = tt
  all_tagged committed last (s ∷ ss) all = (all.0.tagged, all_tagged committed last ss all.1)

-- the files of an entry all have its tag
entry_tags : (tag : ℕ) (range : HandleRange) (clears : Option HandleRange) (adds : List Version) → AllByRecursion (λ (f : Tagged). f.tag ≡ tag) (clears_part tag range clears ++ puts_part tag range adds)
entry_tags tag range None adds = (refl, tt)
entry_tags tag range (Some other) adds = (refl, (refl, tt))

-- before an entry's count there is none of its files
before : (k tag : ℕ) → k < tag → (clears : Option HandleRange) (adds : List Version) (s : TaggedSegment) → content k (absorb tag clears adds s) ≡ content k s
before k tag less clears adds s =
    let more = clears_part tag s.range clears ++ puts_part tag s.range adds in
    let files : files_at k (s.files ++ filter says more) ≡ files_at k s.files =
    at_both k s.files (filter says more) ∙ ap (λ fs. files_at k s.files ++ fs) (none_at k tag more less (entry_tags tag s.range clears adds)) ∙ append-nil (files_at k s.files) in
    λ i. of_parts s.range s.stable (files i)

all_before : (k tag : ℕ) → k < tag → (clears : Option HandleRange) (adds : List Version) (ss : List TaggedSegment) → map (content k) (map (absorb tag clears adds) ss) ≡ map (content k) ss
all_before k tag less clears adds [] = refl
all_before k tag less clears adds (s ∷ ss) = λ i. before k tag less clears adds s i ∷ all_before k tag less clears adds ss i

-- ---- the replica

or_false : (b : Bool) → (b || false) ≡ b
or_false true = refl
or_false false = refl

readable_still : {G : Type 0} (bytes : G → List ℕ) (tag : ℕ) (clears : Option HandleRange) (adds : List Version) (slots : List (Slotted G)) → AreReadable bytes slots → AreReadable bytes (map (absorbed tag clears adds) slots)
readable_still bytes tag clears adds [] all = tt
readable_still bytes tag clears adds (s ∷ ss) all = ((all.0.0, ap (stable_in bytes) (stable_stays tag clears adds s) ∙ all.0.1), readable_still bytes tag clears adds ss all.1)

module _ {G : Type 0} (bytes : G → List ℕ) (s : Core G) (is : IsCore s) (lawful : IsLawful s.log) (p : ℕ) (t : Table)
    (free : full s p ≡ false) (set : full (with_entry s p t) ≡ with_position (full s) p) (at : IsTableAt s.log (with_position (full s) p) t) (keeps : KeepsSets s (with_entry s p t)) (all : upto s (length s.listed) ≡ full s) where
  abbrev last : ℕ
  last = length s.listed

  abbrev next : Core G
  next = with_entry s p t

  abbrev told_next : List TaggedSegment
  told_next = map (absorb (suc last) (clearing s.log p) (added s.log p)) (told bytes s)

  told_is : told bytes next ≡ told_next
  told_is =
      let tag : last + 1 ≡ suc last = omega arith in
      absorbed_lists (last + 1) (clearing s.log p) (added s.log p) (stable_of bytes) s.slots (all_tagged s.committed last s.slots is.slots.order)
      ∙ ap (λ (n : ℕ). map (absorb n (clearing s.log p) (added s.log p)) (told bytes s)) tag

  longer : length (s.listed ++ p ∷ []) ≡ suc last
  longer = let sum : length (s.listed ++ p ∷ []) ≡ last + 1 = length-append s.listed (p ∷ []) in omega (arith, sum)

  known : AllBy last (told bytes s)
  known = all_known bytes s.committed last s s.slots is.slots.order

  opened_same : (q : ℕ) → opened next q ≡ opened s q
  opened_same q = sym (or_false (opened next q)) ∙ ap (λ (A : ℕ → Bool). A q) (keeps.earlier 0 (omega arith)) ∙ or_false (opened s q)

  pub committed_same : committed_set next ≡ committed_set s
  committed_same = keeps.earlier s.committed is.sets.committed

  then : upto next (suc last) ≡ with_position (upto s last) p
  then = ap (upto next) (sym longer) ∙ keeps.all ∙ set ∙ ap (λ (A : ℕ → Bool). with_position A p) (sym all)

  pub entry_follows : StateFollows next s
  entry_follows = record {
    log = refl;
    settings = refl;
    mark = refl;
    opened = opened_same;
    listed = (p ∷ [], refl);
    count = omega arith;
    committed = omega arith;
    high = omega arith;
    safe_point = omega arith;
    next = omega arith;
    generation = omega arith;
    kept_from = omega arith;
    slots = λ id low. slots_grow (last + 1) (clearing s.log p) (added s.log p) last (omega arith) id s.slots;
  }

  memory_good : IsGoodState bytes s → AreGood s.log (full next) s.numbers.mark s.numbers.safe_point (segments_at bytes (length next.listed) next)
  memory_good good =
      subst (λ (A : ℕ → Bool). AreGood s.log A s.numbers.mark s.numbers.safe_point (segments_at bytes (length next.listed) next)) (sym set)
      (subst (λ (n : ℕ). AreGood s.log (with_position (full s) p) s.numbers.mark s.numbers.safe_point (map (content n) (told bytes next))) (sym longer)
      (subst (λ (ts : List TaggedSegment). AreGood s.log (with_position (full s) p) s.numbers.mark s.numbers.safe_point (map (content (suc last)) ts)) (sym told_is)
      (applied_once s.log lawful (full s) is.sets.table.closed p free at.closed s.numbers.mark s.numbers.safe_point last (told bytes s) known good.memory)))

  counts_good : IsGoodState bytes s → ArePrefixesGood s.log (upto next) s.numbers.high s.numbers.safe_point s.committed (length next.listed) (told bytes next)
  counts_good good =
      subst (λ (n : ℕ). ArePrefixesGood s.log (upto next) s.numbers.high s.numbers.safe_point s.committed n (told bytes next)) (sym longer)
      (subst (ArePrefixesGood s.log (upto next) s.numbers.high s.numbers.safe_point s.committed (suc last)) (sym told_is)
      (applied s.log lawful (upto s) (upto next) s.numbers.high s.numbers.safe_point s.committed last p
      (is.sets.closed last)
      (ap (λ (A : ℕ → Bool). A p) all ∙ free)
      (subst (λ (A : ℕ → Bool). IsClosed s.log (with_position A p)) (sym all) at.closed)
      keeps.earlier then is.sets.committed (told bytes s) known good.counts))

  -- what is named stays the same
  pub named_same : segments_at bytes s.committed next ≡ segments_at bytes s.committed s
  named_same =
      let order : s.committed ≤ last = is.sets.committed in
      ap (map (content s.committed)) told_is ∙ all_before s.committed (suc last) (omega (arith, order)) (clearing s.log p) (added s.log p) (told bytes s)

  pub entry_good : IsGoodState bytes s → IsGoodState bytes next
  entry_good good = record {
    readable = readable_still bytes (last + 1) (clearing s.log p) (added s.log p) s.slots good.readable;
    memory = memory_good good;
    counts = counts_good good;
    below = λ q h. good.below q (subst (λ (A : ℕ → Bool). A q ≡ true) committed_same h);
  }

module _ {G : Type 0} (bytes : G → List ℕ) (old new : Core G) (p : ℕ) (is : IsCore old) (lawful : IsLawful old.log) (it : HasApplied old p new) where
  abbrev with_it : Core G
  with_it = with_entry old p new.table

  set_is : full with_it ≡ with_position (full old) p
  set_is = subst (λ (n : Core G). full n ≡ with_position (full old) p) it.same it.set

  keeps_it : KeepsSets old with_it
  keeps_it = subst (KeepsSets old) it.same (keeps_sets old new p is it)

  all_is : upto old (length old.listed) ≡ full old
  all_is = upto_all old is.sets.applied (length old.listed) (omega arith)

  free_is : full old p ≡ false
  free_is = free_of old.log (full old) p it.ready

  pub applied_follows : StateFollows new old
  applied_follows = subst (λ (n : Core G). StateFollows n old) (sym it.same) (entry_follows bytes old is lawful p new.table free_is set_is it.table keeps_it all_is)

  pub applied_good : IsGoodState bytes old → IsGoodState bytes new
  applied_good good = subst (IsGoodState bytes) (sym it.same) (entry_good bytes old is lawful p new.table free_is set_is it.table keeps_it all_is good)

  pub applied_committed : committed_set new ≡ committed_set old
  applied_committed = subst (λ (n : Core G). committed_set n ≡ committed_set old) (sym it.same) (committed_same bytes old is lawful p new.table free_is set_is it.table keeps_it all_is)

  pub applied_named : segments_at bytes old.committed new ≡ segments_at bytes old.committed old
  applied_named = subst (λ (n : Core G). segments_at bytes old.committed n ≡ segments_at bytes old.committed old) (sym it.same) (named_same bytes old is lawful p new.table free_is set_is it.table keeps_it all_is)
