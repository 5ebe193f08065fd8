-- Segments as they are opened, slot by slot.
use Rattle.std.proofs.Common.{◌≡◌, ◌≢◌, ◌∙◌, ℕ, ◌+◌, ◌<◌, Bool, true, false, ◌&&◌, List, [], ◌∷◌, ◌++◌, length, take, drop, get_or, slice_get, map, Option, Some, None, refl, sym, ap, subst, arith}
use Rattle.std.specs.List.{All, AllByRecursion, AllPairs, filter_map, flat_map, list_all}
use Rattle.std.proofs.Math.Seq.{take-length, drop-length}
use Rattle.std.proofs.lemmas.Bool.{ltb-true}
use Rattle.std.proofs.lemmas.Grind.{flat_map-append}
use Rattle.std.proofs.lemmas.List.{map-append, take-append-drop}
use Rattle.std.proofs.lemmas.Option.{slice_get_read}
use Rattle.std.proofs.lemmas.List.Elements.{All-cons}
use Rattle.std.proofs.lemmas.List.Kept.{AllPairs-cons}
use Rattle.column_block.specs.Suiting.{Suits}
use Rattle.column_block.specs.declared.column.Column.{Column}
use Rattle.column_file.specs.declared.file.ColumnFile.{ColumnFile}
use Rattle.column_file.specs.declared.file.ColumnFile.TheVariants.{Mem, Tiny, DeleteRange}
use Rattle.delta_layer.specs.Files.{FileHas, FilesHave, file_of, files_of, is_mem, is_tiny}
use Rattle.flash_types.specs.declared.range.HandleRange.{HandleRange}
use Rattle.good_replica.specs.Trail.{Segment}
use Rattle.manifest_cover.specs.Covers.{SameRanges}
use Rattle.manifest_form.specs.States.{file_below, is_formed, name_below, segment_below}
use Rattle.manifest_form.specs.declared.state.State.{State}
use Rattle.manifest_form.specs.Whole.{HasNone, IdsDiffer}
use Rattle.manifest_form.specs.declared.state.StoredFile.{StoredFile}
use Rattle.manifest_form.specs.declared.state.StoredFile.TheVariants as stored
use Rattle.manifest_form.specs.declared.state.StoredSegment.{StoredSegment}
use Rattle.stable_file.specs.declared.file.StableFile.{StableFile}
use Rattle.segment_list.specs.Lists.{range_alone}
use Rattle.segment_list.specs.Order.{IsSlot, LiesIn}
use Rattle.segment_list.specs.Slots.{Slotted}
use Rattle.replica_state.specs.Core.{AreSlots, IsFileBelow, IsNumberBelow, IsNumbered, SlotSuits}
use Rattle.segment_flush.specs.Names.{name_of, stored_of}
use Rattle.opened_segments.specs.Opened.{AreParts, IsOpenedSlot, IsPart, IsStablePart, slot_with}
use Rattle.replica_state.proofs.Sets.{all_one_more}
use Rattle.opened_segments.specs.Faults.{IsFaultOf}
use Rattle.opened_segments.specs.declared.fault.OpenFault.{OpenFault}
use Rattle.opened_segments.proofs.Judging.{drop_here, fault_first, fault_then, none_both, take_one}
use Rattle.opened_segments.proofs.Parts.{all_of, filtered_names}

-- ---- one slot

both_true : (a b : Bool) → (a && b) ≡ true → (a ≡ true) × (b ≡ true)
both_true true b h = (refl, h)
both_true false b h = absurd (cc h)

names_below : (next : ℕ) (fs : List ColumnFile) (ss : List StoredFile) → map name_of fs ≡ map Some ss → list_all (file_below next) ss ≡ true → AllByRecursion (IsFileBelow next) fs
names_below next [] ss is low = tt
names_below next (f ∷ fs) [] is low = absurd (cc is)
names_below next (f ∷ fs) (s ∷ ss) is low =
    let here : name_of f ≡ Some s = cc is in
    let rest : map name_of fs ≡ map Some ss = cc is in
    let both = both_true (file_below next s) (list_all (file_below next) ss) low in
    (by f s here both.0, names_below next fs ss rest both.1)
  where
    by : (g : ColumnFile) (t : StoredFile) → name_of g ≡ Some t → file_below next t ≡ true → IsFileBelow next g
    by (Mem block) t name low = tt
    by (Tiny file block) (stored.Tiny other) name low =
        let same : file ≡ other = cc name in
        let less = ltb-true other next low in omega (arith, same, less)
    by (Tiny file block) (stored.DeleteRange range) name low = absurd (cc name)
    by (DeleteRange range) t name low = tt

number_below : (next : ℕ) (o : Option ℕ) → name_below next o ≡ true → IsNumberBelow next o
number_below next None low = tt
number_below next (Some file) low = ltb-true file next low

files_suit : (columns : List Column) (range : HandleRange) (fs : List ColumnFile) → AllByRecursion (IsPart columns range) fs → FilesHave (Suits columns) (files_of fs)
files_suit columns range [] all = tt
files_suit columns range (f ∷ fs) all = (all.0.suits, files_suit columns range fs all.1)

module _ {G : Type 0} (columns : List Column) (s : StoredSegment) (files : List ColumnFile) (part : Option (StableFile G)) (are : AreParts columns s.range s.delta files) where
  pub stored_is : stored_of (slot_with s files part) ≡ s
  stored_is =
      let names : filter_map name_of (take (length files) files) ≡ s.delta = ap (filter_map name_of) (take-length files) ∙ filtered_names files s.delta are.names in
      (λ i. record { id = s.id; range = s.range; stable = s.stable; delta = names i })

  pub slot_opened : IsStablePart columns s.stable part → (next : ℕ) → segment_below next s ≡ true → IsOpenedSlot columns next (slot_with s files part)
  slot_opened stable next low =
      let first = both_true _ _ low in
      let second = both_true _ _ first.1 in
      let id : s.id < next = ltb-true s.id next first.0 in
      record {
        order = record {
          tagged = omega arith;
          tags = tt;
          named = subst (AllByRecursion (λ (f : ColumnFile). is_mem f ≡ false)) (sym (take-length files)) (all_of (IsPart columns s.range) (λ (f : ColumnFile). is_mem f ≡ false) (λ f is. is.stored) files are.each);
          behind = subst (AllByRecursion (λ (f : ColumnFile). is_tiny f ≡ false)) (sym (drop-length files)) tt;
          rows = all_of (IsPart columns s.range) (LiesIn s.range) (λ f is. is.lies) files are.each;
        };
        numbered = record { id = id; epoch = omega (arith, id); files = names_below next files s.delta are.names second.1; stable = number_below next s.stable second.0 };
        suit = record { stable = stable.schema; files = files_suit columns s.range files are.each };
        there = stable.there;
      }

-- ---- all of them

all_more : {X : Type 0} (p : X → Bool) (xs : List X) (x : X) → list_all p (xs ++ x ∷ []) ≡ true → (list_all p xs ≡ true) × (p x ≡ true)
all_more p [] x h = (refl, (both_true (p x) true h).0)
all_more p (y ∷ xs) x h =
    let both = both_true (p y) (list_all p (xs ++ x ∷ [])) h in
    let rest = all_more p xs x both.1 in
    (λ i. (both.0 i && rest.0 i), rest.1)

module _ {G : Type 0} (columns : List Column) where
  pub opened_more : (xs : List StoredSegment) (seg : StoredSegment) (slots : List (Slotted G)) (slot : Slotted G)
      → ((next : ℕ) → list_all (segment_below next) xs ≡ true → AllByRecursion (IsOpenedSlot columns next) slots) → ((next : ℕ) → segment_below next seg ≡ true → IsOpenedSlot columns next slot)
      → (next : ℕ) → list_all (segment_below next) (xs ++ seg ∷ []) ≡ true → AllByRecursion (IsOpenedSlot columns next) (slots ++ slot ∷ [])
  opened_more xs seg slots slot before here next low = (let both = all_more (segment_below next) xs seg low in all_one_more (IsOpenedSlot columns next) slots slot (before next both.0) (here next both.1))

-- the segments of a state that a store may have are numbered below its Next
pub formed_below : (own : ℕ) (s : State) → is_formed own s ≡ true → list_all (segment_below s.next) s.segments ≡ true
formed_below own s formed = (both_true _ _ (both_true _ _ (both_true _ _ formed).0).1).1

module _ {G : Type 0} where
  pub slots_in_order : (columns : List Column) (next : ℕ) (slots : List (Slotted G)) → AllByRecursion (IsOpenedSlot columns next) slots → AreSlots columns next 0 0 slots
  slots_in_order columns next slots all = record {
    order = all_of (IsOpenedSlot columns next) (IsSlot 0 0) (λ s is. is.order) slots all;
    numbered = all_of (IsOpenedSlot columns next) (IsNumbered next) (λ s is. is.numbered) slots all;
    suit = all_of (IsOpenedSlot columns next) (SlotSuits columns) (λ s is. is.suit) slots all;
  }

  ranges_same : (slots : List (Slotted G)) → map (λ (s : StoredSegment). s.range) (map stored_of slots) ≡ map (λ (s : Segment). s.range) (map range_alone slots)
  ranges_same [] = refl
  ranges_same (s ∷ slots) = ap (λ (rs : List HandleRange). s.range ∷ rs) (ranges_same slots)

  pub same_ranges : (slots : List (Slotted G)) (segments : List StoredSegment) → map stored_of slots ≡ segments → SameRanges segments (map range_alone slots)
  same_ranges slots segments is = ap (map (λ (s : StoredSegment). s.range)) (sym is) ∙ ranges_same slots

  none_has : (id : ℕ) (slots : List (Slotted G)) → HasNone id (map stored_of slots) → All (λ (t : Slotted G). id ≢ t.id) slots
  none_has id [] none = λ k d less. absurd (omega (arith, less))
  none_has id (s ∷ slots) none = All-cons (λ (t : Slotted G). id ≢ t.id) s slots (λ same. none.0 (sym same)) (none_has id slots none.1)

  ids_apart : (slots : List (Slotted G)) → IdsDiffer (map stored_of slots) → AllPairs (λ (s t : Slotted G). s.id ≢ t.id) slots
  ids_apart [] differ = λ i j d less within. absurd (omega (arith, within))
  ids_apart (s ∷ slots) differ = AllPairs-cons (λ (s t : Slotted G). s.id ≢ t.id) s slots (none_has s.id slots differ.0) (ids_apart slots differ.1)

  pub slots_differ : (slots : List (Slotted G)) (segments : List StoredSegment) → map stored_of slots ≡ segments → IdsDiffer segments → AllPairs (λ (s t : Slotted G). s.id ≢ t.id) slots
  slots_differ slots segments is differ = ids_apart slots (subst IdsDiffer (sym is) differ)

-- ---- segments that are borrowed, one after the other

module _ {B : Type 0} (v : B → StoredSegment) (xs : List B) (i : ℕ) (x : B) (less : i < length xs) (is : x ≡ get_or xs i x) where
  here : slice_get xs i ≡ Some x
  here = slice_get_read xs (length xs) i x refl less is

  pub taken : map v (take (i + 1) xs) ≡ map v (take i xs) ++ v x ∷ []
  taken = ap (map v) (take_one xs i x here) ∙ map-append v (take i xs) (x ∷ [])

  parted : map v xs ≡ map v (take i xs) ++ (v x ∷ map v (drop (i + 1) xs))
  parted = ap (map v) (sym (take-append-drop i xs)) ∙ map-append v (take i xs) (drop i xs) ∙ ap (λ (r : List B). map v (take i xs) ++ map v r) (drop_here xs i x here)

  pub faults_more : (f : StoredSegment → List OpenFault) → flat_map f (map v (take i xs)) ≡ [] → f (v x) ≡ [] → flat_map f (map v (take (i + 1) xs)) ≡ []
  faults_more f none also = ap (flat_map f) taken ∙ flat_map-append f (map v (take i xs)) (v x ∷ []) ∙ none_both (flat_map f (map v (take i xs))) (f (v x) ++ []) none (ap (λ (ys : List OpenFault). ys ++ []) also)

  pub faults_at : (f : StoredSegment → List OpenFault) (e : OpenFault) → flat_map f (map v (take i xs)) ≡ [] → IsFaultOf (f (v x)) e → IsFaultOf (flat_map f (map v xs)) e
  faults_at f e none h =
      subst (λ (all : List OpenFault). IsFaultOf all e) (sym (ap (flat_map f) parted ∙ flat_map-append f (map v (take i xs)) (v x ∷ map v (drop (i + 1) xs))))
      (fault_then (flat_map f (map v (take i xs))) (f (v x) ++ flat_map f (map v (drop (i + 1) xs))) e none (fault_first (f (v x)) (flat_map f (map v (drop (i + 1) xs))) e h))
