-- The edits that name flushed slots.
use Rattle.std.proofs.Common.{◌≡◌, ◌≢◌, ◌∙◌, ℕ, zero, suc, ◌<◌, Bool, true, false, List, [], ◌∷◌, length, map, take, get_or, Option, Some, None, refl, sym, ap, subst, arith, nat_lt}
use Rattle.std.specs.Prelude.{◌&&◌, ◌||◌, not}
use Rattle.std.specs.List.{AllByRecursion, AllPairs, filter_map, list_all, list_any}
use Rattle.column_file.specs.declared.file.ColumnFile.{ColumnFile}
use Rattle.column_file.specs.declared.file.ColumnFile.TheVariants.{Mem, Tiny, DeleteRange}
use Rattle.manifest_form.specs.States.{all_done, file_below, is_formed, name_below, segment_below, with_segments}
use Rattle.manifest_form.specs.Whole.{HasNone, IdsDiffer}
use Rattle.manifest_form.specs.declared.state.Edit.{Edit}
use Rattle.manifest_form.specs.declared.state.State.{State}
use Rattle.manifest_form.specs.declared.state.StoredSegment.{StoredSegment}
use Rattle.manifest_laws.specs.Changes.{Renews}
use Rattle.manifest_laws.proofs.Facts.{both_and, lt_true}
use Rattle.manifest_laws.proofs.Steps.{all_renewed}
use Rattle.replica_state.specs.Core.{IsFileBelow, IsNumberBelow, IsNumbered}
use Rattle.replica_store.specs.Naming as named
use Rattle.segment_flush.specs.Flushing.{after_one, flushed_slots, one_flushed, puts_of, segment_edits, with_put}
use Rattle.segment_flush.specs.Names.{name_of, stored_of}
use Rattle.segment_flush.proofs.Flushed.{first_pairs, later_pairs, renewed}
use Rattle.segment_list.specs.Flushes.{after_files, flushed_slot}
use Rattle.segment_list.specs.Lists as lists
use Rattle.segment_list.specs.Lists.{is_file_in, is_file_of, is_tiny_file}
use Rattle.segment_list.specs.Slots.{Slotted}
use Rattle.replica.specs.Learner.{Learner}
use Rattle.replica.specs.Steps.{freed, freed_of, if_freed}

-- ---- numbers differ

none_of : {G : Type 0} (id : ℕ) (slots : List (Slotted G)) → ((k : ℕ) (d : Slotted G) → k < length slots → id ≢ (get_or slots k d).id) → HasNone id (map stored_of slots)
none_of id [] others = tt
none_of id (s ∷ ss) others = ((λ same. others 0 s (omega arith) (sym same)), none_of id ss (λ k d lt. others (suc k) d (omega (arith, lt))))

pub ids_differ : {G : Type 0} (slots : List (Slotted G)) → AllPairs (λ a b. a.id ≢ b.id) slots → IdsDiffer (map stored_of slots)
ids_differ [] pairs = tt
ids_differ (s ∷ ss) pairs = (none_of s.id ss (λ k d lt. first_pairs (λ a b. a.id ≢ b.id) s ss pairs k d lt), ids_differ ss (later_pairs (λ a b. a.id ≢ b.id) s ss pairs))

-- ---- numbers are below Next

name_is_below : (next : ℕ) (o : Option ℕ) → IsNumberBelow next o → name_below next o ≡ true
name_is_below next None below = refl
name_is_below next (Some n) below = lt_true n next below

some_more : (b : Bool) → b ≡ true → (bs : Bool) → bs ≡ true → (b && bs) ≡ true
some_more b one bs all = both_and b bs one all

names_below : (next : ℕ) (files : List ColumnFile) → AllByRecursion (IsFileBelow next) files → list_all (file_below next) (filter_map name_of files) ≡ true
names_below next [] all = refl
names_below next (Mem block ∷ fs) all = names_below next fs all.1
names_below next (Tiny file block ∷ fs) all = both_and (nat_lt file next) _ (lt_true file next all.0) (names_below next fs all.1)
names_below next (DeleteRange range ∷ fs) all = names_below next fs all.1

front_below : (next n : ℕ) (files : List ColumnFile) → AllByRecursion (IsFileBelow next) files → AllByRecursion (IsFileBelow next) (take n files)
front_below next zero files all = tt
front_below next (suc n) [] all = tt
front_below next (suc n) (f ∷ fs) all = (all.0, front_below next n fs all.1)

stored_below : {G : Type 0} (next : ℕ) (s : Slotted G) → IsNumbered next s → segment_below next (stored_of s) ≡ true
stored_below next s is =
    both_and (nat_lt s.id next) _ (lt_true s.id next is.id)
    (both_and (name_below next s.stable_number) _ (name_is_below next s.stable_number is.stable) (names_below next (take s.named s.files) (front_below next s.named s.files is.files)))

pub puts_below : {G : Type 0} (next : ℕ) (p : Slotted G → Bool) (n : ℕ) (slots : List (Slotted G)) → AllByRecursion (IsNumbered next) (flushed_slots p n slots) → list_all (segment_below next) (puts_of p n slots) ≡ true
puts_below next p n [] all = refl
puts_below next p n (s ∷ ss) all = by (p s) all (λ k below. puts_below next p k ss below)
  where
    by : (b : Bool) → AllByRecursion (IsNumbered next) (one_flushed b n s ∷ flushed_slots p (after_one b n s) ss) → ((k : ℕ) → AllByRecursion (IsNumbered next) (flushed_slots p k ss) → list_all (segment_below next) (puts_of p k ss) ≡ true) → list_all (segment_below next) (with_put b (stored_of (flushed_slot n s)) (puts_of p (after_one b n s) ss)) ≡ true
    by true all rest = both_and (segment_below next (stored_of (flushed_slot n s))) _ (stored_below next (flushed_slot n s) all.0) (rest (after_files n s.files) all.1)
    by false all rest = rest n all.1

-- ---- the state that edits of the flushed slots make, behind others that leave the segments

module _ {G : Type 0} (own : ℕ) (p : Slotted G → Bool) (n : ℕ) (slots : List (Slotted G)) (s : State) (are : s.segments ≡ map stored_of slots) (formed : is_formed own s ≡ true) (differ : AllPairs (λ a b. a.id ≢ b.id) slots)
    (numbered : AllByRecursion (IsNumbered s.next) (flushed_slots p n slots)) where
  abbrev puts : List Edit
  puts = segment_edits (puts_of p n slots)

  pub state_put : (all_done s puts ≡ with_segments s (map stored_of (flushed_slots p n slots))) × (is_formed own (all_done s puts) ≡ true)
  state_put = all_renewed own s (map stored_of (flushed_slots p n slots)) (puts_of p n slots) formed
      (subst IdsDiffer (sym are) (ids_differ slots differ))
      (subst (λ (olds : List StoredSegment). Renews olds (map stored_of (flushed_slots p n slots)) (puts_of p n slots)) (sym are) (renewed p n slots))
      (puts_below s.next p n slots numbered)

-- ---- the slots name the files that a manifest names for them

tiny_same : (file : ℕ) (fs : List ColumnFile) → list_any (is_tiny_file file) fs ≡ list_any (named.is_tiny_file file) (filter_map name_of fs)
tiny_same file [] = refl
tiny_same file (Mem block ∷ fs) = tiny_same file fs
tiny_same file (Tiny other block ∷ fs) = ap (λ (b : Bool). is_tiny_file file (Tiny other block) || b) (tiny_same file fs)
tiny_same file (DeleteRange range ∷ fs) = tiny_same file fs

number_same : (file : ℕ) (o : Option ℕ) → lists.is_number file o ≡ named.is_number file o
number_same file None = refl
number_same file (Some other) = refl

pub named_same : {G : Type 0} (file : ℕ) (slots : List (Slotted G)) → is_file_in file slots ≡ list_any (named.is_file_of file) (map stored_of slots)
named_same file [] = refl
named_same file (s ∷ ss) = λ i. (number_same file s.stable_number i || tiny_same file (take s.named s.files) i) || named_same file ss i

-- whether the region file goes out of use
pub freed_is : {D G : Type 0} (r : Learner D G) (file : ℕ) (b : Bool) → r.store.manifest.state.regions ≡ Some file → is_file_in file r.core.slots ≡ b → freed r ≡ if_freed (not b) file
freed_is r file b regions is = ap (freed_of r) regions ∙ ap (λ (t : Bool). if_freed (not t) file) (sym (named_same file r.core.slots) ∙ is)
