-- What the flush of one slot keeps, from what its calls say.
use Rattle.std.proofs.Common.{◌≡◌, ◌≢◌, ◌∙◌, ℕ, zero, suc, ◌≤◌, true, false, true≢false, List, [], ◌∷◌, ◌++◌, get_or, set, Option, Some, refl, sym, ap, subst, arith}
use Rattle.std.specs.Prelude.{◌==◌, position, slice_get}
use Rattle.std.proofs.lemmas.List.Quantifiers.{position-Some}
use Rattle.committed_log.specs.Log.{Log}
use Rattle.segment_list.proofs.Flushing.{get_some}
use Rattle.segment_staging.proofs.Named.{number_same}
use Rattle.std.specs.List.{AllByRecursion, AllPairs, filter_map, sum_by}
use Rattle.committed_log.specs.Lawful.{IsLawful}
use Rattle.flash_io.specs.Crash.{LeavesOnly}
use Rattle.flash_io.specs.Image.{Image}
use Rattle.flash_io.specs.declared.disk.Disk.{Ghosts}
use Rattle.log_laws.specs.Chains.{chain_at}
use Rattle.manifest.specs.Runs.{OldOrNew}
use Rattle.manifest.specs.Stores.{Becomes, Beneath, has_of, has_with}
use Rattle.manifest.specs.declared.store.Manifest.{Manifest}
use Rattle.manifest_form.specs.States.{all_done, is_formed}
use Rattle.manifest_form.specs.declared.state.Edit.{Edit}
use Rattle.manifest_form.specs.declared.state.Edit.TheVariants as edit
use Rattle.manifest_form.specs.declared.state.State.{State}
use Rattle.manifest_form.specs.declared.state.StoredFile.{StoredFile}
use Rattle.manifest_form.specs.declared.state.StoredSegment.{StoredSegment}
use Rattle.column_file.specs.declared.file.ColumnFile.{ColumnFile}
use Rattle.replica_state.specs.Changes.{with_flushes}
use Rattle.replica_state.specs.Core.{Core, IsCore, IsNumbered}
use Rattle.replica_store.specs.Store.{BeforeOrAfter, Counted, IsCommitted, IsKeptOn, IsWhole, LeavesAlways, NamesNothing, Stored}
use Rattle.segment_flush.specs.Flushing.{flushed_slots, has_more, is_slot, plan_for, segment_edits}
use Rattle.segment_flush.specs.Names.{name_of, stored_of}
use Rattle.segment_flush.proofs.Flushed.{one_flush}
use Rattle.segment_flush.proofs.Planned.{all_there}
use Rattle.segment_list.specs.Flushes.{IsFlushOf, after_files, flushed_files, flushed_slot}
use Rattle.segment_list.specs.Slots.{Slotted, mem_rows}
use Rattle.segment_list.specs.declared.flush.Flush.{Flush}
use Rattle.segment_staging.specs.Staging.{AreBelow, AreWritten}
use Rattle.segment_staging.proofs.Written.{below_written, beneath_named}
use Rattle.store_image.specs.Images.{columns_in}
use Rattle.replica.specs.Follows.{Follows}
use Rattle.replica.specs.Learner.{IsLearner, Learner}
use Rattle.replica.specs.Names.{Names}
use Rattle.replica.specs.Steps.{HasFlushed, flush_edits, reached}
use Rattle.replica.proofs.Flushed.{edits_give, flush_done, flush_failed, flushed_state, learner_flushed}
use Rattle.replica.proofs.Reached.{reached_no_lower, reached_past, reached_within}
use Rattle.replica.proofs.Staged.{staged_follows}
use Rattle.replica.proofs.Steps.{with_store}
use Rattle.flash_io.proofs.Moments.{weaken}

-- ---- its plan and its edits

pub flush_is : {G : Type 0} (n : ℕ) (s : Slotted G) (flush : Flush) → flush.from ≡ n → IsFlushOf s.files flush → flush ≡ plan_for n s
flush_is n s flush from is =
    let layer : flush.layer ≡ flushed_files n s.files = is.layer ∙ ap (λ (k : ℕ). flushed_files k s.files) from in
    let next : flush.next ≡ after_files n s.files = is.next ∙ ap (λ (k : ℕ). after_files k s.files) from in
    λ i. record { layer = layer i; from = from i; next = next i }

module _ {G : Type 0} (core : Core G) (differ : AllPairs (λ a b. a.id ≢ b.id) core.slots) (place : ℕ) (s : Slotted G) (here : slice_get core.slots place ≡ Some s) where
  pub slot_edits : (high : ℕ) (flush : Flush) (segment : StoredSegment) → flush ≡ plan_for core.numbers.next s
      → segment ≡ record { id = s.id; range = s.range; stable = s.stable_number; delta = filter_map name_of flush.layer }
      → edit.Next flush.next ∷ edit.High high (chain_at core.log high) ∷ edit.Segment segment ∷ [] ≡ flush_edits (is_slot s.id) high core
  slot_edits high flush segment planned stored =
      let one = one_flush core.numbers.next place s core.slots differ here in
      let next : flush.next ≡ _ = ap (λ (f : Flush). f.next) planned ∙ sym one.next in
      let named : segment ≡ stored_of (flushed_slot core.numbers.next s) = stored ∙ ap (λ (fs : List ColumnFile). with_delta s (filter_map name_of fs)) (ap (λ (f : Flush). f.layer) planned ∙ sym (all_there core.numbers.next s.files)) in
      let puts : edit.Segment segment ∷ [] ≡ segment_edits _ = ap (λ (z : StoredSegment). edit.Segment z ∷ []) named ∙ ap segment_edits (sym one.puts) in
      λ i. edit.Next (next i) ∷ edit.High high (chain_at core.log high) ∷ puts i
    where
      with_delta : Slotted G → List StoredFile → StoredSegment
      with_delta s delta = record { id = s.id; range = s.range; stable = s.stable_number; delta = delta }

  pub edits_are : (flush : Flush) (segment : StoredSegment) (high : ℕ) (log : Log) (begun items : List Edit) → flush ≡ plan_for core.numbers.next s
      → segment ≡ record { id = s.id; range = s.range; stable = s.stable_number; delta = filter_map name_of flush.layer }
      → log ≡ core.log → high ≡ reached core → begun ≡ edit.Next flush.next ∷ edit.High high (chain_at log high) ∷ [] → items ≡ begun ++ edit.Segment segment ∷ []
      → items ≡ flush_edits (is_slot s.id) (reached core) core
  edits_are flush segment high log begun items planned stored log_is high_is begins pushed =
      pushed ∙ ap (λ (es : List Edit). es ++ edit.Segment segment ∷ []) begins
      ∙ (λ i. edit.Next flush.next ∷ edit.High (high_is i) (chain_at (log_is i) (high_is i)) ∷ edit.Segment segment ∷ [])
      ∙ slot_edits (reached core) flush segment planned stored

pub plan_flushes : {G : Type 0} (n : ℕ) (s : Slotted G) (flush : Flush) → flush ≡ plan_for n s → IsFlushOf s.files flush
plan_flushes n s flush is = subst (IsFlushOf s.files) (sym is) (record { layer = refl; next = refl })

pub one_slot : {X : Type 0} (xs : List X) (k : ℕ) (a b : X) → slice_get xs k ≡ Some a → slice_get xs k ≡ Some b → a ≡ b
one_slot xs k a b e f = some_both e f
  where
    some_both : {Y : Type 0} {a b : Y} {o : Option Y} → o ≡ Some a → o ≡ Some b → a ≡ b
    some_both e f = cc

-- the slot of a number
pub found_slot : {G : Type 0} (id : ℕ) (slots : List (Slotted G)) (place : ℕ) → position (λ (s : Slotted G). s.id == id) slots ≡ Some place → (s : Slotted G) × (slice_get slots place ≡ Some s) × (s.id ≡ id)
found_slot id [] place e = absurd (cc e)
found_slot {G = G} id (z ∷ zs) place e =
    let it = position-Some (λ (s : Slotted G). s.id == id) (z ∷ zs) place z e in
    (get_or (z ∷ zs) place z, get_some (z ∷ zs) place z it.0, number_same (get_or (z ∷ zs) place z).id id it.1)

-- ---- what is answered

module _ {D G : Type 0} (old : Learner D G) (place : ℕ) (slot z : Slotted G) (here : slice_get old.core.slots place ≡ Some slot) (there : slice_get old.core.slots place ≡ Some z) (versions : ℕ) (rows : versions ≡ sum_by mem_rows slot.files) where
  same : slot ≡ z
  same = one_slot old.core.slots place slot z here there

  pub named_before : has_more slot ≡ false → HasFlushed z.id versions old old
  named_before none = record {
    place = place;
    slot = z;
    there = there;
    number = refl;
    rows = rows ∙ ap (λ (s : Slotted G). sum_by mem_rows s.files) same;
    same = λ out. refl;
    flushed = λ some. absurd (true≢false (sym some ∙ ap has_more (sym same) ∙ none));
  }

  pub named_now : (new : Learner D G) → has_more slot ≡ true → new.core ≡ with_flushes (is_slot z.id) (reached old.core) old.core → HasFlushed z.id versions old new
  named_now new some flushed = record {
    place = place;
    slot = z;
    there = there;
    number = refl;
    rows = rows ∙ ap (λ (s : Slotted G). sum_by mem_rows s.files) same;
    same = λ out. absurd (true≢false (sym some ∙ ap has_more same ∙ out));
    flushed = λ more. flushed;
  }

-- ---- what is written

all_set : {X : Type 0} (P : X → Type 0) (xs : List X) (k : ℕ) (y : X) → AllByRecursion P xs → P y → AllByRecursion P (set xs k y)
all_set P [] k y all one = tt
all_set P (x ∷ xs) zero y all one = (one, all.1)
all_set P (x ∷ xs) (suc k) y all one = (all.0, all_set P xs k y all.1 one)

pub slots_below : {G : Type 0} (next : ℕ) (slots : List (Slotted G)) → AllByRecursion (IsNumbered next) slots → AllByRecursion (λ (s : Slotted G). AreBelow next s.files) slots
slots_below next [] all = tt
slots_below next (s ∷ ss) all = (all.0.files, slots_below next ss all.1)

module _ {D R G : Type 0} (d : Ghosts D R G) (bytes : G → List ℕ) (counts_now : (disk : D) (t : ℕ) (c : Image) → t ≤ d.moment disk → d.may_leave disk c → d.left_since disk t c)
    (s : Learner D G) (is : IsCore s.core) (lawful : IsLawful s.core.log) (ok : IsLearner s) (whole : IsWhole d s.store) (kept : IsKeptOn d s.store)
    (t : Stored D) (named : NamesNothing d s.store t) (counted : Counted d s.store t) (staged : LeavesAlways d s.store t (Beneath s.core.numbers.next (d.may_leave s.store.disk))) where
  -- files were staged, maybe in part
  pub stage_left : Follows d bytes (with_store s t) s
  stage_left =
      let next = ok.names.next in
      staged_follows d bytes counts_now s whole kept t
      (weaken d.moment d.left_since s.store.disk t.disk _ _ staged (beneath_named s.store.manifest s.store.manifest.formed s.core.numbers.next (omega (arith, next)) (d.may_leave s.store.disk)))
      named.manifest named.opened_faults counted.later

  pub names_then : Names (has_of t.manifest) s.core
  names_then = subst (λ (k : Manifest). Names (has_of k) s.core) (sym named.manifest) ok.names

  module _ (differ : AllPairs (λ a b. a.id ≢ b.id) s.core.slots) (place : ℕ) (slot : Slotted G) (here : slice_get s.core.slots place ≡ Some slot) (edits : List Edit) (edits_are : edits ≡ flush_edits (is_slot slot.id) (reached s.core) s.core) where
    abbrev n : Core G
    n = with_flushes (is_slot slot.id) (reached s.core) s.core

    give : (all_done t.manifest.state (flush_edits (is_slot slot.id) (reached s.core) s.core) ≡ flushed_state t.manifest n) × (is_formed t.manifest.file (all_done t.manifest.state (flush_edits (is_slot slot.id) (reached s.core) s.core)) ≡ true)
    give = edits_give s.core is differ (is_slot slot.id) (reached s.core) (reached_no_lower s.core) (reached_within s.core is) t.manifest names_then

    state_is : all_done t.manifest.state edits ≡ flushed_state t.manifest n
    state_is = ap (all_done t.manifest.state) edits_are ∙ give.0

    pub formed_then : is_formed t.manifest.file (all_done t.manifest.state edits) ≡ true
    formed_then = ap (λ (es : List Edit). is_formed t.manifest.file (all_done t.manifest.state es)) edits_are ∙ give.1

    becomes : (u : Stored D) → IsCommitted d edits t u → Becomes t.manifest (flushed_state t.manifest n) u.manifest
    becomes u done = subst (λ (st : State). Becomes t.manifest st u.manifest) state_is done.manifest

    pub one_learner : (u : Stored D) → IsCommitted d edits t u → IsLearner (record { store = u; core = n; retired = s.retired })
    one_learner u done = learner_flushed s is ok (is_slot slot.id) (reached s.core) t.manifest named.manifest u.manifest (becomes u done) u refl

    module _ (written : (c : Image) → d.may_leave t.disk c → AreWritten (columns_in s.core.log) s.store.manifest.state.next c (flushed_files s.core.numbers.next slot.files)) where
      all_written : (c : Image) → d.may_leave t.disk c → AllByRecursion (λ (z : Slotted G). AreWritten (columns_in s.core.log) s.core.numbers.next c z.files) (flushed_slots (is_slot slot.id) s.core.numbers.next s.core.slots)
      all_written c left =
          let one = one_flush s.core.numbers.next place slot s.core.slots differ here in
          subst (AllByRecursion (λ (z : Slotted G). AreWritten (columns_in s.core.log) s.core.numbers.next c z.files)) (sym one.slots)
          (all_set (λ (z : Slotted G). AreWritten (columns_in s.core.log) s.core.numbers.next c z.files) s.core.slots place (flushed_slot s.core.numbers.next slot)
          (others c s.core.slots (slots_below s.core.numbers.next s.core.slots is.slots.numbered))
          (subst (λ (first : ℕ). AreWritten (columns_in s.core.log) first c (flushed_files s.core.numbers.next slot.files)) ok.names.next (written c left)))
        where
          others : (c : Image) (slots : List (Slotted G)) → AllByRecursion (λ (z : Slotted G). AreBelow s.core.numbers.next z.files) slots → AllByRecursion (λ (z : Slotted G). AreWritten (columns_in s.core.log) s.core.numbers.next c z.files) slots
          others c [] all = tt
          others c (z ∷ zs) all = (below_written (columns_in s.core.log) s.core.numbers.next c z.files all.0, others c zs all.1)

      module _ (u : Stored D) (run : LeavesAlways d t u (BeforeOrAfter d edits t)) (opened : u.opened_faults ≡ t.opened_faults) (counted_then : Counted d t u) where
        run_is : LeavesOnly d.moment d.left_since t.disk u.disk (OldOrNew (d.may_leave t.disk) t.manifest.file (has_of t.manifest) (has_with t.manifest (flushed_state t.manifest n)))
        run_is = subst (λ (st : State). LeavesOnly d.moment d.left_since t.disk u.disk (OldOrNew (d.may_leave t.disk) t.manifest.file (has_of t.manifest) (has_with t.manifest st))) state_is run

        pub one_failed : u.manifest ≡ t.manifest → Follows d bytes (with_store s u) s
        one_failed = flush_failed d bytes counts_now s is lawful ok.names s.store.manifest.formed whole kept t named.manifest (named.kept kept) named.opened_faults counted.later staged
            (is_slot slot.id) (reached s.core) (reached_past s.core) (reached_no_lower s.core) (reached_within s.core is) all_written u run_is opened counted_then.later

        pub one_done : IsCommitted d edits t u → Follows d bytes (record { store = u; core = n; retired = s.retired }) s
        one_done done = flush_done d bytes counts_now s is lawful ok.names s.store.manifest.formed whole kept t named.manifest (named.kept kept) named.opened_faults counted.later staged
            (is_slot slot.id) (reached s.core) (reached_past s.core) (reached_no_lower s.core) (reached_within s.core is) all_written u run_is opened counted_then.later (becomes u done) done.kept
