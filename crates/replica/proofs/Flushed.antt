-- What a flush keeps, of any slots.
use Rattle.std.proofs.Common.{◌≡◌, ◌≢◌, ◌∙◌, inl, ℕ, ◌<◌, ◌≤◌, Bool, true, false, List, [], ◌∷◌, length, map, refl, sym, ap, subst, arith}
use Rattle.std.specs.Prelude.{◌||◌}
use Rattle.std.specs.List.{AllByRecursion, AllPairs, list_any}
use Rattle.flash_io.specs.Crash.{LeavesOnly}
use Rattle.flash_io.specs.Image.{Image}
use Rattle.flash_io.specs.declared.disk.Disk.{Ghosts}
use Rattle.flash_io.proofs.Moments.{weaken}
use Rattle.committed_log.specs.Lawful.{IsLawful}
use Rattle.good_state.specs.Good.{committed_set, segments_at}
use Rattle.good_state.proofs.Flushing.{flush_follows, flush_good}
use Rattle.log_laws.specs.Chains.{chain_at}
use Rattle.manifest.specs.Runs.{OldOrNew}
use Rattle.manifest.specs.Stores.{Becomes, Beneath, IsKept, has_of, has_with}
use Rattle.manifest.specs.declared.store.Manifest.{Manifest}
use Rattle.manifest_form.specs.States.{all_done, is_formed, with_segments}
use Rattle.manifest_form.specs.declared.state.Edit.TheVariants as edit
use Rattle.manifest_laws.proofs.Taking.{none_formed}
use Rattle.manifest_form.specs.declared.state.State.{State}
use Rattle.manifest_form.specs.declared.state.StoredSegment.{StoredSegment}
use Rattle.replica_state.specs.Changes.{with_flushes}
use Rattle.replica_state.specs.Core.{Core, IsCore}
use Rattle.replica_state.proofs.Flushes.{core_flushed, no_fewer_slots}
use Rattle.replica_store.specs.Naming.{is_file_in, is_file_of, is_number}
use Rattle.replica_store.specs.Store.{Stored, IsWhole}
use Rattle.segment_flush.specs.Flushing.{after_slots, flushed_slots}
use Rattle.segment_flush.specs.Names.{stored_of}
use Rattle.segment_list.specs.Slots.{Slotted}
use Rattle.store_image.specs.Images.{AreRegionsRead, AreSegmentsRead, IsCountOf, columns_in}
use Rattle.store_image.proofs.Frames.{own_low}
use Rattle.replica.specs.Follows.{Follows}
use Rattle.replica.specs.Learner.{HasNamed, IsLearner, IsPromised, Learner, Sound}
use Rattle.replica.specs.Names.{IsRetired, Names}
use Rattle.replica.specs.Steps.{flush_edits}
use Rattle.segment_staging.specs.Staging.{AreWritten, IsNamedIn}
use Rattle.replica.specs.declared.retired.Retired.{Retired}
use Rattle.segment_snapshot.specs.Rights.{stable_of}
use Rattle.segment_staging.proofs.Named.{slots_back, slots_still}
use Rattle.segment_staging.proofs.Reading.{slots_read}
use Rattle.segment_staging.proofs.Written.{beneath_named}
use Rattle.replica.proofs.Puts.{state_put}
use Rattle.replica.proofs.Staged.{has_named, images, named_now}
use Rattle.replica.proofs.Steps.{step_done, step_failed, with_store}

-- a state with these segments, Next and High
abbrev pub flushed_state : {G : Type 0} → Manifest → Core G → State
flushed_state m n = with_segments (record m.state { next = n.numbers.next; high = n.numbers.high; chain = chain_at n.log n.numbers.high }) (map stored_of n.slots)

module _ {D R G : Type 0} (d : Ghosts D R G) (bytes : G → List ℕ) (counts_now : (disk : D) (t : ℕ) (c : Image) → t ≤ d.moment disk → d.may_leave disk c → d.left_since disk t c)
    (s : Learner D G) (is : IsCore s.core) (lawful : IsLawful s.core.log) (names : Names (has_of s.store.manifest) s.core) (formed : is_formed s.store.manifest.file s.store.manifest.state ≡ true)
    (whole : IsWhole d s.store) (kept : IsKept (d.may_leave s.store.disk) s.store.manifest)
    (t : Stored D) (stays : t.manifest ≡ s.store.manifest) (kept_then : IsKept (d.may_leave t.disk) t.manifest)
    (opened_before : t.opened_faults ≡ s.store.opened_faults) (faults_before : d.fault_count s.store.disk ≤ d.fault_count t.disk)
    (staged : LeavesOnly d.moment d.left_since s.store.disk t.disk (Beneath s.core.numbers.next (d.may_leave s.store.disk)))
    (p : Slotted G → Bool) (high : ℕ) (past : s.core.highest ≤ high) (no_lower : s.core.numbers.high ≤ high) (within : high ≤ length s.core.log.entries)
    (written : (c : Image) → d.may_leave t.disk c → AllByRecursion (λ (z : Slotted G). AreWritten (columns_in s.core.log) s.core.numbers.next c z.files) (flushed_slots p s.core.numbers.next s.core.slots)) where
  abbrev n : Core G
  n = with_flushes p high s.core

  abbrev m : Manifest
  m = t.manifest

  fresh : s.store.manifest.state.next ≤ s.core.numbers.next
  fresh = omega (arith, names.next)

  pub names_before : Names (has_of m) s.core
  names_before = subst (λ (k : Manifest). Names (has_of k) s.core) (sym stays) names

  pub names_then : Names (has_with m (flushed_state m n)) n
  names_then = record { table = names_before.table; columns = names_before.columns; segments = refl; next = refl; high = refl; safe_point = names_before.safe_point; chain = refl }

  in_named : LeavesOnly d.moment d.left_since s.store.disk t.disk (IsNamedIn s.store.manifest (d.may_leave s.store.disk))
  in_named = weaken d.moment d.left_since s.store.disk t.disk _ _ staged (beneath_named s.store.manifest formed s.core.numbers.next fresh (d.may_leave s.store.disk))

  pub before : Sound d bytes s → LeavesOnly d.moment d.left_since s.store.disk t.disk (IsPromised s.core)
  before sound = weaken d.moment d.left_since s.store.disk t.disk _ _ in_named (images d bytes counts_now s whole kept sound)

  pub begun : Sound d bytes s → (c : Image) → d.may_leave t.disk c → IsPromised s.core c
  begun sound c left = images d bytes counts_now s whole kept sound c (named_now d bytes counts_now s whole kept t in_named c left)

  pub has : Sound d bytes s → (c : Image) → d.may_leave t.disk c → HasNamed bytes (with_store s t) c
  has sound c left =
      let it = has_named d bytes counts_now s whole kept sound c (named_now d bytes counts_now s whole kept t in_named c left) in
      record {
        segments = subst (λ (k : Manifest). AreSegmentsRead k.file c (columns_in s.core.log) k.state.segments (segments_at bytes s.core.committed s.core)) (sym stays) it.segments;
        regions = subst (λ (k : Manifest). AreRegionsRead k.file c s.core.log (committed_set s.core) k.state.regions) (sym stays) it.regions;
      }

  pub own_below : m.file < s.core.numbers.next
  own_below =
      let low = own_low s.store.manifest.file s.store.manifest.state formed in
      let file : m.file ≡ s.store.manifest.file = ap (λ (k : Manifest). k.file) stays in
      omega (arith, low, file, names.next)

  pub segments_then : Sound d bytes s → (c : Image) → d.may_leave t.disk c → AreSegmentsRead m.file c (columns_in s.core.log) (map stored_of n.slots) (segments_at bytes s.core.committed n)
  segments_then sound c left =
      slots_read (stable_of bytes) m.file c (columns_in s.core.log) s.core.numbers.next own_below s.core.committed (length s.core.listed) p s.core.numbers.next s.core.slots (omega arith) is.slots.order
      (subst (λ (ss : List StoredSegment). AreSegmentsRead m.file c (columns_in s.core.log) ss (segments_at bytes s.core.committed s.core)) names_before.segments (has sound c left).segments)
      (written c left)

  counted_then : Sound d bytes s → IsCountOf s.core.log (committed_set s.core) m.state.count
  counted_then sound = subst (λ (k : Manifest). IsCountOf s.core.log (committed_set s.core) k.state.count) (sym stays) sound.counted

  module _ (u : Stored D) (run : LeavesOnly d.moment d.left_since t.disk u.disk (OldOrNew (d.may_leave t.disk) m.file (has_of m) (has_with m (flushed_state m n))))
      (opened : u.opened_faults ≡ t.opened_faults) (faults : d.fault_count t.disk ≤ d.fault_count u.disk) where
    pub flush_failed : u.manifest ≡ m → Follows d bytes (with_store s u) s
    flush_failed = step_failed d bytes counts_now s t kept_then stays opened_before faults_before before begun has n (flushed_state m n)
        (flush_follows s.core is p high no_lower) is.sets.committed within names_then (flush_good bytes s.core is lawful p high past no_lower within) counted_then
        segments_then (λ sound c left. (has sound c left).regions) u run opened faults

    still : Becomes m (flushed_state m n) u.manifest → (file : ℕ) → is_file_in file s.store.manifest.state ≡ true → is_file_in file u.manifest.state ≡ true
    still becomes file named =
        subst (λ (st : State). is_file_in file st ≡ true) (sym becomes.state)
        (by (is_number file m.state.regions) (subst (λ (ss : List StoredSegment). (is_number file m.state.regions || list_any (is_file_of file) ss) ≡ true) names_before.segments (subst (λ (k : Manifest). is_file_in file k.state ≡ true) (sym stays) named)))
      where
        by : (b : Bool) → (b || list_any (is_file_of file) (map stored_of s.core.slots)) ≡ true → (b || list_any (is_file_of file) (map stored_of n.slots)) ≡ true
        by true e = refl
        by false e = slots_still file s.core.committed (length s.core.listed) p s.core.numbers.next s.core.slots is.slots.order e

    pub flush_done : Becomes m (flushed_state m n) u.manifest → IsKept (d.may_leave u.disk) u.manifest → Follows d bytes (record { store = u; core = n; retired = s.retired }) s
    flush_done becomes = step_done d bytes counts_now s t kept_then stays opened_before faults_before before begun has n (flushed_state m n)
        (flush_follows s.core is p high no_lower) is.sets.committed within names_then (flush_good bytes s.core is lawful p high past no_lower within) counted_then
        segments_then (λ sound c left. (has sound c left).regions) u run opened faults
        s.retired (λ it here. inl here) (λ file named. inl (still becomes file named)) becomes

-- ---- what the manifest names then

module _ {D G : Type 0} (s : Learner D G) (is : IsCore s.core) (ok : IsLearner s) (p : Slotted G → Bool) (high : ℕ) (m : Manifest) (stays : m ≡ s.store.manifest) (u : Manifest) (becomes : Becomes m (flushed_state m (with_flushes p high s.core)) u) where
  abbrev after : Core G
  after = with_flushes p high s.core

  was_named : (file : ℕ) → file < s.core.numbers.next → is_file_in file u.state ≡ true → is_file_in file s.store.manifest.state ≡ true
  was_named file low named =
      subst (λ (k : Manifest). is_file_in file k.state ≡ true) stays
      (subst (λ (ss : List StoredSegment). (is_number file m.state.regions || list_any (is_file_of file) ss) ≡ true) (sym (ap (λ (k : Manifest). k.state.segments) stays ∙ ok.names.segments))
      (by (is_number file m.state.regions) (subst (λ (st : State). is_file_in file st ≡ true) becomes.state named)))
    where
      by : (b : Bool) → (b || list_any (is_file_of file) (map stored_of after.slots)) ≡ true → (b || list_any (is_file_of file) (map stored_of s.core.slots)) ≡ true
      by true e = refl
      by false e = slots_back file s.core.committed (length s.core.listed) p s.core.numbers.next s.core.slots low is.slots.order e

  still_unnamed : (file : ℕ) → file < s.core.numbers.next → is_file_in file s.store.manifest.state ≡ false → is_file_in file u.state ≡ false
  still_unnamed file low out = by (is_file_in file u.state) refl
    where
      by : (b : Bool) → is_file_in file u.state ≡ b → b ≡ false
      by false e = refl
      by true e = sym (was_named file low e) ∙ out

  retired_then : (retired : List Retired) → AllByRecursion (IsRetired s.store.manifest s.core.numbers.generation) retired → AllByRecursion (IsRetired u s.core.numbers.generation) retired
  retired_then [] all = tt
  retired_then (it ∷ its) all = (
    record {
      unnamed = (let less = all.0.numbered in still_unnamed it.file (omega (arith, less, ok.names.next)) all.0.unnamed);
      numbered = (let less = all.0.numbered in let more = no_fewer_slots p s.core.numbers.next s.core.slots in let next : u.state.next ≡ after.numbers.next = ap (λ (st : State). st.next) becomes.state in omega (arith, less, ok.names.next, more, next));
      before = all.0.before;
    },
    retired_then its all.1,
  )

  pub learner_flushed : (store : Stored D) → store.manifest ≡ u → IsLearner (record { store = store; core = after; retired = s.retired })
  learner_flushed store same = record {
    names = subst (λ (k : Manifest). Names (has_of k) after) (sym same) (record {
      table = becomes.table ∙ ap (λ (k : Manifest). k.table) stays ∙ ok.names.table;
      columns = becomes.columns ∙ ap (λ (k : Manifest). k.columns) stays ∙ ok.names.columns;
      segments = ap (λ (st : State). st.segments) becomes.state;
      next = ap (λ (st : State). st.next) becomes.state;
      high = ap (λ (st : State). st.high) becomes.state;
      safe_point = ap (λ (st : State). st.safe_point) becomes.state ∙ ap (λ (k : Manifest). k.state.safe_point) stays ∙ ok.names.safe_point;
      chain = ap (λ (st : State). st.chain) becomes.state;
    });
    retired = subst (λ (k : Manifest). AllByRecursion (IsRetired k s.core.numbers.generation) s.retired) (sym same) (retired_then s.retired ok.retired);
  }

-- ---- the edits that name it

module _ {G : Type 0} (core : Core G) (is : IsCore core) (differ : AllPairs (λ a b. a.id ≢ b.id) core.slots) (p : Slotted G → Bool) (high : ℕ) (no_lower : core.numbers.high ≤ high) (within : high ≤ length core.log.entries)
    (m : Manifest) (names : Names (has_of m) core) where
  marked_formed : is_formed m.file (all_done m.state (edit.Next (after_slots p core.numbers.next core.slots) ∷ edit.High high (chain_at core.log high) ∷ [])) ≡ true
  marked_formed = none_formed m.file m.state (edit.Next (after_slots p core.numbers.next core.slots) ∷ edit.High high (chain_at core.log high) ∷ []) tt m.formed
      (let more = no_fewer_slots p core.numbers.next core.slots in omega (arith, names.next, more)) (tt, (tt, tt))

  pub edits_give : (all_done m.state (flush_edits p high core) ≡ flushed_state m (with_flushes p high core)) × (is_formed m.file (all_done m.state (flush_edits p high core)) ≡ true)
  edits_give = state_put m.file p core.numbers.next core.slots (all_done m.state (edit.Next (after_slots p core.numbers.next core.slots) ∷ edit.High high (chain_at core.log high) ∷ [])) names.segments marked_formed differ
      (core_flushed p core high is no_lower within).slots.numbered
