-- What a checkpoint keeps.
use Rattle.std.proofs.Common.{◌≡◌, ◌∙◌, inl, inr, ℕ, ◌+◌, ◌<◌, ◌≤◌, Bool, true, false, List, [], ◌∷◌, ◌++◌, length, map, Option, Some, None, refl, sym, ap, subst, arith}
use Rattle.std.specs.Prelude.{◌||◌, ◌==◌, not}
use Rattle.std.specs.List.{AllByRecursion, Contains, list_any}
use Rattle.flash_io.specs.Crash.{LeavesOnly}
use Rattle.flash_io.specs.Image.{Image, Holds}
use Rattle.flash_io.specs.declared.disk.Disk.{Ghosts}
use Rattle.committed_log.specs.Lawful.{IsLawful}
use Rattle.good_state.specs.Good.{committed_set, segments_at}
use Rattle.good_state.proofs.Checking.{checked_follows, checked_good, checked_named, checked_set}
use Rattle.log_laws.specs.Chains.{chain_at}
use Rattle.manifest.specs.Runs.{OldOrNew}
use Rattle.manifest.specs.Stores.{Becomes, Beneath, IsKept, has_of, has_with}
use Rattle.manifest.specs.declared.store.Manifest.{Manifest}
use Rattle.manifest_form.specs.States.{is_formed, with_segments}
use Rattle.manifest_form.specs.declared.state.State.{State}
use Rattle.manifest_form.specs.declared.state.StoredSegment.{StoredSegment}
use Rattle.region_table.specs.Opening.{IsFileOf}
use Rattle.region_table.specs.Table.{size_of}
use Rattle.replica_state.specs.Changes.{checkpointed}
use Rattle.replica_state.specs.Core.{Core, IsCore, full}
use Rattle.replica_state.proofs.Flushes.{all_named, no_fewer_slots}
use Rattle.replica_store.specs.Naming.{is_file_in, is_file_of, is_number}
use Rattle.replica_store.specs.Store.{Stored, IsWhole}
use Rattle.segment_flush.specs.Flushing.{after_slots, flushed_slots, has_more}
use Rattle.segment_flush.specs.Names.{stored_of}
use Rattle.segment_list.specs.Slots.{Slotted}
use Rattle.store_image.specs.Images.{AreRegionsRead, AreSegmentsRead, IsCountOf, columns_in}
use Rattle.replica.specs.Follows.{Follows, StaysOrRetires}
use Rattle.replica.specs.Learner.{IsLearner, Learner, Sound}
use Rattle.replica.specs.Names.{IsRetired, Names}
use Rattle.segment_staging.specs.Staging.{AreWritten}
use Rattle.std.proofs.lemmas.List.Elements.{Contains-append_left, Contains-append_right}
use Rattle.store_image.proofs.Frames.{file_low}
use Rattle.replica.specs.Steps.{freed, freed_of, if_freed, out_of_use, risen}
use Rattle.replica.specs.declared.retired.Retired.{Retired}
use Rattle.replica.proofs.Flushed.{before, begun, has, names_before, own_below, segments_then}
use Rattle.segment_staging.proofs.Named.{number_same, slots_back, slots_still}
use Rattle.replica.proofs.Steps.{step_done, step_failed, with_store}

-- a state with these segments, Next and High, and this region file
abbrev pub checkpoint_state : {G : Type 0} → Manifest → Core G → (region count : ℕ) → State
checkpoint_state m n region count = with_segments (record m.state { next = n.numbers.next; high = n.numbers.high; chain = chain_at n.log n.numbers.high; regions = Some region; count = Some count }) (map stored_of n.slots)

contains_one : {X : Type 0} (x : X) → Contains (x ∷ []) x
contains_one x = (0, omega arith, refl)

module _ {D R G : Type 0} (d : Ghosts D R G) (bytes : G → List ℕ) (counts_now : (disk : D) (t : ℕ) (c : Image) → t ≤ d.moment disk → d.may_leave disk c → d.left_since disk t c)
    (s : Learner D G) (is : IsCore s.core) (lawful : IsLawful s.core.log) (names : Names (has_of s.store.manifest) s.core) (formed : is_formed s.store.manifest.file s.store.manifest.state ≡ true)
    (whole : IsWhole d s.store) (kept : IsKept (d.may_leave s.store.disk) s.store.manifest)
    (t : Stored D) (stays : t.manifest ≡ s.store.manifest) (kept_then : IsKept (d.may_leave t.disk) t.manifest)
    (opened_before : t.opened_faults ≡ s.store.opened_faults) (faults_before : d.fault_count s.store.disk ≤ d.fault_count t.disk)
    (staged : LeavesOnly d.moment d.left_since s.store.disk t.disk (Beneath s.core.numbers.next (d.may_leave s.store.disk)))
    (high : ℕ) (past : s.core.highest ≤ high) (no_lower : s.core.numbers.high ≤ high) (within : high ≤ length s.core.log.entries)
    (written : (c : Image) → d.may_leave t.disk c → AllByRecursion (λ (z : Slotted G). AreWritten (columns_in s.core.log) s.core.numbers.next c z.files) (flushed_slots has_more s.core.numbers.next s.core.slots))
    (region : ℕ) (region_is : region ≡ after_slots has_more s.core.numbers.next s.core.slots) (count : ℕ) (count_is : count ≡ size_of s.core.log (full s.core))
    (regions_written : (c : Image) → d.may_leave t.disk c → (text : List ℕ) × Holds c region text × IsFileOf s.core.log (full s.core) text) where
  abbrev pub generation : ℕ
  generation = risen s.core.numbers.generation (freed s)

  abbrev pub n : Core G
  n = checkpointed (region + 1) high generation s.core

  abbrev m : Manifest
  m = t.manifest

  abbrev state : State
  state = checkpoint_state m n region count

  above : after_slots has_more s.core.numbers.next s.core.slots < region + 1
  above = omega (arith, region_is)

  no_younger : (o : Option ℕ) → s.core.numbers.generation ≤ risen s.core.numbers.generation o
  no_younger None = omega arith
  no_younger (Some file) = omega arith

  begins : Names (has_of m) s.core
  begins = names_before d bytes counts_now s is lawful names formed whole kept t stays kept_then opened_before faults_before staged has_more high past no_lower within written

  pub names_checked : Names (has_with m state) n
  names_checked = record { table = begins.table; columns = begins.columns; segments = refl; next = refl; high = refl; safe_point = begins.safe_point; chain = refl }

  set_is : committed_set n ≡ full s.core
  set_is = checked_set s.core is (region + 1) high generation

  segments_checked : Sound d bytes s → (c : Image) → d.may_leave t.disk c → AreSegmentsRead m.file c (columns_in n.log) state.segments (segments_at bytes n.committed n)
  segments_checked sound c left =
      subst (AreSegmentsRead m.file c (columns_in s.core.log) (map stored_of n.slots)) (checked_named bytes n (all_named s.core.numbers.next s.core.slots) s.core.committed n.committed)
      (segments_then d bytes counts_now s is lawful names formed whole kept t stays kept_then opened_before faults_before staged has_more high past no_lower within written sound c left)

  regions_checked : Sound d bytes s → (c : Image) → d.may_leave t.disk c → AreRegionsRead m.file c n.log (committed_set n) state.regions
  regions_checked sound c left =
      let it = regions_written c left in
      let low = own_below d bytes counts_now s is lawful names formed whole kept t stays kept_then opened_before faults_before staged has_more high past no_lower within written in
      let more = no_fewer_slots has_more s.core.numbers.next s.core.slots in
      subst (λ (A : ℕ → Bool). AreRegionsRead m.file c s.core.log A (Some region)) (sym set_is)
      ((λ same. omega (arith, same, region_is, more, low)), (λ same. omega (arith, same, region_is, more, low)), (it.0, it.1, it.2))

  counted_checked : IsCountOf n.log (committed_set n) (Some count)
  counted_checked = subst (λ (A : ℕ → Bool). IsCountOf s.core.log A (Some count)) (sym set_is) count_is

  module _ (u : Stored D) (run : LeavesOnly d.moment d.left_since t.disk u.disk (OldOrNew (d.may_leave t.disk) m.file (has_of m) (has_with m state)))
      (opened : u.opened_faults ≡ t.opened_faults) (faults : d.fault_count t.disk ≤ d.fault_count u.disk) where
    pub checkpoint_failed : u.manifest ≡ m → Follows d bytes (with_store s u) s
    checkpoint_failed = step_failed d bytes counts_now s t kept_then stays opened_before faults_before
        (before d bytes counts_now s is lawful names formed whole kept t stays kept_then opened_before faults_before staged has_more high past no_lower within written)
        (begun d bytes counts_now s is lawful names formed whole kept t stays kept_then opened_before faults_before staged has_more high past no_lower within written)
        (has d bytes counts_now s is lawful names formed whole kept t stays kept_then opened_before faults_before staged has_more high past no_lower within written)
        n state (checked_follows s.core is (region + 1) high generation above no_lower (no_younger (freed s))) (omega arith) within names_checked
        (checked_good s.core is (region + 1) high generation bytes lawful past no_lower within) (λ sound. counted_checked)
        segments_checked regions_checked u run opened faults

    abbrev retired : List Retired
    retired = s.retired ++ out_of_use s.core.numbers.generation (freed s)

    abbrev new : Learner D G
    new = record { store = u; core = n; retired = retired }

    module _ (becomes : Becomes m state u.manifest) where
      in_segments : (file : ℕ) → list_any (is_file_of file) (map stored_of s.core.slots) ≡ true → is_file_in file u.manifest.state ≡ true
      in_segments file named =
          subst (λ (st : State). is_file_in file st ≡ true) (sym becomes.state)
          (or_after (is_number file (Some region)) _ (slots_still file s.core.committed (length s.core.listed) has_more s.core.numbers.next s.core.slots is.slots.order named))
        where
          or_after : (a b : Bool) → b ≡ true → (a || b) ≡ true
          or_after true b e = refl
          or_after false b e = e

      -- the older region file goes out of use, if no segment names it
      old_region : (file : ℕ) → s.store.manifest.state.regions ≡ Some file → StaysOrRetires new s file
      old_region file is_old = by (list_any (is_file_of file) (map stored_of s.core.slots)) refl
        where
          by : (b : Bool) → list_any (is_file_of file) (map stored_of s.core.slots) ≡ b → StaysOrRetires new s file
          by true e = inl (in_segments file e)
          by false e =
              let goes : freed s ≡ Some file = ap (freed_of s) is_old ∙ ap (λ (b : Bool). if_freed (not b) file) e in
              inr (inl (record {
                it = record { file = file; generation = s.core.numbers.generation };
                there = Contains-append_right s.retired (out_of_use s.core.numbers.generation (freed s)) _ (subst (λ (o : Option ℕ). Contains (out_of_use s.core.numbers.generation o) (record { file = file; generation = s.core.numbers.generation })) (sym goes) (contains_one _));
                same = refl;
                since = omega arith;
              }))

      files : (file : ℕ) → is_file_in file s.store.manifest.state ≡ true → StaysOrRetires new s file
      files file named = by s.store.manifest.state.regions refl
          (subst (λ (ss : List StoredSegment). (is_number file s.store.manifest.state.regions || list_any (is_file_of file) ss) ≡ true) names.segments named)
        where
          by : (o : Option ℕ) → s.store.manifest.state.regions ≡ o → (is_number file s.store.manifest.state.regions || list_any (is_file_of file) (map stored_of s.core.slots)) ≡ true → StaysOrRetires new s file
          by None e it = inl (in_segments file (subst (λ (o : Option ℕ). (is_number file o || list_any (is_file_of file) (map stored_of s.core.slots)) ≡ true) e it))
          by (Some other) e it = which (other == file) refl (subst (λ (o : Option ℕ). (is_number file o || list_any (is_file_of file) (map stored_of s.core.slots)) ≡ true) e it)
            where
              which : (b : Bool) → (other == file) ≡ b → (b || list_any (is_file_of file) (map stored_of s.core.slots)) ≡ true → StaysOrRetires new s file
              which true same h = old_region file (e ∙ ap (λ (k : ℕ). Some k) (number_same other file same))
              which false same h = inl (in_segments file h)

      pub checkpoint_done : IsKept (d.may_leave u.disk) u.manifest → Follows d bytes new s
      checkpoint_done = step_done d bytes counts_now s t kept_then stays opened_before faults_before
          (before d bytes counts_now s is lawful names formed whole kept t stays kept_then opened_before faults_before staged has_more high past no_lower within written)
          (begun d bytes counts_now s is lawful names formed whole kept t stays kept_then opened_before faults_before staged has_more high past no_lower within written)
          (has d bytes counts_now s is lawful names formed whole kept t stays kept_then opened_before faults_before staged has_more high past no_lower within written)
          n state (checked_follows s.core is (region + 1) high generation above no_lower (no_younger (freed s))) (omega arith) within names_checked
          (checked_good s.core is (region + 1) high generation bytes lawful past no_lower within) (λ sound. counted_checked)
          segments_checked regions_checked u run opened faults
          retired (λ it here. inl (Contains-append_left s.retired (out_of_use s.core.numbers.generation (freed s)) it here)) files becomes

-- ---- what the manifest names then

module _ {D G : Type 0} (s : Learner D G) (is : IsCore s.core) (ok : IsLearner s) (formed : is_formed s.store.manifest.file s.store.manifest.state ≡ true) (high region count : ℕ) (region_is : region ≡ after_slots has_more s.core.numbers.next s.core.slots)
    (m : Manifest) (stays : m ≡ s.store.manifest) (u : Manifest) (becomes : Becomes m (checkpoint_state m (checkpointed (region + 1) high (risen s.core.numbers.generation (freed s)) s.core) region count) u) where
  abbrev after : Core G
  after = checkpointed (region + 1) high (risen s.core.numbers.generation (freed s)) s.core

  -- a number below Next is that of no new file
  unnamed : (file : ℕ) → file < s.core.numbers.next → list_any (is_file_of file) (map stored_of s.core.slots) ≡ false → is_file_in file u.state ≡ false
  unnamed file low out = ap (is_file_in file) becomes.state ∙ by (region == file) refl (list_any (is_file_of file) (map stored_of after.slots)) refl
    where
      by : (b : Bool) → (region == file) ≡ b → (t : Bool) → list_any (is_file_of file) (map stored_of after.slots) ≡ t → (b || t) ≡ false
      by true same t e = (let equal = number_same region file same in let more = no_fewer_slots has_more s.core.numbers.next s.core.slots in absurd (omega (arith, equal, region_is, more, low)))
      by false same true e = sym (slots_back file s.core.committed (length s.core.listed) has_more s.core.numbers.next s.core.slots low is.slots.order e) ∙ out
      by false same false e = refl

  not_in_segments : (file : ℕ) → is_file_in file s.store.manifest.state ≡ false → list_any (is_file_of file) (map stored_of s.core.slots) ≡ false
  not_in_segments file out = or_second (is_number file s.store.manifest.state.regions) _ (sym (ap (λ (ss : List StoredSegment). is_number file s.store.manifest.state.regions || list_any (is_file_of file) ss) ok.names.segments) ∙ out)
    where
      or_second : (a b : Bool) → (a || b) ≡ false → b ≡ false
      or_second true b e = absurd (cc e)
      or_second false b e = e

  next_is : u.state.next ≡ region + 1
  next_is = ap (λ (st : State). st.next) becomes.state

  older : (generation : ℕ) → s.core.numbers.generation ≤ generation → (retired : List Retired) → AllByRecursion (IsRetired s.store.manifest s.core.numbers.generation) retired → AllByRecursion (IsRetired u generation) retired
  older generation le [] all = tt
  older generation le (it ∷ its) all = (
    record {
      unnamed = (let less = all.0.numbered in unnamed it.file (omega (arith, less, ok.names.next)) (not_in_segments it.file all.0.unnamed));
      numbered = (let less = all.0.numbered in let more = no_fewer_slots has_more s.core.numbers.next s.core.slots in omega (arith, less, ok.names.next, more, region_is, next_is));
      before = (let less = all.0.before in omega (arith, less, le));
    },
    older generation le its all.1,
  )

  all_append : (generation : ℕ) (xs ys : List Retired) → AllByRecursion (IsRetired u generation) xs → AllByRecursion (IsRetired u generation) ys → AllByRecursion (IsRetired u generation) (xs ++ ys)
  all_append generation [] ys a b = b
  all_append generation (x ∷ xs) ys a b = (a.0, all_append generation xs ys a.1 b)

  newer : (o : Option ℕ) → s.store.manifest.state.regions ≡ o → AllByRecursion (IsRetired u (risen s.core.numbers.generation (freed_of s o))) (s.retired ++ out_of_use s.core.numbers.generation (freed_of s o))
  newer None e = all_append s.core.numbers.generation s.retired [] (older s.core.numbers.generation (omega arith) s.retired ok.retired) tt
  newer (Some file) e = by (list_any (is_file_of file) (map stored_of s.core.slots)) refl
    where
      of_test : Bool → Option ℕ
      of_test b = if_freed (not b) file

      below_next : file < s.core.numbers.next
      below_next = (let low = file_low s.store.manifest.file s.store.manifest.state file formed (subst (λ (o : Option ℕ). (is_number file o || list_any (is_file_of file) s.store.manifest.state.segments) ≡ true) (sym e) (or_first (file == file) _ (itself file))) in omega (arith, low, ok.names.next))
        where
          or_first : (a b : Bool) → a ≡ true → (a || b) ≡ true
          or_first true b h = refl
          or_first false b h = absurd (cc h)

          itself : (k : ℕ) → (k == k) ≡ true
          itself k = grind arith

      by : (b : Bool) → list_any (is_file_of file) (map stored_of s.core.slots) ≡ b → AllByRecursion (IsRetired u (risen s.core.numbers.generation (if_freed (not (list_any (is_file_of file) (map stored_of s.core.slots))) file))) (s.retired ++ out_of_use s.core.numbers.generation (if_freed (not (list_any (is_file_of file) (map stored_of s.core.slots))) file))
      by true h = subst (λ (b : Bool). AllByRecursion (IsRetired u (risen s.core.numbers.generation (if_freed (not b) file))) (s.retired ++ out_of_use s.core.numbers.generation (if_freed (not b) file))) (sym h)
          (all_append s.core.numbers.generation s.retired [] (older s.core.numbers.generation (omega arith) s.retired ok.retired) tt)
      by false h = subst (λ (b : Bool). AllByRecursion (IsRetired u (risen s.core.numbers.generation (if_freed (not b) file))) (s.retired ++ out_of_use s.core.numbers.generation (if_freed (not b) file))) (sym h)
          (all_append (s.core.numbers.generation + 1) s.retired _ (older (s.core.numbers.generation + 1) (omega arith) s.retired ok.retired) (
            record {
              unnamed = unnamed file below_next h;
              numbered = (let more = no_fewer_slots has_more s.core.numbers.next s.core.slots in omega (arith, below_next, more, region_is, next_is));
              before = omega arith;
            },
            tt,
          ))

  pub learner_checkpointed : (store : Stored D) → store.manifest ≡ u → IsLearner (record { store = store; core = after; retired = s.retired ++ out_of_use s.core.numbers.generation (freed s) })
  learner_checkpointed store same = record {
    names = subst (λ (k : Manifest). Names (has_of k) after) (sym same) (record {
      table = becomes.table ∙ ap (λ (k : Manifest). k.table) stays ∙ ok.names.table;
      columns = becomes.columns ∙ ap (λ (k : Manifest). k.columns) stays ∙ ok.names.columns;
      segments = ap (λ (st : State). st.segments) becomes.state;
      next = ap (λ (st : State). st.next) becomes.state;
      high = ap (λ (st : State). st.high) becomes.state;
      safe_point = ap (λ (st : State). st.safe_point) becomes.state ∙ ap (λ (k : Manifest). k.state.safe_point) stays ∙ ok.names.safe_point;
      chain = ap (λ (st : State). st.chain) becomes.state;
    });
    retired = subst (λ (k : Manifest). AllByRecursion (IsRetired k (risen s.core.numbers.generation (freed s))) (s.retired ++ out_of_use s.core.numbers.generation (freed s))) (sym same) (newer s.store.manifest.state.regions refl);
  }
