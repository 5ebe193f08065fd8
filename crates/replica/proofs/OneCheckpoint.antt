-- What a checkpoint keeps, from what its calls say.
use Rattle.std.proofs.Common.{◌≡◌, ◌≢◌, ◌∙◌, ℕ, ◌+◌, ◌<◌, ◌≤◌, true, List, [], ◌∷◌, ◌++◌, length, Option, Some, None, refl, sym, ap, subst, arith}
use Rattle.std.specs.List.{AllByRecursion, AllPairs}
use Rattle.committed_log.specs.Lawful.{IsLawful}
use Rattle.flash_io.specs.Crash.{Durable, LeavesOnly}
use Rattle.flash_io.specs.Image.{Image, Holds}
use Rattle.flash_io.specs.declared.disk.Disk.{Ghosts}
use Rattle.log_laws.specs.Chains.{chain_at}
use Rattle.manifest.specs.Runs.{OldOrNew}
use Rattle.manifest.specs.Stores.{Becomes, Beneath, has_of, has_with}
use Rattle.manifest.specs.declared.store.Manifest.{Manifest}
use Rattle.manifest_form.specs.States.{all_done, is_formed}
use Rattle.manifest_form.specs.declared.state.Edit.{Edit}
use Rattle.manifest_form.specs.declared.state.Edit.TheVariants as edit
use Rattle.manifest_form.specs.declared.state.State.{State}
use Rattle.manifest_laws.proofs.Taking.{none_formed}
use Rattle.region_table.specs.Opening.{IsFileOf}
use Rattle.region_table.specs.Table.{size_of}
use Rattle.replica_state.specs.Changes.{checkpointed}
use Rattle.replica_state.specs.Core.{Core, IsCore, full}
use Rattle.replica_state.proofs.Flushes.{core_checkpointed, no_fewer_slots}
use Rattle.replica_store.specs.Store.{BeforeOrAfter, Counted, IsCommitted, IsKeptOn, IsWhole, LeavesAlways, NamesNothing, Stored}
use Rattle.segment_flush.specs.Flushing.{after_slots, flushed_slots, has_more}
use Rattle.segment_list.specs.Slots.{Slotted}
use Rattle.segment_staging.specs.Staging.{AreWritten}
use Rattle.store_image.specs.Images.{columns_in}
use Rattle.replica.specs.Follows.{Follows}
use Rattle.replica.specs.Learner.{IsLearner, Learner}
use Rattle.replica.specs.Names.{Names}
use Rattle.replica.specs.Steps.{checkpoint_edits, freed, out_of_use, reached, risen}
use Rattle.replica.specs.declared.retired.Retired.{Retired}
use Rattle.replica.proofs.Applying.{with_same}
use Rattle.replica.proofs.Checkpointed.{checkpoint_done, checkpoint_failed, checkpoint_state, learner_checkpointed}
use Rattle.replica.proofs.Puts.{state_put}
use Rattle.replica.proofs.Reached.{reached_no_lower, reached_past, reached_within}
use Rattle.replica.proofs.Steps.{with_store}

-- ---- the generation then

pub no_younger : (generation : ℕ) (o : Option ℕ) → generation ≤ risen generation o
no_younger generation None = omega arith
no_younger generation (Some file) = omega arith

pub risen_by_one : (generation : ℕ) (o : Option ℕ) → risen generation o ≤ generation + 1
risen_by_one generation None = omega arith
risen_by_one generation (Some file) = omega arith

-- the numbers suffice for one more
pub risen_below : {G : Type 0} (core : Core G) → IsCore core → (region : ℕ) (o : Option ℕ) → region ≡ after_slots has_more core.numbers.next core.slots → risen core.numbers.generation o < region + 1
risen_below core is region o region_is =
    let less = is.numbers.generation in
    let more = no_fewer_slots has_more core.numbers.next core.slots in
    let one = risen_by_one core.numbers.generation o in
    omega (arith, less, more, one, region_is)

-- ---- the state that its edits make

module _ {G : Type 0} (core : Core G) (is : IsCore core) (differ : AllPairs (λ a b. a.id ≢ b.id) core.slots) (high : ℕ) (no_lower : core.numbers.high ≤ high) (within : high ≤ length core.log.entries)
    (m : Manifest) (names : Names (has_of m) core) (region : ℕ) (region_is : region ≡ after_slots has_more core.numbers.next core.slots) (o : Option ℕ) where
  abbrev n : Core G
  n = checkpointed (region + 1) high (risen core.numbers.generation o) core

  abbrev count : ℕ
  count = size_of core.log (full core)

  abbrev marks : List Edit
  marks = edit.Next (region + 1) ∷ edit.High high (chain_at core.log high) ∷ edit.Regions region ∷ edit.Count count ∷ []

  marked_formed : is_formed m.file (all_done m.state marks) ≡ true
  marked_formed = none_formed m.file m.state marks tt m.formed
      (let more = no_fewer_slots has_more core.numbers.next core.slots in omega (arith, names.next, more, region_is)) (tt, (tt, (omega arith, (tt, tt))))

  pub checkpoint_gives : (all_done m.state (checkpoint_edits (region + 1) high region core) ≡ checkpoint_state m n region count) × (is_formed m.file (all_done m.state (checkpoint_edits (region + 1) high region core)) ≡ true)
  checkpoint_gives = state_put m.file has_more core.numbers.next core.slots (all_done m.state marks) names.segments marked_formed differ
      (core_checkpointed core (region + 1) high (risen core.numbers.generation o) is (omega (arith, region_is)) no_lower within (no_younger core.numbers.generation o) (risen_below core is region o region_is)).slots.numbered

-- ---- the step

module _ {D R G : Type 0} (d : Ghosts D R G) (bytes : G → List ℕ) (counts_now : (disk : D) (t : ℕ) (c : Image) → t ≤ d.moment disk → d.may_leave disk c → d.left_since disk t c)
    (s : Learner D G) (is : IsCore s.core) (lawful : IsLawful s.core.log) (ok : IsLearner s) (whole : IsWhole d s.store) (kept : IsKeptOn d s.store)
    (t : Stored D) (named : NamesNothing d s.store t) (counted : Counted d s.store t)
    (differ : AllPairs (λ a b. a.id ≢ b.id) s.core.slots) (region : ℕ) (region_is : region ≡ after_slots has_more s.core.numbers.next s.core.slots)
    (edits : List Edit) (edits_are : edits ≡ checkpoint_edits (region + 1) (reached s.core) region s.core) where
  abbrev now : Core G
  now = checkpointed (region + 1) (reached s.core) (risen s.core.numbers.generation (freed s)) s.core

  abbrev all : ℕ
  all = size_of s.core.log (full s.core)

  names_then : Names (has_of t.manifest) s.core
  names_then = subst (λ (k : Manifest). Names (has_of k) s.core) (sym named.manifest) ok.names

  give : (all_done t.manifest.state (checkpoint_edits (region + 1) (reached s.core) region s.core) ≡ checkpoint_state t.manifest now region all) × (is_formed t.manifest.file (all_done t.manifest.state (checkpoint_edits (region + 1) (reached s.core) region s.core)) ≡ true)
  give = checkpoint_gives s.core is differ (reached s.core) (reached_no_lower s.core) (reached_within s.core is) t.manifest names_then region region_is (freed s)

  state_is : all_done t.manifest.state edits ≡ checkpoint_state t.manifest now region all
  state_is = ap (all_done t.manifest.state) edits_are ∙ give.0

  pub formed_then : is_formed t.manifest.file (all_done t.manifest.state edits) ≡ true
  formed_then = ap (λ (es : List Edit). is_formed t.manifest.file (all_done t.manifest.state es)) edits_are ∙ give.1

  becomes : (u : Stored D) → IsCommitted d edits t u → Becomes t.manifest (checkpoint_state t.manifest now region all) u.manifest
  becomes u done = subst (λ (st : State). Becomes t.manifest st u.manifest) state_is done.manifest

  abbrev pub after : Stored D → Learner D G
  after u = record { store = u; core = now; retired = s.retired ++ out_of_use s.core.numbers.generation (freed s) }

  pub all_learner : (u : Stored D) → IsCommitted d edits t u → IsLearner (after u)
  all_learner u done = learner_checkpointed s is ok s.store.manifest.formed (reached s.core) region all region_is t.manifest named.manifest u.manifest (becomes u done) u refl

  module _ (staged : LeavesAlways d s.store t (Beneath s.core.numbers.next (d.may_leave s.store.disk)))
      (written : (c : Image) → d.may_leave t.disk c → AllByRecursion (λ (z : Slotted G). AreWritten (columns_in s.core.log) s.core.numbers.next c z.files) (flushed_slots has_more s.core.numbers.next s.core.slots))
      (regions : List ℕ) (region_file : IsFileOf s.core.log (full s.core) regions) (durable : Durable region regions (d.may_leave t.disk))
      (u : Stored D) (run : LeavesAlways d t u (BeforeOrAfter d edits t)) (opened : u.opened_faults ≡ t.opened_faults) (counted_then : Counted d t u) where
    regions_written : (c : Image) → d.may_leave t.disk c → (text : List ℕ) × Holds c region text × IsFileOf s.core.log (full s.core) text
    regions_written c left = (regions, durable c left, region_file)

    run_is : LeavesOnly d.moment d.left_since t.disk u.disk (OldOrNew (d.may_leave t.disk) t.manifest.file (has_of t.manifest) (has_with t.manifest (checkpoint_state t.manifest now region all)))
    run_is = subst (λ (st : State). LeavesOnly d.moment d.left_since t.disk u.disk (OldOrNew (d.may_leave t.disk) t.manifest.file (has_of t.manifest) (has_with t.manifest st))) state_is run

    pub all_failed : u.manifest ≡ t.manifest → Follows d bytes (with_store s u) s
    all_failed = checkpoint_failed d bytes counts_now s is lawful ok.names s.store.manifest.formed whole kept t named.manifest (named.kept kept) named.opened_faults counted.later staged
        (reached s.core) (reached_past s.core) (reached_no_lower s.core) (reached_within s.core is) written region region_is all refl regions_written u run_is opened counted_then.later

    pub all_finished : IsCommitted d edits t u → Follows d bytes (after u) s
    all_finished done = checkpoint_done d bytes counts_now s is lawful ok.names s.store.manifest.formed whole kept t named.manifest (named.kept kept) named.opened_faults counted.later staged
        (reached s.core) (reached_past s.core) (reached_no_lower s.core) (reached_within s.core is) written region region_is all refl regions_written u run_is opened counted_then.later (becomes u done) done.kept

-- ---- the same values under other names

module _ {D R G : Type 0} where
  pub same_retired : {d : Ghosts D R G} {bytes : G → List ℕ} {s : Learner D G} {store : Stored D} {core : Core G} {new old : List Retired} → new ≡ old → Follows d bytes (record { store = store; core = core; retired = old }) s → Follows d bytes (record { store = store; core = core; retired = new }) s
  same_retired {d = d} {bytes = bytes} {s = s} {store = store} {core = core} is follows = subst (λ (l : List Retired). Follows d bytes (record { store = store; core = core; retired = l }) s) (sym is) follows

  pub same_both : {d : Ghosts D R G} {bytes : G → List ℕ} {s : Learner D G} {store : Stored D} {core other : Core G} {new old : List Retired} → core ≡ other → new ≡ old → Follows d bytes (record { store = store; core = other; retired = old }) s → Follows d bytes (record { store = store; core = core; retired = new }) s
  same_both is same follows = with_same is (same_retired same follows)
