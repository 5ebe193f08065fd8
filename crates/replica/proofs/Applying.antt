-- What a step in memory alone keeps, and an apply.
use Rattle.std.proofs.Common.{◌≡◌, ◌∙◌, inl, ℕ, ◌+◌, Bool, List, [], ◌∷◌, length, map, Option, Some, None, refl, sym, ap, subst, arith}
use Rattle.std.specs.List.{AllByRecursion, filter_map}
use Rattle.std.proofs.lemmas.List.{take-append-le}
use Rattle.column_block.specs.declared.cell.Version.{Version}
use Rattle.column_file.specs.declared.file.ColumnFile.{ColumnFile}
use Rattle.flash_io.specs.Image.{Image}
use Rattle.flash_io.specs.declared.disk.Disk.{Ghosts}
use Rattle.flash_io.proofs.Moments.{started}
use Rattle.flash_types.specs.declared.range.HandleRange.{HandleRange}
use Rattle.committed_log.specs.Lawful.{IsLawful}
use Rattle.committed_log.specs.Log.{Log}
use Rattle.good_state.specs.Follows.{StateFollows}
use Rattle.good_state.specs.Good.{IsGoodState, committed_set, segments_at}
use Rattle.good_state.proofs.Applying.{all_tagged, applied_committed, applied_follows, applied_good, applied_named}
use Rattle.manifest.specs.Stores.{has_of}
use Rattle.manifest_form.specs.declared.recover.Recovered.{Recovered}
use Rattle.manifest_form.specs.declared.state.StoredSegment.{StoredSegment}
use Rattle.replica_state.specs.Applying.{HasApplied}
use Rattle.replica_state.specs.Core.{Core, IsCore}
use Rattle.replica_store.specs.Store.{Stored}
use Rattle.segment_list.specs.Slots.{Slotted, IsTagged, absorbed, added_file, cleared_file, pushed_some}
use Rattle.segment_list.proofs.Telling.{stays_tagged}
use Rattle.store_image.specs.Images.{AreRegionsRead, AreSegmentsRead, IsCountOf, StandsAtLeast, columns_in}
use Rattle.replica.specs.Follows.{Follows}
use Rattle.replica.specs.Learner.{HasNamed, IsLearner, IsPromised, Learner}
use Rattle.replica.specs.Names.{IsRetired, Names, name_of, stored_of}
use Rattle.replica.specs.declared.retired.Retired.{Retired}

module _ {D G : Type 0} where
  abbrev pub with_core : Learner D G → Core G → Learner D G
  with_core r core = record { store = r.store; core = core; retired = r.retired }

-- ---- a step that neither writes nor changes what is committed

module _ {D R G : Type 0} (d : Ghosts D R G) (bytes : G → List ℕ) (only_now : (disk : D) (c : Image) → d.left_since disk (d.moment disk) c → d.may_leave disk c) (r : Learner D G) (n : Core G)
    (follows : StateFollows n r.core) (good : IsGoodState bytes r.core → IsGoodState bytes n) (committed : committed_set n ≡ committed_set r.core) (named : segments_at bytes n.committed n ≡ segments_at bytes r.core.committed r.core)
    (safe_point : n.numbers.safe_point ≡ r.core.numbers.safe_point) where
  promised_same : (c : Image) → IsPromised r.core c → IsPromised n c
  promised_same c it =
      subst (λ (l : Log). StandsAtLeast l (committed_set n) n.numbers.safe_point c) (sym follows.log)
      (subst (λ (A : ℕ → Bool). StandsAtLeast r.core.log A n.numbers.safe_point c) (sym committed)
      (subst (λ (ts : ℕ). StandsAtLeast r.core.log (committed_set r.core) ts c) (sym safe_point) it))

  named_same : (c : Image) → HasNamed bytes r c → HasNamed bytes (with_core r n) c
  named_same c has = record {
    segments = subst (λ (l : Log). AreSegmentsRead r.store.manifest.file c (columns_in l) r.store.manifest.state.segments (segments_at bytes n.committed n)) (sym follows.log)
        (subst (AreSegmentsRead r.store.manifest.file c (columns_in r.core.log) r.store.manifest.state.segments) (sym named) has.segments);
    regions = subst (λ (l : Log). AreRegionsRead r.store.manifest.file c l (committed_set n) r.store.manifest.state.regions) (sym follows.log)
        (subst (λ (A : ℕ → Bool). AreRegionsRead r.store.manifest.file c r.core.log A r.store.manifest.state.regions) (sym committed) has.regions);
  }

  pub memory_follows : Follows d bytes (with_core r n) r
  memory_follows = record {
    opened_faults = refl;
    faults = omega arith;
    core = follows;
    retired = λ it here. inl here;
    files = λ file is. inl is;
    sound = λ sound. record {
      memory = good sound.memory;
      counted = subst (λ (l : Log). IsCountOf l (committed_set n) r.store.manifest.state.count) (sym follows.log)
          (subst (λ (A : ℕ → Bool). IsCountOf r.core.log A r.store.manifest.state.count) (sym committed) sound.counted);
      images = λ c left. promised_same c (sound.images c left);
      named = λ whole c left. named_same c (sound.named whole c left);
    };
    moments = λ sound. started d.moment d.left_since r.store.disk _ (λ c left. sound.images c (only_now r.store.disk c left));
  }

-- ---- an entry

module _ {G : Type 0} where
  some_stored : (tag : ℕ) (o : Option ColumnFile) (s : Slotted G) → IsTagged s → stored_of (pushed_some tag o s) ≡ stored_of s
  some_stored tag None s is = refl
  some_stored tag (Some f) s is = ap (λ (fs : List ColumnFile). with_files s fs) (take-append-le s.named s.files (f ∷ []) (omega (arith, is)))
    where
      with_files : Slotted G → List ColumnFile → StoredSegment
      with_files s fs = record { id = s.id; range = s.range; stable = s.stable_number; delta = filter_map name_of fs }

  absorbed_stored : (tag : ℕ) (clears : Option HandleRange) (adds : List Version) (slots : List (Slotted G)) → AllByRecursion (λ (s : Slotted G). IsTagged s) slots → map stored_of (map (absorbed tag clears adds) slots) ≡ map stored_of slots
  absorbed_stored tag clears adds [] all = refl
  absorbed_stored tag clears adds (s ∷ ss) all =
      let first = pushed_some tag (cleared_file s.range clears) s in
      let one : stored_of (absorbed tag clears adds s) ≡ stored_of s = some_stored tag (added_file s.range adds) first (stays_tagged tag (cleared_file s.range clears) s all.0) ∙ some_stored tag (cleared_file s.range clears) s all.0 in
      λ i. one i ∷ absorbed_stored tag clears adds ss all.1 i

module _ {G : Type 0} (has : Recovered) (old new : Core G) (p : ℕ) (is : IsCore old) (it : HasApplied old p new) where
  pub names_applied : Names has old → Names has new
  names_applied names = subst (Names has) (sym it.same) (record {
    segments = names.segments ∙ sym (absorbed_stored (length old.listed + 1) _ _ old.slots (all_tagged old.committed (length old.listed) old.slots is.slots.order));
    next = names.next;
    high = names.high;
    safe_point = names.safe_point;
    table = names.table;
    columns = names.columns;
    chain = names.chain;
  })

module _ {D R G : Type 0} (d : Ghosts D R G) (bytes : G → List ℕ) (only_now : (disk : D) (c : Image) → d.left_since disk (d.moment disk) c → d.may_leave disk c) (r : Learner D G) (n : Core G) (p : ℕ) (is : IsCore r.core) (lawful : IsLawful r.core.log) (it : HasApplied r.core p n) where
  same_committed : n.committed ≡ r.core.committed
  same_committed = ap (λ (c : Core G). c.committed) it.same

  same_safe : n.numbers.safe_point ≡ r.core.numbers.safe_point
  same_safe = ap (λ (c : Core G). c.numbers.safe_point) it.same

  pub apply_follows : Follows d bytes (with_core r n) r
  apply_follows = memory_follows d bytes only_now r n
      (applied_follows bytes r.core n p is lawful it)
      (applied_good bytes r.core n p is lawful it)
      (applied_committed bytes r.core n p is lawful it)
      (ap (λ (k : ℕ). segments_at bytes k n) same_committed ∙ applied_named bytes r.core n p is lawful it)
      same_safe

module _ {D G : Type 0} (r : Learner D G) (n : Core G) (p : ℕ) (is : IsCore r.core) (it : HasApplied r.core p n) where
  pub learner_applied : IsLearner r → IsLearner (with_core r n)
  learner_applied ok = record {
    names = names_applied (has_of r.store.manifest) r.core n p is it ok.names;
    retired = subst (λ (g : ℕ). AllByRecursion (IsRetired r.store.manifest g) r.retired) (sym (ap (λ (c : Core G). c.numbers.generation) it.same)) ok.retired;
  }

-- ---- the same values under other names

module _ {D R G : Type 0} where
  pub from_same : {d : Ghosts D R G} {bytes : G → List ℕ} {r s t : Learner D G} → s ≡ t → Follows d bytes r s → Follows d bytes r t
  from_same {d = d} {bytes = bytes} {r = r} is follows = subst (λ (s : Learner D G). Follows d bytes r s) is follows

  pub with_same : {d : Ghosts D R G} {bytes : G → List ℕ} {s : Learner D G} {store : Stored D} {core other : Core G} {retired : List Retired} → core ≡ other → Follows d bytes (record { store = store; core = other; retired = retired }) s → Follows d bytes (record { store = store; core = core; retired = retired }) s
  with_same {d = d} {bytes = bytes} {s = s} {store = store} {retired = retired} is follows = subst (λ (c : Core G). Follows d bytes (record { store = store; core = c; retired = retired }) s) (sym is) follows
