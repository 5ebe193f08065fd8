-- What a purge keeps.
use Rattle.std.proofs.Common.{◌≡◌, inl, inr, ◌⊎◌, ℕ, ◌<◌, ◌≤◌, Bool, true, false, cond, List, [], ◌∷◌, filter, refl, sym, subst, arith, nat_le}
use Rattle.std.specs.List.{AllByRecursion, Contains}
use Rattle.flash_io.specs.Image.{Image}
use Rattle.flash_io.specs.declared.disk.Disk.{Ghosts}
use Rattle.flash_io.proofs.Moments.{weaken}
use Rattle.good_state.specs.Follows.{StateFollows}
use Rattle.good_state.specs.Good.{IsGoodState, committed_set, segments_at}
use Rattle.good_state.proofs.Following.{core_itself}
use Rattle.manifest.specs.Stores.{HasStore, IsKept, has_of}
use Rattle.manifest.specs.declared.store.Manifest.{Manifest}
use Rattle.replica_state.specs.Changes.{with_kept_from}
use Rattle.replica_state.specs.Core.{Core}
use Rattle.replica_store.specs.Naming.{is_among, is_file_in, is_named}
use Rattle.replica_store.specs.Store.{IsWhole, LeavesAlways, Stored}
use Rattle.replica_store.proofs.Others.{filter_has}
use Rattle.store_clearing.specs.Clearing.{IsCleared, KeepsKnown}
use Rattle.store_image.specs.Images.{AreRegionsRead, AreSegmentsRead, IsCountOf, columns_in}
use Rattle.store_image.specs.Sound.{SameNamed}
use Rattle.store_image.proofs.Frames.{named_alike, or_left, read_on, regions_read_on}
use Rattle.store_image.proofs.Keeping.{for_on}
use Rattle.replica.specs.Follows.{Follows, KeepsRetired}
use Rattle.replica.specs.Learner.{HasNamed, IsLearner, IsPromised, Learner, Sound}
use Rattle.replica.specs.Names.{IsRetired, Names}
use Rattle.replica.specs.Purging.{retired_from}
use Rattle.replica.specs.declared.retired.Retired.{Retired}
use Rattle.replica.proofs.Committing.{kept_store}

-- ---- the files that stay

-- what is named is known
pub named_stays : (m : Manifest) (needed : List ℕ) (e c : Image) → KeepsKnown m needed e c → SameNamed m.file m.state e c
named_stays m needed e c same file named = same file (or_left (is_named m.file m.state file) (is_among needed file) named)

module _ {G : Type 0} (core : Core G) (m : Manifest) (e c : Image) (store : HasStore e m.file (has_of m)) (same : SameNamed m.file m.state e c) where
  pub promised_on : IsPromised core e → IsPromised core c
  promised_on was = record {
    set = was.set;
    safe_point = was.safe_point;
    inside = was.inside;
    no_lower = was.no_lower;
    stands = for_on core.log was.set was.safe_point m.file (has_of m) e c store same was.stands;
  }

-- ---- the least generation that is kept

module _ {G : Type 0} (s : Core G) (k : ℕ) where
  pub kept_good : (bytes : G → List ℕ) → IsGoodState bytes s → IsGoodState bytes (with_kept_from k s)
  kept_good bytes good = record {
    readable = good.readable;
    memory = good.memory;
    counts = good.counts;
    below = good.below;
  }

  pub kept_follows : s.numbers.kept_from ≤ k → StateFollows (with_kept_from k s) s
  kept_follows up = let same = core_itself s in record {
    log = same.log;
    settings = same.settings;
    mark = same.mark;
    opened = same.opened;
    listed = same.listed;
    count = same.count;
    committed = same.committed;
    high = same.high;
    safe_point = same.safe_point;
    next = same.next;
    generation = same.generation;
    kept_from = up;
    slots = same.slots;
  }

-- ---- the files that went out of use

le_false : (k n : ℕ) → nat_le k n ≡ false → n < k
le_false k n is = grind (arith, is)

pub keeps_retired : (k : ℕ) (retired : List Retired) → KeepsRetired k (retired_from k retired) retired
keeps_retired k retired it here = by (nat_le k it.generation) refl
  where
    by : (b : Bool) → nat_le k it.generation ≡ b → Contains (retired_from k retired) it ⊎ (it.generation < k)
    by true is = inl (filter_has (λ (r : Retired). nat_le k r.generation) retired it here is)
    by false is = inr (le_false k it.generation is)

all_kept : (P : Retired → Type 0) (p : Retired → Bool) (retired : List Retired) → AllByRecursion P retired → AllByRecursion P (filter p retired)
all_kept P p [] all = tt
all_kept P p (it ∷ its) all = by (p it) (all_kept P p its all.1)
  where
    by : (b : Bool) → AllByRecursion P (filter p its) → AllByRecursion P (cond b (it ∷ filter p its) (filter p its))
    by true rest = (all.0, rest)
    by false rest = rest

-- ---- the whole

module _ {D R G : Type 0} (d : Ghosts D R G) (bytes : G → List ℕ) (counts_now : (disk : D) (t : ℕ) (c : Image) → t ≤ d.moment disk → d.may_leave disk c → d.left_since disk t c)
    (s : Learner D G) (kept : IsKept (d.may_leave s.store.disk) s.store.manifest) (whole : IsWhole d s.store) (needed : List ℕ) (u : Stored D)
    (same : u.manifest ≡ s.store.manifest) (opened : u.opened_faults ≡ s.store.opened_faults) (faults : d.fault_count s.store.disk ≤ d.fault_count u.disk)
    (run : LeavesAlways d s.store u (IsCleared s.store.manifest needed (d.may_leave s.store.disk))) where
  abbrev m : Manifest
  m = s.store.manifest

  promised : Sound d bytes s → (c : Image) → IsCleared m needed (d.may_leave s.store.disk) c → IsPromised s.core c
  promised sound c (e, left, keeps) = promised_on s.core m e c (kept_store m (d.may_leave s.store.disk) kept e left) (named_stays m needed e c keeps) (sound.images e left)

  at_end : (c : Image) → d.may_leave u.disk c → IsCleared m needed (d.may_leave s.store.disk) c
  at_end c left = run.each c (counts_now u.disk (d.moment s.store.disk) c run.later left)

  module _ (k : ℕ) (up : s.core.numbers.kept_from ≤ k) (retired : List Retired) where
    abbrev then : Learner D G
    then = record { store = u; core = with_kept_from k s.core; retired = retired }

    named_then : Sound d bytes s → (c : Image) → IsCleared m needed (d.may_leave s.store.disk) c → HasNamed bytes then c
    named_then sound c (e, left, keeps) =
        let was = sound.named whole e left in
        let alike = named_alike m.file m.state e c (named_stays m needed e c keeps) in
        record {
          segments = subst (λ (n : Manifest). AreSegmentsRead n.file c (columns_in s.core.log) n.state.segments (segments_at bytes s.core.committed s.core)) (sym same)
              (read_on m.file e c m.state (columns_in s.core.log) (segments_at bytes s.core.committed s.core) alike was.segments);
          regions = subst (λ (n : Manifest). AreRegionsRead n.file c s.core.log (committed_set s.core) n.state.regions) (sym same)
              (regions_read_on m.file e c m.state s.core.log (committed_set s.core) alike was.regions);
        }

    pub cleared_follows : KeepsRetired k retired s.retired → Follows d bytes then s
    cleared_follows keeps = record {
      opened_faults = opened;
      faults = faults;
      core = kept_follows s.core k up;
      retired = keeps;
      files = λ file named. inl (subst (λ (n : Manifest). is_file_in file n.state ≡ true) (sym same) named);
      sound = λ sound. record {
        memory = kept_good s.core k bytes sound.memory;
        counted = subst (λ (n : Manifest). IsCountOf s.core.log (committed_set s.core) n.state.count) (sym same) sound.counted;
        images = λ c left. promised sound c (at_end c left);
        named = λ whole_now c left. named_then sound c (at_end c left);
      };
      moments = λ sound. weaken d.moment d.left_since s.store.disk u.disk _ _ run (promised sound);
    }

  pub purged_follows : (k : ℕ) → s.core.numbers.kept_from ≤ k → Follows d bytes (record { store = u; core = with_kept_from k s.core; retired = retired_from k s.retired }) s
  purged_follows k up = cleared_follows k up (retired_from k s.retired) (keeps_retired k s.retired)

  pub disk_follows : Follows d bytes (record { store = u; core = s.core; retired = s.retired }) s
  disk_follows = cleared_follows s.core.numbers.kept_from (omega arith) s.retired (λ it here. inl here)

-- ---- what the manifest names then

module _ {D G : Type 0} (s : Learner D G) (u : Stored D) (same : u.manifest ≡ s.store.manifest) where
  pub learner_still : IsLearner s → IsLearner (record { store = u; core = s.core; retired = s.retired })
  learner_still ok = record {
    names = subst (λ (n : Manifest). Names (has_of n) s.core) (sym same) ok.names;
    retired = subst (λ (n : Manifest). AllByRecursion (IsRetired n s.core.numbers.generation) s.retired) (sym same) ok.retired;
  }

  pub learner_purged : (k : ℕ) → IsLearner s → IsLearner (record { store = u; core = with_kept_from k s.core; retired = retired_from k s.retired })
  learner_purged k ok = let still = learner_still ok in record {
    names = record { table = still.names.table; columns = still.names.columns; segments = still.names.segments; next = still.names.next; high = still.names.high; safe_point = still.names.safe_point; chain = still.names.chain };
    retired = all_kept (IsRetired u.manifest s.core.numbers.generation) (λ (it : Retired). nat_le k it.generation) s.retired still.retired;
  }

-- ---- the same values under other names

module _ {D G : Type 0} {store : Stored D} {core other : Core G} {retired files : List Retired} (is : core ≡ other) (are : retired ≡ files) where
  pub learner_as : IsLearner (record { store = store; core = other; retired = files }) → IsLearner (record { store = store; core = core; retired = retired })
  learner_as ok = subst (λ (c : Core G). IsLearner (record { store = store; core = c; retired = retired })) (sym is)
      (subst (λ (l : List Retired). IsLearner (record { store = store; core = other; retired = l })) (sym are) ok)

  pub follows_as : {R : Type 0} {d : Ghosts D R G} {bytes : G → List ℕ} {s : Learner D G} → Follows d bytes (record { store = store; core = other; retired = files }) s → Follows d bytes (record { store = store; core = core; retired = retired }) s
  follows_as {d = d} {bytes = bytes} {s = s} follows = subst (λ (c : Core G). Follows d bytes (record { store = store; core = c; retired = retired }) s) (sym is)
      (subst (λ (l : List Retired). Follows d bytes (record { store = store; core = other; retired = l }) s) (sym are) follows)
