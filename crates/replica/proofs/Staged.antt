-- What a step keeps that names nothing: in each image what is named is as in one of before.
use Rattle.std.proofs.Common.{◌≡◌, inl, ℕ, ◌≤◌, Bool, true, List, refl, sym, subst}
use Rattle.flash_io.specs.Crash.{LeavesOnly}
use Rattle.flash_io.specs.Image.{Image}
use Rattle.flash_io.specs.declared.disk.Disk.{Ghosts}
use Rattle.flash_io.proofs.Moments.{weaken}
use Rattle.committed_log.specs.Log.{Log}
use Rattle.good_state.specs.Follows.{StateFollows}
use Rattle.good_state.specs.Good.{IsGoodState, committed_set, segments_at}
use Rattle.replica_state.specs.Core.{Core}
use Rattle.good_state.proofs.Following.{core_itself}
use Rattle.manifest.specs.Stores.{IsKept, has_of}
use Rattle.manifest.specs.declared.store.Manifest.{Manifest}
use Rattle.replica_store.specs.Naming.{is_file_in}
use Rattle.replica_store.specs.Store.{Stored, IsWhole}
use Rattle.store_image.specs.Images.{AreRegionsRead, AreSegmentsRead, IsCountOf, StandsAtLeast, columns_in}
use Rattle.store_image.proofs.Frames.{named_alike, read_on, regions_read_on}
use Rattle.store_image.proofs.Keeping.{for_on}
use Rattle.replica.specs.Follows.{Follows, KeepsRetired}
use Rattle.replica.specs.declared.retired.Retired.{Retired}
use Rattle.replica.specs.Learner.{HasNamed, IsPromised, Learner, Sound}
use Rattle.segment_staging.specs.Staging.{IsNamedIn}
use Rattle.replica.proofs.Committing.{kept_store}
use Rattle.replica.proofs.Steps.{with_store}

module _ {D R G : Type 0} (d : Ghosts D R G) (bytes : G → List ℕ) (counts_now : (disk : D) (t : ℕ) (c : Image) → t ≤ d.moment disk → d.may_leave disk c → d.left_since disk t c)
    (s : Learner D G) (whole : IsWhole d s.store) (kept : IsKept (d.may_leave s.store.disk) s.store.manifest) where
  abbrev m : Manifest
  m = s.store.manifest

  pub images : Sound d bytes s → (c : Image) → IsNamedIn m (d.may_leave s.store.disk) c → IsPromised s.core c
  images sound c (e, left, same) =
      let was = sound.images e left in
      record {
        set = was.set;
        safe_point = was.safe_point;
        inside = was.inside;
        no_lower = was.no_lower;
        stands = for_on s.core.log was.set was.safe_point m.file (has_of m) e c (kept_store m (d.may_leave s.store.disk) kept e left) same was.stands;
      }

  pub has_named : Sound d bytes s → (c : Image) → IsNamedIn m (d.may_leave s.store.disk) c → HasNamed bytes s c
  has_named sound c (e, left, same) =
      let was = sound.named whole e left in
      let alike = named_alike m.file m.state e c same in
      record {
        segments = read_on m.file e c m.state (columns_in s.core.log) (segments_at bytes s.core.committed s.core) alike was.segments;
        regions = regions_read_on m.file e c m.state s.core.log (committed_set s.core) alike was.regions;
      }

  module _ (u : Stored D) (run : LeavesOnly d.moment d.left_since s.store.disk u.disk (IsNamedIn m (d.may_leave s.store.disk))) where
    pub named_now : (c : Image) → d.may_leave u.disk c → IsNamedIn m (d.may_leave s.store.disk) c
    named_now c left = run.each c (counts_now u.disk (d.moment s.store.disk) c run.later left)

    -- what is in memory may change too, where it names the same and promises the same
    module _ (n : Core G) (retired : List Retired) (follows : StateFollows n s.core) (good : IsGoodState bytes s.core → IsGoodState bytes n)
        (log : n.log ≡ s.core.log) (committed : committed_set n ≡ committed_set s.core) (named : segments_at bytes n.committed n ≡ segments_at bytes s.core.committed s.core) (safe_point : n.numbers.safe_point ≡ s.core.numbers.safe_point)
        (keeps : KeepsRetired n.numbers.kept_from retired s.retired) where
      same_promise : (c : Image) → IsPromised s.core c → IsPromised n c
      same_promise c it =
          subst (λ (l : Log). StandsAtLeast l (committed_set n) n.numbers.safe_point c) (sym log)
          (subst (λ (A : ℕ → Bool). StandsAtLeast s.core.log A n.numbers.safe_point c) (sym committed)
          (subst (λ (ts : ℕ). StandsAtLeast s.core.log (committed_set s.core) ts c) (sym safe_point) it))

      pub same_names_follow : u.manifest ≡ m → u.opened_faults ≡ s.store.opened_faults → d.fault_count s.store.disk ≤ d.fault_count u.disk → Follows d bytes (record { store = u; core = n; retired = retired }) s
      same_names_follow same opened faults = record {
        opened_faults = opened;
        faults = faults;
        core = follows;
        retired = keeps;
        files = λ file is. inl (subst (λ (k : Manifest). is_file_in file k.state ≡ true) (sym same) is);
        sound = λ sound. record {
          memory = good sound.memory;
          counted = subst (λ (k : Manifest). IsCountOf n.log (committed_set n) k.state.count) (sym same)
              (subst (λ (l : Log). IsCountOf l (committed_set n) m.state.count) (sym log)
              (subst (λ (A : ℕ → Bool). IsCountOf s.core.log A m.state.count) (sym committed) sound.counted));
          images = λ c left. same_promise c (images sound c (named_now c left));
          named = λ whole_now c left.
              let it = has_named sound c (named_now c left) in
              record {
                segments = subst (λ (k : Manifest). AreSegmentsRead k.file c (columns_in n.log) k.state.segments (segments_at bytes n.committed n)) (sym same)
                    (subst (λ (l : Log). AreSegmentsRead m.file c (columns_in l) m.state.segments (segments_at bytes n.committed n)) (sym log)
                    (subst (AreSegmentsRead m.file c (columns_in s.core.log) m.state.segments) (sym named) it.segments));
                regions = subst (λ (k : Manifest). AreRegionsRead k.file c n.log (committed_set n) k.state.regions) (sym same)
                    (subst (λ (l : Log). AreRegionsRead m.file c l (committed_set n) m.state.regions) (sym log)
                    (subst (λ (A : ℕ → Bool). AreRegionsRead m.file c s.core.log A m.state.regions) (sym committed) it.regions));
              };
        };
        moments = λ sound. weaken d.moment d.left_since s.store.disk u.disk _ _ run (images sound);
      }

    pub staged_follows : u.manifest ≡ m → u.opened_faults ≡ s.store.opened_faults → d.fault_count s.store.disk ≤ d.fault_count u.disk → Follows d bytes (with_store s u) s
    staged_follows same opened faults = same_names_follow s.core s.retired (core_itself s.core) (λ good. good) refl refl refl refl (λ it here. inl here) same opened faults
