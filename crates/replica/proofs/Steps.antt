-- What a step keeps that commits once: a state that names what is in memory then.
use Rattle.std.proofs.Common.{◌≡◌, ◌∙◌, inl, ℕ, ◌≤◌, true, List, length, sym, subst, arith}
use Rattle.std.specs.List.{AllByRecursion}
use Rattle.flash_io.specs.Crash.{LeavesOnly}
use Rattle.flash_io.specs.Image.{Image}
use Rattle.flash_io.specs.declared.disk.Disk.{Ghosts}
use Rattle.flash_io.proofs.Moments.{then}
use Rattle.good_state.specs.Follows.{StateFollows}
use Rattle.good_state.specs.Good.{IsGoodState, committed_set, segments_at}
use Rattle.good_state.proofs.Following.{core_itself}
use Rattle.manifest.specs.Runs.{OldOrNew}
use Rattle.manifest.specs.Stores.{Becomes, IsKept, has_of, has_with}
use Rattle.manifest.specs.declared.store.Manifest.{Manifest}
use Rattle.manifest_form.specs.declared.state.State.{State}
use Rattle.replica_state.specs.Core.{Core}
use Rattle.replica_store.specs.Naming.{is_file_in}
use Rattle.replica_store.specs.Store.{Stored}
use Rattle.store_image.specs.Images.{AreRegionsRead, AreSegmentsRead, IsCountOf, Stands, columns_in}
use Rattle.store_image.proofs.Frames.{read_on, regions_read_on}
use Rattle.replica.specs.Follows.{Follows, KeepsRetired, StaysOrRetires}
use Rattle.replica.specs.Learner.{HasNamed, IsLearner, IsPromised, Learner, Sound}
use Rattle.replica.specs.Names.{IsRetired, Names}
use Rattle.replica.specs.declared.retired.Retired.{Retired}
use Rattle.replica.proofs.Committing.{Either, alike_after, alike_before, done, promised, stands_by}

module _ {D G : Type 0} where
  abbrev pub with_store : Learner D G → Stored D → Learner D G
  with_store s store = record { store = store; core = s.core; retired = s.retired }

-- What is in memory becomes `n`, and a commit on the store `t`, which came from that of `s` and names the same, makes the state one that names it. While `s` is sound, each image of `t` is promised and has what is named, and has what the new state names as memory has it.
module _ {D R G : Type 0} (d : Ghosts D R G) (bytes : G → List ℕ) (counts_now : (disk : D) (t : ℕ) (c : Image) → t ≤ d.moment disk → d.may_leave disk c → d.left_since disk t c)
    (s : Learner D G) (t : Stored D) (kept : IsKept (d.may_leave t.disk) t.manifest) (stays : t.manifest ≡ s.store.manifest)
    (opened_before : t.opened_faults ≡ s.store.opened_faults) (faults_before : d.fault_count s.store.disk ≤ d.fault_count t.disk)
    (before : Sound d bytes s → LeavesOnly d.moment d.left_since s.store.disk t.disk (IsPromised s.core))
    (begun : Sound d bytes s → (c : Image) → d.may_leave t.disk c → IsPromised s.core c)
    (has : Sound d bytes s → (c : Image) → d.may_leave t.disk c → HasNamed bytes (with_store s t) c)
    (n : Core G) (state : State) (follows : StateFollows n s.core)
    (order : n.committed ≤ length n.listed) (within : n.numbers.high ≤ length n.log.entries)
    (names : Names (has_with t.manifest state) n)
    (good : IsGoodState bytes s.core → IsGoodState bytes n)
    (counted : Sound d bytes s → IsCountOf n.log (committed_set n) state.count)
    (segments : Sound d bytes s → (c : Image) → d.may_leave t.disk c → AreSegmentsRead t.manifest.file c (columns_in n.log) state.segments (segments_at bytes n.committed n))
    (regions : Sound d bytes s → (c : Image) → d.may_leave t.disk c → AreRegionsRead t.manifest.file c n.log (committed_set n) state.regions) where
  abbrev m : Manifest
  m = t.manifest

  stands : Sound d bytes s → (c : Image) → d.may_leave t.disk c → Stands n.log (committed_set n) m.file (has_with m state) c
  stands sound c left = stands_by bytes n order within m.file (has_with m state) c names (good sound.memory) (counted sound) (segments sound c left) (regions sound c left)

  abbrev OneOf : Sound d bytes s → Image → Type 0
  OneOf sound = Either d s.core n follows t state kept (begun sound) names.safe_point (stands sound)

  images : (sound : Sound d bytes s) → (c : Image) → OneOf sound c → IsPromised s.core c
  images sound = promised d s.core n follows t state kept (begun sound) names.safe_point (stands sound)

  module _ (u : Stored D) (run : LeavesOnly d.moment d.left_since t.disk u.disk (OldOrNew (d.may_leave t.disk) m.file (has_of m) (has_with m state)))
      (opened : u.opened_faults ≡ t.opened_faults) (faults : d.fault_count t.disk ≤ d.fault_count u.disk) where
    moments : Sound d bytes s → LeavesOnly d.moment d.left_since s.store.disk u.disk (IsPromised s.core)
    moments sound = then d.moment d.left_since s.store.disk t.disk u.disk _ _ (before sound) run (images sound)

    at_end : (sound : Sound d bytes s) (c : Image) → d.may_leave u.disk c → OneOf sound c
    at_end sound c left = run.each c (counts_now u.disk (d.moment t.disk) c run.later left)

    -- after an error nothing is new in memory
    pub step_failed : u.manifest ≡ m → Follows d bytes (with_store s u) s
    step_failed same = record {
      opened_faults = opened ∙ opened_before;
      faults = omega (arith, faults_before, faults);
      core = core_itself s.core;
      retired = λ it here. inl here;
      files = λ file named. inl (subst (λ (k : Manifest). is_file_in file k.state ≡ true) (sym (same ∙ stays)) named);
      sound = λ sound. record {
        memory = sound.memory;
        counted = subst (λ (k : Manifest). IsCountOf s.core.log (committed_set s.core) k.state.count) (sym (same ∙ stays)) sound.counted;
        images = λ c left. images sound c (at_end sound c left);
        named = λ whole_now c left.
            let from = (at_end sound c left).0 in
            let was = has sound from.0 from.1 in
            let alike = alike_before d s.core n follows t state kept (begun sound) names.safe_point (stands sound) from.0 c from.1 from.2 in
            record {
              segments = subst (λ (k : Manifest). AreSegmentsRead k.file c (columns_in s.core.log) k.state.segments (segments_at bytes s.core.committed s.core)) (sym same)
                  (read_on m.file from.0 c m.state (columns_in s.core.log) (segments_at bytes s.core.committed s.core) alike was.segments);
              regions = subst (λ (k : Manifest). AreRegionsRead k.file c s.core.log (committed_set s.core) k.state.regions) (sym same)
                  (regions_read_on m.file from.0 c m.state s.core.log (committed_set s.core) alike was.regions);
            };
      };
      moments = moments;
    }

    -- after the commit each image has the new state
    module _ (retired : List Retired) (keeps : KeepsRetired n.numbers.kept_from retired s.retired)
        (files : (file : ℕ) → is_file_in file s.store.manifest.state ≡ true → StaysOrRetires (record { store = u; core = n; retired = retired }) s file)
        (becomes : Becomes m state u.manifest) (kept_now : IsKept (d.may_leave u.disk) u.manifest) where
      pub step_done : Follows d bytes (record { store = u; core = n; retired = retired }) s
      step_done = record {
        opened_faults = opened ∙ opened_before;
        faults = omega (arith, faults_before, faults);
        core = follows;
        retired = keeps;
        files = files;
        sound = λ sound. record {
          memory = good sound.memory;
          counted = subst (λ (st : State). IsCountOf n.log (committed_set n) st.count) (sym becomes.state) (counted sound);
          images = λ c left. done d s.core n follows t state kept (begun sound) names.safe_point (stands sound) u becomes kept_now c (at_end sound c left) left;
          named = λ whole_now c left.
              let from = (at_end sound c left).0 in
              let alike = alike_after d s.core n follows t state kept (begun sound) names.safe_point (stands sound) from.0 c from.1 from.2 in
              record {
                segments = subst (λ (f : ℕ). AreSegmentsRead f c (columns_in n.log) u.manifest.state.segments (segments_at bytes n.committed n)) (sym becomes.file)
                    (subst (λ (st : State). AreSegmentsRead m.file c (columns_in n.log) st.segments (segments_at bytes n.committed n)) (sym becomes.state)
                    (read_on m.file from.0 c state (columns_in n.log) (segments_at bytes n.committed n) alike (segments sound from.0 from.1)));
                regions = subst (λ (f : ℕ). AreRegionsRead f c n.log (committed_set n) u.manifest.state.regions) (sym becomes.file)
                    (subst (λ (st : State). AreRegionsRead m.file c n.log (committed_set n) st.regions) (sym becomes.state)
                    (regions_read_on m.file from.0 c state n.log (committed_set n) alike (regions sound from.0 from.1)));
              };
        };
        moments = moments;
      }

-- ---- a store that names the same

module _ {D G : Type 0} where
  pub learner_still : (s : Learner D G) (t : Stored D) → t.manifest ≡ s.store.manifest → IsLearner s → IsLearner (with_store s t)
  learner_still s t same ok = record {
    names = subst (λ (k : Manifest). Names (has_of k) s.core) (sym same) ok.names;
    retired = subst (λ (k : Manifest). AllByRecursion (IsRetired k s.core.numbers.generation) s.retired) (sym same) ok.retired;
  }
