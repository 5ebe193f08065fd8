-- A replica that was opened on a sound disk is sound.
use Rattle.std.proofs.Common.{◌≡◌, ◌∙◌, inl, inr, ℕ, ◌≤◌, ◌<◌, Bool, true, false, List, [], ◌∷◌, length, map, Option, Some, None, Ok, refl, sym, ap, subst, arith}
use Rattle.std.specs.List.{AllByRecursion}
use Rattle.flash_io.specs.Image.{Image, Holds}
use Rattle.flash_io.specs.declared.disk.Disk.{Ghosts}
use Rattle.flash_types.specs.declared.settings.Settings.{Settings}
use Rattle.committed_log.specs.Laws.{IsInside}
use Rattle.committed_log.specs.Lawful.{IsLawful}
use Rattle.committed_log.specs.Log.{Log}
use Rattle.good_replica.specs.Changed.{of_parts}
use Rattle.good_replica.specs.Good.{AreGood}
use Rattle.good_replica.specs.Trail.{Segment}
use Rattle.delta_layer.specs.Files.{files_of}
use Rattle.prefix_laws.specs.Tagged.{content, files_at}
use Rattle.prefix_laws.proofs.Tagging.{all_by}
use Rattle.region_file.specs.Regions.{regions_of}
use Rattle.region_table.specs.Counting.{applied_in}
use Rattle.region_table.specs.Table.{Agrees, AreRegionsAt, IsTableAt, Kept, Table, empty_table}
use Rattle.region_table.proofs.Empty.{empty_is}
use Rattle.region_table.proofs.Sets.{of_table, set_is}
use Rattle.manifest.specs.Stores.{HasStore, IsKept, has_of}
use Rattle.manifest.specs.declared.store.Manifest.{Manifest}
use Rattle.manifest.proofs.Keeping.{store_now}
use Rattle.manifest_form.specs.declared.state.StoredSegment.{StoredSegment}
use Rattle.segment_list.specs.Laws.{told_by}
use Rattle.segment_list.specs.Order.{IsSlot}
use Rattle.segment_list.specs.Slots.{Slotted, tagged, tags_of}
use Rattle.segment_snapshot.specs.Rights.{stable_of, whole}
use Rattle.replica_state.specs.Core.{AreSlots, Core, full, upto}
use Rattle.replica_state.specs.declared.numbers.Numbers.{Numbers}
use Rattle.replica_state.proofs.Sets.{upto_all}
use Rattle.replica_store.specs.Store.{Stored}
use Rattle.good_state.specs.Good.{IsGoodState, committed_set, segments_at}
use Rattle.good_state.proofs.Applying.{named_by, upper}
use Rattle.good_state.proofs.Flushing.{all_said}
use Rattle.store_image.specs.Images.{AreRegionsRead, AreSegmentsRead, IsCountOf, Stands, StandsFor, columns_in}
use Rattle.store_image.specs.Sound.{IsSound}
use Rattle.store_image.proofs.Keeping.{by_store, opened_regions, opened_segments}
use Rattle.opened_segments.specs.Laws.{AreTold}
use Rattle.opened_segments.proofs.Telling.{slots_told}
use Rattle.opened_store.specs.Opening.{AreParts, ArePartsIn, AreRegionsOpened}
use Rattle.replica.specs.Learner.{Learner, Sound}
use Rattle.restart.specs.Restart.{HasSet, numbers_of}

-- ---- the set that the table tells is that of the region file

module _ (log : Log) (lawful : IsLawful log) (own : ℕ) (c : Image) (A : ℕ → Bool) where
  same_set : (o : Option ℕ) (t : Table) → AreRegionsOpened own c o t → AreRegionsRead own c log A o → applied_in log t.regions ≡ A
  same_set None t opened none =
      let nothing : applied_in log empty_table.regions ≡ (λ (p : ℕ). false) = set_is log lawful (λ p. false) [] (of_table log (λ p. false) empty_table (empty_is log)) in
      subst (λ (u : Table). applied_in log u.regions ≡ A) (sym opened) (nothing ∙ (λ i p. sym (none p) i))
  same_set (Some file) t opened read =
      let bytes : opened.2.0 ≡ read.2.0 = cc (sym opened.2.1 ∙ read.2.1) in
      let regions : t.regions ≡ read.2.2.0 = cc (sym opened.2.2 ∙ ap regions_of bytes ∙ read.2.2.1) in
      set_is log lawful A t.regions (subst (AreRegionsAt log A) (sym regions) read.2.2.2)

-- ---- all files had come by the opening

module _ {G : Type 0} (bytes : G → List ℕ) where
  whole_at : (committed last : ℕ) (slots : List (Slotted G)) → AllByRecursion (IsSlot committed last) slots → map (content last) (map (told_by (stable_of bytes)) slots) ≡ map (whole bytes) slots
  whole_at committed last [] all = refl
  whole_at committed last (s ∷ ss) all = λ i. of_parts s.range (stable_of bytes s.stable) (files i) ∷ whole_at committed last ss all.1 i
    where
      files : files_at last (tagged (tags_of s) s.files) ≡ files_of s.files
      files = all_by last last (tagged (tags_of s) s.files) (named_by last s.named s.tags s.files (upper committed last s.tags all.0.tags)) (omega arith) ∙ all_said s all.0.tagged

-- ---- what is in memory, and each image

module _ {D R G : Type 0} (d : Ghosts D R G) (bytes : G → List ℕ) (log : Log) (lawful : IsLawful log) (disk : D) (m : Manifest) (t : Table) (slots : List (Slotted G)) (count highest faults : ℕ) (settings : Settings) where
  abbrev s : Core G
  s = record { log = log; slots = slots; table = t; listed = []; committed = 0; count = count; highest = highest; numbers = numbers_of m.state; settings = settings }

  abbrev r : Learner D G
  r = record { store = record { disk = disk; manifest = m; opened_faults = faults }; core = s; retired = [] }

  none_since : (k : ℕ) → upto s k ≡ full s
  none_since k = upto_all s tt k (omega arith)

  module _ (parts : AreParts log m.state t slots) (read : ArePartsIn bytes (columns_in log) m.file (d.files disk) m.state t slots) (A : ℕ → Bool) (stands : Stands log A m.file (has_of m) (d.files disk)) where
    set : full s ≡ A
    set = same_set log lawful m.file (d.files disk) A m.state.regions t read.regions stands.regions

    told : AreTold bytes stands.segments slots
    told = slots_told m.file (d.files disk) (columns_in log) bytes slots stands.segments read.segments (subst (λ (ss : List StoredSegment). AreSegmentsRead m.file (d.files disk) (columns_in log) ss stands.segments) (sym parts.stored) stands.read)

    has_segments : stands.segments ≡ segments_at bytes 0 s
    has_segments = told.same ∙ sym (whole_at bytes 0 0 slots parts.order.order)

    good : AreGood log (full s) m.state.high m.state.safe_point (segments_at bytes 0 s)
    good = subst (λ (B : ℕ → Bool). AreGood log B m.state.high m.state.safe_point (segments_at bytes 0 s)) (sym set) (subst (AreGood log A m.state.high m.state.safe_point) has_segments stands.good)

    committed_is : committed_set s ≡ A
    committed_is = none_since 0 ∙ set

    counts : (k : ℕ) → 0 ≤ k → k ≤ 0 → AreGood log (upto s k) m.state.high m.state.safe_point (segments_at bytes k s)
    counts k from within =
        let last : k ≡ 0 = omega (arith, within) in
        subst (λ (n : ℕ). AreGood log (upto s n) m.state.high m.state.safe_point (segments_at bytes n s)) (sym last) (subst (λ (B : ℕ → Bool). AreGood log B m.state.high m.state.safe_point (segments_at bytes 0 s)) (sym (none_since 0)) good)

    good_state : IsGoodState bytes s
    good_state = record {
      readable = told.readable;
      memory = good;
      counts = counts;
      below = λ p h. stands.below p (subst (λ (B : ℕ → Bool). B p ≡ true) committed_is h);
    }

    module _ (sound : IsSound log (d.files disk) (d.may_leave disk)) (kept : IsKept (d.may_leave disk) m) where
      segments_in : (c : Image) → d.may_leave disk c → AreSegmentsRead m.file c (columns_in log) m.state.segments stands.segments
      segments_in = opened_segments log m (d.files disk) (d.may_leave disk) (d.may_leave disk) sound (λ c left. left) kept stands.segments stands.read

      regions_in : (c : Image) → d.may_leave disk c → AreRegionsRead m.file c log A m.state.regions
      regions_in = opened_regions log m (d.files disk) (d.may_leave disk) (d.may_leave disk) sound (λ c left. left) kept A stands.regions

      stands_in : (c : Image) → d.may_leave disk c → Stands log A m.file (has_of m) c
      stands_in c left = record {
        table = stands.table;
        columns = stands.columns;
        segments = stands.segments;
        read = segments_in c left;
        regions = regions_in c left;
        count = stands.count;
        good = stands.good;
        high = stands.high;
        below = stands.below;
        chain = stands.chain;
      }

      pub sound_at : Sound d bytes r
      sound_at = record {
        memory = good_state;
        counted = subst (λ (B : ℕ → Bool). IsCountOf log B m.state.count) (sym committed_is) stands.count;
        images = λ c left. record {
          set = A;
          safe_point = m.state.safe_point;
          inside = λ p h. subst (λ (B : ℕ → Bool). B p ≡ true) committed_is h;
          no_lower = omega arith;
          stands = inr (record { file = m.file; has = has_of m; store = store_now m (d.may_leave disk) c kept left; safe_point = refl; stands = stands_in c left });
        };
        named = λ whole_disk c left. record {
          segments = subst (AreSegmentsRead m.file c (columns_in log) m.state.segments) has_segments (segments_in c left);
          regions = subst (λ (B : ℕ → Bool). AreRegionsRead m.file c log B m.state.regions) (sym committed_is) (regions_in c left);
        };
      }

  module _ (parts : AreParts log m.state t slots) (read : ArePartsIn bytes (columns_in log) m.file (d.files disk) m.state t slots) (kept : IsKept (d.may_leave disk) m) (now : d.may_leave disk (d.files disk)) where
    store_there : HasStore (d.files disk) m.file (has_of m)
    store_there = store_now m (d.may_leave disk) (d.files disk) kept now

    pub opened_sound : IsSound log (d.files disk) (d.may_leave disk) → Sound d bytes r
    opened_sound sound =
        let stood = sound.stands (d.files disk) now in
        sound_at parts read stood.0 (by_store log stood.0 stood.1 (d.files disk) m.file (has_of m) store_there stood.2).1 sound kept

    pub opened_set : HasSet log (d.files disk) s
    opened_set A safe stood =
        let there = by_store log A safe (d.files disk) m.file (has_of m) store_there stood in
        ((λ p i. set parts read A there.1 i p), there.0)

    pub opened_sound_of : (q : Learner D G) → q ≡ r → IsSound log (d.files disk) (d.may_leave disk) → Sound d bytes q
    opened_sound_of q is sound = subst (Sound d bytes) (sym is) (opened_sound sound)

    pub opened_set_of : (q : Core G) → q ≡ s → HasSet log (d.files disk) q
    opened_set_of q is = subst (HasSet log (d.files disk)) (sym is) opened_set
