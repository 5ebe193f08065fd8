-- What is read of a disk, and what is left of it.
use Rattle.std.proofs.Common.{◌≡◌, ◌∙◌, ◌⊎◌, inl, inr, ℕ, ◌≤◌, Bool, true, false, true≢false, List, refl, sym, subst}
use Rattle.flash_io.specs.Crash.{NoNew}
use Rattle.flash_io.specs.Image.{Image}
use Rattle.flash_io.specs.declared.disk.Disk.{Ghosts}
use Rattle.flash_io.proofs.Moments.{weaken}
use Rattle.committed_log.specs.Log.{Log}
use Rattle.manifest.specs.Stores.{HasStore, IsKept, has_of}
use Rattle.manifest.specs.declared.store.Manifest.{Manifest}
use Rattle.manifest.proofs.Keeping.{kept_many, store_now}
use Rattle.manifest_form.specs.declared.recover.Recovered.{Recovered}
use Rattle.store_image.specs.Images.{StandsFor, columns_in}
use Rattle.store_image.specs.Sound.{IsSound}
use Rattle.store_image.proofs.Begun.{begun, for_begun, only_empty}
use Rattle.store_image.proofs.Keeping.{sound_fewer}
use Rattle.opened_store.specs.Causes.{ArePartsDamaged, IsCause, IsDamageOr, IsOfLog, IsRefusal}
use Rattle.opened_store.specs.Opening.{AreParts, ArePartsIn, IsFound, IsFoundOrMade, IsUntouched, KeepsDisk, LeavesAlways}
use Rattle.opened_store.specs.declared.fault.OpenCause.{OpenCause}
use Rattle.opened_store.specs.declared.fault.OpenCause.TheVariants.{NotAStore, Version, OtherLog, Damaged, Device, Memory}
use Rattle.region_table.specs.Table.{Table}
use Rattle.segment_list.specs.Slots.{Slotted}
use Rattle.opened_store.proofs.Leaving.{keeps_then, untouched_keeps}
use Rattle.restart.specs.Ready.{IsReady, StandsAsBefore}

-- a store that was just made has no file that could be damaged
fresh_whole : (log : Log) (own : ℕ) (c : Image) (file at : ℕ) → ArePartsDamaged log own c (begun log) file at → ⊥
fresh_whole log own c file at (inl h) = h
fresh_whole log own c file at (inr h) = absurd (cc h.1.1)

module _ {D R G : Type 0} (d : Ghosts D R G) (log : Log) where
  -- no image is new
  pub fewer_keeps : (old new : D) → d.files new ≡ d.files old → NoNew (d.may_leave old) (d.may_leave new) → LeavesAlways d old new (d.may_leave old) → KeepsDisk d log old new
  fewer_keeps old new same fewer run = record {
    sound = λ sound. subst (λ (files : Image). IsSound log files (d.may_leave new)) (sym same) (sound_fewer log (d.files old) (d.may_leave old) (d.may_leave new) fewer sound);
    moments = λ A safe sound stands. weaken d.moment d.left_since old new (d.may_leave old) (λ c. d.may_leave old c ⊎ StandsFor log A safe c) run (λ c left. inl left);
  }

  module _ (old mid : D) (m : Manifest) (tells : d.tells) (it : IsFound d log old mid m) where
    pub found_stands : d.may_leave mid (d.files mid) → StandsAsBefore d log old mid
    found_stands now A safe stood = by it.how
      where
        by : IsFoundOrMade d log old mid m → StandsFor log A safe (d.files mid)
        by (inl is) = subst (StandsFor log A safe) (sym is.0.same) stood
        by (inr is) =
            let empty = only_empty log A safe (d.files old) (is.0 tells) stood in
            let none : (λ (p : ℕ). false) ≡ A = λ i p. sym (empty.none p) i in
            let store = subst (HasStore (d.files mid) m.file) is.1.has (store_now m (d.may_leave mid) (d.files mid) is.2 now) in
            subst (λ (B : ℕ → Bool). StandsFor log B safe (d.files mid)) none
            (subst (λ (s : ℕ). StandsFor log (λ (p : ℕ). false) s (d.files mid)) (sym empty.no_safe_point) (for_begun log m.file (d.files mid) store))

    -- the cause of a damage below the manifest
    pub parts_cause : (e : OpenCause) → IsDamageOr (ArePartsDamaged log m.file (d.files mid) (has_of m)) e → IsCause log (d.files old) e × (IsRefusal e → IsUntouched d old mid)
    parts_cause NotAStore h = absurd h
    parts_cause (Version found) h = absurd h
    parts_cause (OtherLog entries) h = absurd h
    parts_cause (Damaged file at) h = by it.how
      where
        by : IsFoundOrMade d log old mid m → IsCause log (d.files old) (Damaged file at) × (IsRefusal (Damaged file at) → IsUntouched d old mid)
        by (inl is) = (inr (m.file, has_of m, is.1 tells, it.of_log, subst (λ (c : Image). ArePartsDamaged log m.file c (has_of m) file at) is.0.same h), λ refused. is.0)
        by (inr is) = absurd (fresh_whole log m.file (d.files mid) file at (subst (λ (has : Recovered). ArePartsDamaged log m.file (d.files mid) has file at) is.1.has h))
    parts_cause Device h = (tt, λ refused. absurd refused)
    parts_cause Memory h = (tt, λ refused. absurd refused)

  -- a store that was made is in each image, also where fewer are left
  pub kept_on : (old mid new : D) (m : Manifest) → IsFoundOrMade d log old mid m → NoNew (d.may_leave mid) (d.may_leave new) → m.steadied ≡ true → IsKept (d.may_leave new) m
  kept_on old mid new m (inl is) fewer steadied = absurd (true≢false (sym steadied ∙ is.2))
  kept_on old mid new m (inr is) fewer steadied = kept_many m (d.may_leave mid) (d.may_leave new) is.2 (λ c left. (c, fewer c left, refl, refl))

  pub ready_of : (bytes : G → List ℕ) (mid new : D) (m n : Manifest) (t : Table) (slots : List (Slotted G)) → n ≡ record m { steadied = true } → IsKept (d.may_leave new) n → IsOfLog log (has_of m)
      → AreParts log m.state t slots → (d.tells → ArePartsIn bytes (columns_in log) m.file (d.files mid) m.state t slots) → d.files new ≡ d.files mid → IsReady d bytes log new n t slots
  ready_of bytes mid new m n t slots is kept of_log parts read same =
      subst (λ (k : Manifest). IsKept (d.may_leave new) k → IsReady d bytes log new k t slots) (sym is)
      (λ it. record {
        of_log = of_log;
        steadied = refl;
        kept = it;
        parts = parts;
        read = λ tells. subst (λ (c : Image). ArePartsIn bytes (columns_in log) m.file c m.state t slots) (sym same) (read tells);
      }) kept

  -- the parts are read, and then the manifest is steadied
  module _ (counts_now : (disk : D) (t : ℕ) (c : Image) → t ≤ d.moment disk → d.may_leave disk c → d.left_since disk t c)
      (old mid next : D) (m : Manifest) (tells : d.tells) (it : IsFound d log old mid m) (now : d.may_leave mid (d.files mid)) (so_far : KeepsDisk d log old mid) (read : IsUntouched d mid next) where
    pub parts_keep : KeepsDisk d log old next
    parts_keep = keeps_then d log old mid next so_far (untouched_keeps d log mid next read) counts_now (λ A safe sound is. found_stands old mid m tells it now A safe is)

    pub parts_stand : StandsAsBefore d log old next
    parts_stand A safe is = subst (StandsFor log A safe) (sym read.same) (found_stands old mid m tells it now A safe is)

    pub sure_keeps : (new : D) → d.files new ≡ d.files next → NoNew (d.may_leave next) (d.may_leave new) → LeavesAlways d next new (d.may_leave next) → KeepsDisk d log old new
    sure_keeps new same fewer run = keeps_then d log old next new parts_keep (fewer_keeps next new same fewer run) counts_now (λ A safe sound is. parts_stand A safe is)
