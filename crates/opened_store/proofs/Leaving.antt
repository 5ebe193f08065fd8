-- What an opening leaves of a sound disk.
use Rattle.std.proofs.Common.{◌≡◌, ◌⊎◌, inl, inr, ⊎_elim, ℕ, ◌≤◌, Bool, false, Result, Ok, Err, IfOk, refl, sym, subst, arith}
use Rattle.flash_io.specs.Image.{Image}
use Rattle.flash_io.specs.declared.disk.Disk.{Ghosts}
use Rattle.flash_io.proofs.Moments.{then, weaken}
use Rattle.committed_log.specs.Log.{Log}
use Rattle.log_laws.specs.Chains.{chain_at}
use Rattle.manifest.specs.Made.{IsFresh, IsUnmade, OldOrMade}
use Rattle.manifest.specs.Stores.{IsKept, IsNew, IsRead}
use Rattle.manifest.specs.declared.store.Manifest.{Manifest}
use Rattle.store_image.specs.Images.{StandsFor, columns_in}
use Rattle.store_image.specs.Sound.{IsSound}
use Rattle.store_image.proofs.Begun.{begun, old_or_begun, only_empty}
use Rattle.store_image.proofs.Keeping.{sound_fewer, sound_unmade}
use Rattle.opened_store.specs.Causes.{IsOfLog}
use Rattle.opened_store.specs.Opening.{IsFound, IsUntouched, KeepsDisk, LeavesAlways}

-- what is in each image the disk reads
pub kept_read : (tells : Type 0) (files : Image) (outcomes : Image → Type 0) (m : Manifest) → (tells → outcomes files) → IsKept outcomes m → IsRead tells files m
kept_read tells files outcomes m reads kept = record {
  root = kept.root;
  root_closes = kept.root_closes;
  root_held = λ it. kept.root_held files (reads it);
  content = kept.content;
  closes = kept.closes;
  held = λ it. kept.held files (reads it);
}

module _ {D R G : Type 0} (d : Ghosts D R G) (log : Log) where
  pub untouched_keeps : (old new : D) → IsUntouched d old new → KeepsDisk d log old new
  untouched_keeps old new is = record {
    sound = λ sound. subst (λ (files : Image). IsSound log files (d.may_leave new)) (sym is.same) (sound_fewer log (d.files old) (d.may_leave old) (d.may_leave new) is.outcomes.none_new sound);
    moments = λ A safe sound stands. weaken d.moment d.left_since old new (d.may_leave old) (λ c. d.may_leave old c ⊎ StandsFor log A safe c) is.run (λ c left. inl left);
  }

  -- where nothing was committed, so that the disk stands for nothing
  module _ (old new : D) (is_new : IsNew (d.files old)) where
    old_or_same : (A : ℕ → Bool) (safe : ℕ) → StandsFor log A safe (d.files old) → (c : Image) → OldOrMade (d.may_leave old) (begun log) c → d.may_leave old c ⊎ StandsFor log A safe c
    old_or_same A safe stands c was =
        let empty = only_empty log A safe (d.files old) is_new stands in
        let none : (λ (p : ℕ). false) ≡ A = λ i p. sym (empty.none p) i in
        subst (λ (B : ℕ → Bool). d.may_leave old c ⊎ StandsFor log B safe c) none
        (subst (λ (s : ℕ). d.may_leave old c ⊎ StandsFor log (λ (p : ℕ). false) s c) (sym empty.no_safe_point) (old_or_begun log (d.may_leave old) c was))

    pub made_keeps : (IsSound log (d.files old) (d.may_leave old) → IsSound log (d.files new) (d.may_leave new))
        → (IsUnmade (d.files old) (d.may_leave old) → LeavesAlways d old new (OldOrMade (d.may_leave old) (begun log))) → KeepsDisk d log old new
    made_keeps keeps run = record {
      sound = keeps;
      moments = λ A safe sound stands. weaken d.moment d.left_since old new (OldOrMade (d.may_leave old) (begun log)) (λ c. d.may_leave old c ⊎ StandsFor log A safe c) (run (sound.new is_new).unmade) (old_or_same A safe stands);
    }

    -- the making failed
    pub unmade_sound : ((disk : D) (t : ℕ) (c : Image) → t ≤ d.moment disk → d.may_leave disk c → d.left_since disk t c)
        → (IsUnmade (d.files old) (d.may_leave old) → LeavesAlways d old new (OldOrMade (d.may_leave old) (begun log)))
        → (IsUnmade (d.files old) (d.may_leave old) → IsUnmade (d.files new) (d.may_leave new))
        → IsSound log (d.files old) (d.may_leave old) → IsSound log (d.files new) (d.may_leave new)
    unmade_sound counts_now run unmade sound =
        let free = (sound.new is_new).unmade in
        sound_unmade log (d.files old) (d.files new) (d.may_leave old) (d.may_leave new) sound is_new (unmade free) (λ c left. (run free).each c (counts_now new (d.moment old) c (run free).later left))

  -- one part of an opening after another
  pub keeps_then : (old mid new : D) → KeepsDisk d log old mid → KeepsDisk d log mid new
      → ((disk : D) (t : ℕ) (c : Image) → t ≤ d.moment disk → d.may_leave disk c → d.left_since disk t c)
      → ((A : ℕ → Bool) (safe : ℕ) → IsSound log (d.files old) (d.may_leave old) → StandsFor log A safe (d.files old) → StandsFor log A safe (d.files mid))
      → KeepsDisk d log old new
  keeps_then old mid new first second counts_now stands = record {
    sound = λ sound. second.sound (first.sound sound);
    moments = λ A safe sound is. let P : Image → Type 0 = λ c. d.may_leave old c ⊎ StandsFor log A safe c in
        let before = first.moments A safe sound is in
        then d.moment d.left_since old mid new P (λ c. d.may_leave mid c ⊎ StandsFor log A safe c) before (second.moments A safe (first.sound sound) (stands A safe sound is))
        (λ c left. ⊎_elim (λ here. before.each c (counts_now mid (d.moment old) c before.later here)) (λ s. inr s) left);
  }

  -- a store that was made
  pub made_found : {E : Type 0} (old new : D) (r : Result Manifest E) → (d.tells → IsNew (d.files old)) → (d.tells → d.may_leave new (d.files new))
      → IfOk r (IsFresh log.table (columns_in log) (chain_at log 0)) → IfOk r (IsKept (d.may_leave new)) → IfOk r (IsFound d log old new)
  made_found old new (Ok m) new_there reads fresh kept = record {
    of_log = subst (IsOfLog log) (sym fresh.has) (record { table = refl; columns = refl; high = omega arith; chain = refl });
    read = kept_read d.tells (d.files new) (d.may_leave new) m reads kept;
    how = inr (new_there, fresh, kept);
  }
  made_found old new (Err e) new_there reads fresh kept = tt
