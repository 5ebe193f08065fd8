-- Files of a list that are removed one after the other.
use Rattle.std.proofs.Common.{◌≡◌, ◌≢◌, ◌∙◌, ℕ, zero, suc, ◌+◌, ◌-◌, ◌<◌, ◌≤◌, Bool, true, false, true≢false, not, ltb, eqb, List, length, get_or, Option, Some, None, refl, sym, ap, subst, arith}
use Rattle.std.specs.Prelude.{◌↔◌, ◌||◌}
use Rattle.std.specs.List.{Contains}
use Rattle.std.specs.List.Sorted.{IsStrictlyIncreasing}
use Rattle.std.proofs.lemmas.Bool.{eqb-false, eqb-true, ltb-false, ltb-true}
use Rattle.std.proofs.lemmas.Grind.{get_or_default_zero}
use Rattle.std.proofs.lemmas.List.Elements.{Contains-get_or}
use Rattle.flash_io.specs.Crash.{Removed}
use Rattle.flash_io.specs.Image.{Image, IsThere, SameBut}
use Rattle.flash_io.specs.declared.disk.Disk.{Ghosts}
use Rattle.flash_io.proofs.Moments.{started, then, weaken}
use Rattle.flash_io.proofs.Runs.{counted_then}
use Rattle.manifest.specs.declared.store.Manifest.{Manifest}
use Rattle.replica_store.specs.Naming.{is_among, is_known, is_named, is_stray}
use Rattle.replica_store.specs.Store.{Counted, LeavesAlways, NamesNothing, Stored, Untouched}
use Rattle.store_clearing.specs.Clearing.{HasKnownAlone, IsCleared, IsLeftBut, KeepsKnown, SameButThese}

-- ---- a rising list

rises_by : (xs : List ℕ) → IsStrictlyIncreasing xs → (i n : ℕ) → i + suc n < length xs → get_or xs i 0 < get_or xs (i + suc n) 0
rises_by xs rising i zero within = rising i within
rises_by xs rising i (suc n) within =
    let before = rises_by xs rising i n (omega (arith, within)) in
    let one = rising (i + suc n) (omega (arith, within)) in
    let same : get_or xs (i + suc n + 1) 0 ≡ get_or xs (i + suc (suc n)) 0 = ap (λ k. get_or xs k 0) (omega arith) in
    omega (arith, before, one, same)

pub rises : (xs : List ℕ) → IsStrictlyIncreasing xs → (i k : ℕ) → i < k → k < length xs → get_or xs i 0 < get_or xs k 0
rises xs rising i k below within =
    let n = k - i - 1 in
    let is : i + suc n ≡ k = omega (arith, below) in
    subst (λ j. get_or xs i 0 < get_or xs j 0) is (rises_by xs rising i n (omega (arith, below, within)))

above : (k i : ℕ) → i ≤ k → (k ≡ i → ⊥) → i < k
above k i least differs = omega (arith, least, differs)

less_one : (k i : ℕ) → k < i + 1 → (k ≡ i → ⊥) → k < i
less_one k i under differs = omega (arith, under, differs)

-- an element by any default
pub zero_default : (xs : List ℕ) (i x : ℕ) {y : ℕ} → i < length xs → get_or xs i x ≡ y → get_or xs i 0 ≡ y
zero_default xs i x within is = sym (get_or_default_zero xs i x within) ∙ is

-- ---- what is there and what is gone

-- from i on they are there
abbrev pub AreThereFrom : ℕ → List ℕ → Image → Type 0
AreThereFrom i xs files = (k : ℕ) → i ≤ k → k < length xs → IsThere files (get_or xs k 0)

-- below i they are gone
abbrev pub AreGoneBelow : ℕ → List ℕ → Image → Type 0
AreGoneBelow i xs files = (k : ℕ) → k < i → k < length xs → files (get_or xs k 0) ≡ None

module _ (xs : List ℕ) (rising : IsStrictlyIncreasing xs) (i x : ℕ) (within : i < length xs) (is : x ≡ get_or xs i 0) (old new : Image) (others : SameBut x old new) where
  other_file : (k : ℕ) → (k ≡ i → ⊥) → k < length xs → get_or xs k 0 ≢ x
  other_file k differs below same = by (ltb k i) refl
    where
      by : (b : Bool) → ltb k i ≡ b → ⊥
      by true less = (let up = rises xs rising k i (ltb-true k i less) within in omega (arith, up, same, is))
      by false less = (let least = ltb-false k i less in let up = rises xs rising i k (above k i least differs) below in omega (arith, up, same, is))

  pub still_there : AreThereFrom i xs old → AreThereFrom (i + 1) xs new
  still_there there k above below =
      let was = there k (omega (arith, above)) below in
      (was.0, others (get_or xs k 0) (other_file k (λ e. omega (arith, above, e)) below) ∙ was.1)

  pub one_gone : AreGoneBelow i xs old → new x ≡ None → AreGoneBelow (i + 1) xs new
  one_gone gone now k under below = by (eqb k i) refl
    where
      by : (b : Bool) → eqb k i ≡ b → new (get_or xs k 0) ≡ None
      by true same = (let at = ap (λ j. get_or xs j 0) (eqb-true k i same) in subst (λ f. new f ≡ None) (is ∙ sym at) now)
      by false same = (let differs = eqb-false k i same in others (get_or xs k 0) (other_file k differs below) ∙ gone k (less_one k i under differs) below)

-- all of them, by their numbers
pub all_gone : (xs : List ℕ) (i : ℕ) (files : Image) → length xs ≤ i → AreGoneBelow i xs files → (file : ℕ) → Contains xs file → files file ≡ None
all_gone xs i files all gone file (k, below, is) = subst (λ f. files f ≡ None) (zero_default xs k file below is) (gone k (omega (arith, below, all)) below)

pub there_first : (xs : List ℕ) (files : Image) → ((file : ℕ) → Contains xs file → IsThere files file) → AreThereFrom 0 xs files
there_first xs files there k above below = there (get_or xs k 0) (Contains-get_or xs k 0 below)

pub none_gone : (xs : List ℕ) (files : Image) → AreGoneBelow 0 xs files
none_gone xs files k under below = absurd (omega (arith, under))

-- ---- a step of the removal

module _ {D R G : Type 0} (d : Ghosts D R G) where
  pub nothing_named : (s : Stored D) → NamesNothing d s s
  nothing_named s = record { manifest = refl; opened_faults = refl; kept = λ kept. kept }

  pub named_on : (old mid new : Stored D) → NamesNothing d old mid → NamesNothing d mid new → NamesNothing d old new
  named_on old mid new a b = record { manifest = b.manifest ∙ a.manifest; opened_faults = b.opened_faults ∙ a.opened_faults; kept = λ kept. b.kept (a.kept kept) }

  pub nothing_counted : (s : Stored D) → Counted d s s
  nothing_counted s = record { later = omega arith; readers = refl; spared = λ never. (never, refl) }

  pub counted_on : (old mid new : Stored D) → Counted d old mid → Counted d mid new → Counted d old new
  counted_on old mid new a b = counted_then d.fault_count d.reader_fault_count d.never_fails old.disk mid.disk new.disk a b

  pub run_starts : ((disk : D) (c : Image) → d.left_since disk (d.moment disk) c → d.may_leave disk c) → (xs : List ℕ) (s : Stored D) → LeavesAlways d s s (IsLeftBut xs (d.may_leave s.disk))
  run_starts only_now xs s = started d.moment d.left_since s.disk _ (λ c left. (c, only_now s.disk c left, λ file out. refl))

  module _ (counts_now : (disk : D) (t : ℕ) (c : Image) → t ≤ d.moment disk → d.may_leave disk c → d.left_since disk t c) (xs : List ℕ) (x : ℕ) (old mid new : Stored D)
      (so_far : LeavesAlways d old mid (IsLeftBut xs (d.may_leave old.disk))) (has : Contains xs x) where
    step : (c : Image) → (e : Image) × d.may_leave mid.disk e × Removed x e c → IsLeftBut xs (d.may_leave old.disk) c
    step c (e, left, (same, or)) =
        let was = so_far.each e (counts_now mid.disk (d.moment old.disk) e so_far.later left) in
        (was.0, was.1, λ file out. same file (λ is. out (subst (Contains xs) (sym is) has)) ∙ was.2 file out)

    pub run_on : LeavesAlways d mid new (λ c. (e : Image) × d.may_leave mid.disk e × Removed x e c) → LeavesAlways d old new (IsLeftBut xs (d.may_leave old.disk))
    run_on more = then d.moment d.left_since old.disk mid.disk new.disk _ _ so_far more step

pub same_on : (xs : List ℕ) (x : ℕ) (old mid new : Image) → Contains xs x → SameButThese xs old mid → SameBut x mid new → SameButThese xs old new
same_on xs x old mid new has so_far more file out = more file (λ is. out (subst (Contains xs) (sym is) has)) ∙ so_far file out

-- ---- what is known

not_true : (b : Bool) → not b ≡ true → b ≡ false
not_true true is = absurd (true≢false (sym is))
not_true false is = refl

left_false : (a b : Bool) → not (a || b) ≡ true → a ≡ false
left_false true b is = absurd (true≢false (sym is))
left_false false b is = refl

-- nothing is named that nothing needs
pub stray_unnamed : (m : Manifest) (needed : List ℕ) (file : ℕ) → is_stray m.file m.state needed file ≡ true → is_named m.file m.state file ≡ false
stray_unnamed m needed file is = left_false (is_named m.file m.state file) (is_among needed file) is

abbrev pub AreStrays : Manifest → List ℕ → List ℕ → Type 0
AreStrays m needed xs = (file : ℕ) → Contains xs file → is_stray m.file m.state needed file ≡ true

module _ (m : Manifest) (needed xs : List ℕ) (strays : AreStrays m needed xs) where
  out_of : (file : ℕ) → is_known m.file m.state needed file ≡ true → Contains xs file → ⊥
  out_of file known has = true≢false (sym (strays file has) ∙ ap not known)

  pub known_stays : (old new : Image) → SameButThese xs old new → KeepsKnown m needed old new
  known_stays old new same file known = same file (out_of file known)

  pub cleared_of : (others : Image → Type 0) (c : Image) → IsLeftBut xs others c → IsCleared m needed others c
  cleared_of others c (e, left, same) = (e, left, known_stays e c same)

module _ {D R G : Type 0} (d : Ghosts D R G) (m : Manifest) (needed xs : List ℕ) (strays : AreStrays m needed xs) (old mid new : Stored D) (untouched : Untouched d old mid) where
  pub nothing_cleared : LeavesAlways d old mid (IsCleared m needed (d.may_leave old.disk))
  nothing_cleared = weaken d.moment d.left_since old.disk mid.disk _ _ untouched.run (λ c left. (c, left, λ file known. refl))

  pub all_cleared : LeavesAlways d mid new (IsLeftBut xs (d.may_leave mid.disk)) → LeavesAlways d old new (IsCleared m needed (d.may_leave old.disk))
  all_cleared more = then d.moment d.left_since old.disk mid.disk new.disk _ _ nothing_cleared more
      (λ c it. let was = cleared_of m needed xs strays (d.may_leave mid.disk) c it in (was.0, untouched.outcomes.none_new was.0 was.1, was.2))

-- ---- what is there at the end

abbrev pub IsEachStray : Manifest → List ℕ → List ℕ → Image → Type 0
IsEachStray m needed xs files = (file : ℕ) → Contains xs file ↔ (IsThere files file × (is_stray m.file m.state needed file ≡ true))

module _ (m : Manifest) (needed xs : List ℕ) (old : Image) (each : IsEachStray m needed xs old) where
  pub each_unknown : (file : ℕ) → Contains xs file ↔ (IsThere old file × (is_known m.file m.state needed file ≡ false))
  each_unknown file = (
    λ has. let both = (each file).0 has in (both.0, not_true (is_known m.file m.state needed file) both.1),
    λ both. (each file).1 (both.0, ap not both.1),
  )

  module _ (new : Image) (gone : (file : ℕ) → Contains xs file → new file ≡ None) (same : SameButThese xs old new) where
    pub known_alone : HasKnownAlone m needed new
    known_alone file there = by (is_known m.file m.state needed file) refl
      where
        by_old : (o : Option (List ℕ)) → old file ≡ o → is_known m.file m.state needed file ≡ false → ⊥
        by_old (Some bytes) is unknown = cc (sym there.1 ∙ gone file ((each file).1 ((bytes, is), ap not unknown)))
        by_old None is unknown = cc (sym there.1 ∙ same file (λ has. cc (sym is ∙ ((each file).0 has).0.1)) ∙ is)

        by : (b : Bool) → is_known m.file m.state needed file ≡ b → is_known m.file m.state needed file ≡ true
        by true is = is
        by false is = absurd (by_old (old file) refl is)
