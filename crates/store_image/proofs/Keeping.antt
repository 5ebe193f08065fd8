-- What keeps a disk sound.
use Rattle.std.proofs.Common.{◌≡◌, ◌≢◌, ◌⊎◌, ◌∙◌, inl, inr, ⊎_elim, ℕ, ◌≤◌, Bool, true, false, List, [], ◌∷◌, Option, Some, None, refl, sym, subst, arith}
use Rattle.std.specs.Prelude.{◌||◌}
use Rattle.std.specs.List.{list_any}
use Rattle.flash_io.specs.Image.{Image, SameBut}
use Rattle.flash_io.specs.Crash.{Elsewhere, NoNew}
use Rattle.flash_types.specs.declared.range.HandleRange.{HandleRange}
use Rattle.column_block.specs.declared.column.Column.{Column}
use Rattle.column_block.specs.declared.cell.Version.{Version}
use Rattle.committed_log.specs.Lawful.{IsLawful}
use Rattle.committed_log.specs.Laws.{IsInside}
use Rattle.committed_log.specs.Log.{Log}
use Rattle.log_laws.specs.Longer.{GoesOn}
use Rattle.good_replica.specs.Trail.{DeltaFile, Segment}
use Rattle.manifest_form.specs.declared.recover.Recovered.{Recovered}
use Rattle.manifest_form.specs.declared.state.State.{State}
use Rattle.manifest_form.specs.declared.state.StoredFile.{StoredFile}
use Rattle.manifest_form.specs.declared.state.StoredFile.TheVariants.{Tiny, DeleteRange}
use Rattle.manifest_form.specs.declared.state.StoredSegment.{StoredSegment}
use Rattle.manifest.specs.declared.store.Manifest.{Manifest}
use Rattle.manifest.specs.Made.{IsUnmade, OldOrMade}
use Rattle.manifest.specs.Runs.{OldOrNew}
use Rattle.manifest.specs.Stores.{IsNew, HasStore, IsKept, has_of, has_with}
use Rattle.manifest.proofs.Keeping.{store_now}
use Rattle.manifest.proofs.Making.{one_new_unmade}
use Rattle.replica_store.specs.Naming.{is_number, is_tiny_file, is_file_of, is_file_in, is_named}
use Rattle.store_image.specs.Images.{IsStableRead, IsFileRead, AreFilesRead, AreSegmentsRead, AreRegionsRead, Stands, StandsFor, StandsForSome, StandsAtLeast, columns_in}
use Rattle.store_image.specs.Sound.{AreAlike, IsSound, SameNamed}
use Rattle.store_image.proofs.Which.{same_file, same_store, not_new}
use Rattle.store_image.proofs.Frames.{file_named, one_unnamed, read_on, regions_read_on, stands_on, standing_on, store_on}
use Rattle.store_image.proofs.Onward.{for_onward}
use Rattle.store_image.proofs.Begun.{begun, begun_names_none, for_begun, old_or_begun}

-- ---- by the store that an image has

module _ (log : Log) (A : ℕ → Bool) (safe : ℕ) (c : Image) (own : ℕ) (has : Recovered) (store : HasStore c own has) where
  -- it stands by that store
  pub by_store : StandsFor log A safe c → (has.state.safe_point ≡ safe) × Stands log A own has c
  by_store (inl empty) = absurd (not_new c own has store empty.new)
  by_store (inr it) =
      let file = same_file c it.file own it.has has it.store store in
      let same = same_store c it.file own it.has has it.store store in
      (subst (λ (h : Recovered). h.state.safe_point ≡ safe) same it.safe_point, subst (λ (h : Recovered). Stands log A own h c) same (subst (λ f. Stands log A f it.has c) file it.stands))

  pub standing : has.state.safe_point ≡ safe → Stands log A own has c → StandsFor log A safe c
  standing point stands = inr (record { file = own; has = has; store = store; safe_point = point; stands = stands })

-- only files change that it doesn't name
pub for_on : (log : Log) (A : ℕ → Bool) (safe : ℕ) (own : ℕ) (has : Recovered) (d c : Image) → HasStore d own has → SameNamed own has.state d c → StandsFor log A safe d → StandsFor log A safe c
for_on log A safe own has d c store same (inl empty) = absurd (not_new d own has store empty.new)
for_on log A safe own has d c store same (inr it) =
    let file = same_file d it.file own it.has has it.store store in
    let alike = same_store d it.file own it.has has it.store store in
    inr (standing_on log A safe d c it (subst (λ (h : Recovered). SameNamed it.file h.state d c) (sym alike) (subst (λ f. SameNamed f has.state d c) (sym file) same)))

-- ---- only the manifest's file changes

-- a named file isn't the manifest's
module _ (own : ℕ) (c : Image) (file : ℕ) where
  number_apart : (columns : List Column) (o : Option ℕ) (versions : List Version) → IsStableRead own c columns o versions → is_number file o ≡ true → file ≢ own
  number_apart columns None versions h is same = absurd (cc is)
  number_apart columns (Some other) versions h is same = (let named : other ≡ file = grind (arith, is) in h.1 (named ∙ same))

  regions_apart : (log : Log) (A : ℕ → Bool) (o : Option ℕ) → AreRegionsRead own c log A o → is_number file o ≡ true → file ≢ own
  regions_apart log A None h is same = absurd (cc is)
  regions_apart log A (Some other) h is same = (let named : other ≡ file = grind (arith, is) in h.1 (named ∙ same))

  tiny_apart : (columns : List Column) (range : HandleRange) (s : StoredFile) (f : DeltaFile) → IsFileRead own c columns range s f → is_tiny_file file s ≡ true → file ≢ own
  tiny_apart columns range (Tiny other) f h is same = (let named : other ≡ file = grind (arith, is) in h.1 (named ∙ same))
  tiny_apart columns range (DeleteRange cleared) f h is same = absurd (cc is)

  either : (a b : Bool) → (a || b) ≡ true → (a ≡ true) ⊎ (b ≡ true)
  either true b h = inl refl
  either false b h = inr h

  files_apart : (columns : List Column) (range : HandleRange) (ss : List StoredFile) (fs : List DeltaFile) → AreFilesRead own c columns range ss fs → list_any (is_tiny_file file) ss ≡ true → file ≢ own
  files_apart columns range [] fs h is = absurd (cc is)
  files_apart columns range (s ∷ ss) [] h is = absurd h
  files_apart columns range (s ∷ ss) (f ∷ fs) h is = ⊎_elim (tiny_apart columns range s f h.0) (files_apart columns range ss fs h.1) (either (is_tiny_file file s) (list_any (is_tiny_file file) ss) is)

  segments_apart : (columns : List Column) (ss : List StoredSegment) (ts : List Segment) → AreSegmentsRead own c columns ss ts → list_any (is_file_of file) ss ≡ true → file ≢ own
  segments_apart columns [] ts h is = absurd (cc is)
  segments_apart columns (s ∷ ss) [] h is = absurd h
  segments_apart columns (s ∷ ss) (t ∷ ts) h is =
      ⊎_elim
      (λ here. ⊎_elim (number_apart columns s.stable t.stable h.0.stable) (files_apart columns s.range s.delta t.delta h.0.delta) (either (is_number file s.stable) (list_any (is_tiny_file file) s.delta) here))
      (segments_apart columns ss ts h.1) (either (is_file_of file s) (list_any (is_file_of file) ss) is)

pub file_apart : (log : Log) (A : ℕ → Bool) (own : ℕ) (has : Recovered) (c : Image) → Stands log A own has c → (file : ℕ) → is_file_in file has.state ≡ true → file ≢ own
file_apart log A own has c stands file is =
    ⊎_elim
    (regions_apart own c file log A has.state.regions stands.regions)
    (segments_apart own c file (columns_in log) has.state.segments stands.segments stands.read)
    (either own c file (is_number file has.state.regions) (list_any (is_file_of file) has.state.segments) is)

pub stands_beside : (log : Log) (A : ℕ → Bool) (own : ℕ) (has : Recovered) (d c : Image) → SameBut own d c → Stands log A own has d → Stands log A own has c
stands_beside log A own has d c same stands = stands_on log A own has d c (λ file is. same file (file_apart log A own has d stands file is)) stands

-- the old state and the new one after a commit
pub for_before : (log : Log) (A : ℕ → Bool) (safe : ℕ) (own : ℕ) (has : Recovered) (d c : Image) → HasStore d own has → SameBut own d c → HasStore c own has → StandsFor log A safe d → StandsFor log A safe c
for_before log A safe own has d c was same store stands =
    let there = by_store log A safe d own has was stands in
    standing log A safe c own has store there.0 (stands_beside log A own has d c same there.1)

pub for_after : (log : Log) (A : ℕ → Bool) (own : ℕ) (has : Recovered) (d c : Image) → SameBut own d c → HasStore c own has → Stands log A own has d → StandsFor log A has.state.safe_point c
for_after log A own has d c same store stands = standing log A has.state.safe_point c own has store refl (stands_beside log A own has d c same stands)

-- ---- images at each moment of a run

module _ (log : Log) (files : Image) (old : Image → Type 0) (sound : IsSound log files old) where
  module _ (m : Manifest) (kept : IsKept old m) where
    pub elsewhere_stands : (file : ℕ) → is_named m.file m.state file ≡ false → (c : Image) → Elsewhere file old c → StandsForSome log c
    elsewhere_stands file out c was =
        let there = store_now m old was.0 kept was.1 in
        let stood = sound.stands was.0 was.1 in
        (stood.0, stood.1, for_on log stood.0 stood.1 m.file (has_of m) was.0 c there (one_unnamed m.file m.state file was.0 c out was.2) stood.2)

    pub commit_stands : (A : ℕ → Bool) (state : State) → ((d : Image) → old d → Stands log A m.file (has_with m state) d) → (c : Image) → OldOrNew old m.file (has_of m) (has_with m state) c → StandsForSome log c
    commit_stands A state stand c (was, inl before) =
        let stood = sound.stands was.0 was.1 in
        (stood.0, stood.1, for_before log stood.0 stood.1 m.file (has_of m) was.0 c (store_now m old was.0 kept was.1) was.2 before stood.2)
    commit_stands A state stand c (was, inr done) = (A, state.safe_point, for_after log A m.file (has_with m state) was.0 c was.2 done (stand was.0 was.1))

  pub creation_stands : (c : Image) → OldOrMade old (begun log) c → StandsForSome log c
  creation_stands c from = by (old_or_begun log old c from)
    where
      by : old c ⊎ StandsFor log (λ _. false) 0 c → StandsForSome log c
      by (inl was) = sound.stands c was
      by (inr it) = ((λ _. false), 0, it)

-- ---- sound disks

-- fewer images
pub sound_fewer : (log : Log) (files : Image) (old new : Image → Type 0) → NoNew old new → IsSound log files old → IsSound log files new
sound_fewer log files old new fewer sound = record {
  stands = λ c left. sound.stands c (fewer c left);
  alike = λ c left. sound.alike c (fewer c left);
  new = λ is. record { unmade = less (sound.new is).unmade; none = λ c left. (sound.new is).none c (fewer c left) };
}
  where
    less : IsUnmade files old → IsUnmade files new
    less (inl bare) = inl (λ c left. bare c (fewer c left))
    less (inr (inl short)) = inr (inl (λ c left. short c (fewer c left)))
    less (inr (inr gate)) = inr (inr (λ c left. gate c (fewer c left)))

-- after a crash there is one image, which was one of those before
pub sound_crashed : (log : Log) (files after : Image) (old new : Image → Type 0) → IsSound log files old → old after → ((c : Image) → new c → (file : ℕ) → c file ≡ after file) → IsSound log after new
sound_crashed log files after old new sound was one = record {
  stands = λ c left. subst (StandsForSome log) (sym (same c left)) (sound.stands after was);
  alike = λ c left own has store file is. one c left file;
  new = λ is. record {
    unmade = one_new_unmade after new is one;
    none = λ c left own has store. absurd (not_new after own has (subst (λ d. HasStore d own has) (same c left) store) is);
  };
}
  where
    same : (c : Image) → new c → c ≡ after
    same c left = λ i file. one c left file i

-- a longer log
pub sound_onward : (short long : Log) → GoesOn short long → IsLawful long → (files : Image) (outcomes : Image → Type 0) → IsSound short files outcomes → IsSound long files outcomes
sound_onward short long goes lawful files outcomes sound = record {
  stands = λ c left. let it = sound.stands c left in (it.0, it.1, for_onward short long goes lawful it.0 it.1 c it.2);
  alike = sound.alike;
  new = sound.new;
}

-- a store in an image, which stands for the log, and whose files are as the disk reads them
abbrev IsStored : Log → Image → Image → Type 0
IsStored log files c = (own : ℕ) × (has : Recovered) × HasStore c own has × AreAlike files c has.state × StandsForSome log c

-- each image has a store
sound_stored : (log : Log) (files : Image) (outcomes : Image → Type 0) → ((c : Image) → outcomes c → outcomes files) → ((c : Image) → outcomes c → IsStored log files c) → IsSound log files outcomes
sound_stored log files outcomes reads each = record {
  stands = λ c left. (each c left).4;
  alike = λ c left own has store. let it = each c left in subst (λ (h : Recovered). AreAlike files c h.state) (same_store c it.0 own it.1 has it.2 store) it.3;
  new = λ is. record { unmade = inl (λ c left. absurd (made c left is)); none = λ c left own has store file. absurd (made c left is) };
}
  where
    made : (c : Image) → outcomes c → IsNew files → ⊥
    made c left is = (let it = each files (reads c left) in not_new files it.0 it.1 it.2 is)

module _ (log : Log) (m : Manifest) (files after : Image) (old new : Image → Type 0) (sound : IsSound log files old) (kept : IsKept old m) (reads : (c : Image) → new c → new after) where
  -- one file changes that isn't named
  pub sound_elsewhere : (file : ℕ) → is_named m.file m.state file ≡ false → SameBut file files after → ((c : Image) → new c → Elsewhere file old c) → IsSound log after new
  sound_elsewhere file out others from = sound_stored log after new reads each
    where
      each : (c : Image) → new c → IsStored log after c
      each c left =
          let was = from c left in
          let there = store_now m old was.0 kept was.1 in
          let same = one_unnamed m.file m.state file was.0 c out was.2 in
          let read = one_unnamed m.file m.state file files after out others in (
            m.file,
            has_of m,
            store_on m.file (has_of m) was.0 c same there,
            (λ other is. same other (file_named m.file m.state other is) ∙ sound.alike was.0 was.1 m.file (has_of m) there other is ∙ sym (read other (file_named m.file m.state other is))),
            elsewhere_stands log files old sound m kept file out c was,
          )

  -- a commit of a state that stands for the log, whose files are as the disk reads them
  pub sound_committed : (A : ℕ → Bool) (state : State) → ((d : Image) → old d → Stands log A m.file (has_with m state) d) → ((d : Image) → old d → AreAlike files d state) → SameBut m.file files after
      → ((c : Image) → new c → OldOrNew old m.file (has_of m) (has_with m state) c) → IsSound log after new
  sound_committed A state stand named others from = sound_stored log after new reads (λ c left. each c (from c left))
    where
      each : (c : Image) → OldOrNew old m.file (has_of m) (has_with m state) c → IsStored log after c
      each c (was, inl before) =
          let there = store_now m old was.0 kept was.1 in
          let stood = sound.stands was.0 was.1 in
          let by = by_store log stood.0 stood.1 was.0 m.file (has_of m) there stood.2 in (
            m.file,
            has_of m,
            before,
            (λ file is. let apart = file_apart log stood.0 m.file (has_of m) was.0 by.1 file is in was.2 file apart ∙ sound.alike was.0 was.1 m.file (has_of m) there file is ∙ sym (others file apart)),
            commit_stands log files old sound m kept A state stand c (was, inl before),
          )
      each c (was, inr done) =
          let by = stand was.0 was.1 in (
            m.file,
            has_with m state,
            done,
            (λ file is. let apart = file_apart log A m.file (has_with m state) was.0 by file is in was.2 file apart ∙ named was.0 was.1 file is ∙ sym (others file apart)),
            commit_stands log files old sound m kept A state stand c (was, inr done),
          )

-- ---- a store that is made

-- where it was made
pub sound_made : (log : Log) (m : Manifest) (files : Image) (outcomes : Image → Type 0) → ((c : Image) → outcomes c → outcomes files) → IsKept outcomes m → has_of m ≡ begun log → IsSound log files outcomes
sound_made log m files outcomes reads kept is = sound_stored log files outcomes reads each
  where
    each : (c : Image) → outcomes c → IsStored log files c
    each c left =
        let store = subst (HasStore c m.file) is (store_now m outcomes c kept left) in
        (m.file, begun log, store, (λ file named. absurd (cc (sym named ∙ begun_names_none log file))), ((λ _. false), 0, for_begun log m.file c store))

-- where it wasn't
pub sound_unmade : (log : Log) (files after : Image) (old new : Image → Type 0) → IsSound log files old → IsNew files → IsUnmade after new → ((c : Image) → new c → OldOrMade old (begun log) c) → IsSound log after new
sound_unmade log files after old new sound is unmade from = record {
  stands = λ c left. creation_stands log files old sound c (from c left);
  alike = λ c left own has store file named. absurd (cc (sym named ∙ none c left own has store file));
  new = λ _. record { unmade = unmade; none = none };
}
  where
    none_in : (c : Image) → OldOrMade old (begun log) c → (own : ℕ) (has : Recovered) → HasStore c own has → (file : ℕ) → is_file_in file has.state ≡ false
    none_in c (inl was) own has store file = (sound.new is).none c was own has store file
    none_in c (inr (apart, inl new)) own has store file = absurd (not_new c own has store new)
    none_in c (inr (apart, inr made)) own has store file = subst (λ (h : Recovered). is_file_in file h.state ≡ false) (same_store c 1 own (begun log) has made store) (begun_names_none log file)

    none : (c : Image) → new c → (own : ℕ) (has : Recovered) → HasStore c own has → (file : ℕ) → is_file_in file has.state ≡ false
    none c left = none_in c (from c left)

-- ---- what was opened

-- once the manifest is steadied each image has its files as the disk reads them
module _ (log : Log) (m : Manifest) (files : Image) (old new : Image → Type 0) (sound : IsSound log files old) (fewer : NoNew old new) (kept : IsKept new m) where
  opened_alike : (c : Image) → new c → AreAlike files c m.state
  opened_alike c left = sound.alike c (fewer c left) m.file (has_of m) (store_now m new c kept left)

  pub opened_segments : (ts : List Segment) → AreSegmentsRead m.file files (columns_in log) m.state.segments ts → (c : Image) → new c → AreSegmentsRead m.file c (columns_in log) m.state.segments ts
  opened_segments ts read c left = read_on m.file files c m.state (columns_in log) ts (opened_alike c left) read

  pub opened_regions : (A : ℕ → Bool) → AreRegionsRead m.file files log A m.state.regions → (c : Image) → new c → AreRegionsRead m.file c log A m.state.regions
  opened_regions A read c left = regions_read_on m.file files c m.state log A (opened_alike c left) read

-- ---- promises

pub at_least_lower : (log : Log) (B C : ℕ → Bool) (low high : ℕ) → IsInside B C → low ≤ high → (c : Image) → StandsAtLeast log C high c → StandsAtLeast log B low c
at_least_lower log B C low high inside le c it = record { set = it.set; safe_point = it.safe_point; inside = λ p h. it.inside p (inside p h); no_lower = omega (arith, le, it.no_lower); stands = it.stands }
