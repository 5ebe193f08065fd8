-- The numbers that flushes give.
use Rattle.std.proofs.Common.{◌≡◌, ◌∙◌, ℕ, zero, suc, ◌+◌, ◌≤◌, Bool, true, false, List, [], ◌∷◌, ◌++◌, take, add-one, refl, ap, arith}
use Rattle.std.specs.Prelude.{slice_get, Some}
use Rattle.std.specs.List.{AllByRecursion}
use Rattle.column_file.specs.declared.file.ColumnFile.{ColumnFile}
use Rattle.column_file.specs.declared.file.ColumnFile.TheVariants.{Mem, Tiny, DeleteRange}
use Rattle.segment_flush.specs.Flushing.{after_one, after_slots, flushed_slots, one_flushed}
use Rattle.segment_flush.proofs.Planned.{one_more}
use Rattle.segment_list.specs.Flushes.{after_file, after_files, flushed_files}
use Rattle.segment_list.specs.Slots.{Slotted}
use Rattle.segment_staging.specs.Staging.{AreBelow, IsFileBelow}

-- ---- lists

pub all_front : {X : Type 0} (P : X → Type 0) (n : ℕ) (xs : List X) → AllByRecursion P xs → AllByRecursion P (take n xs)
all_front P zero xs all = tt
all_front P (suc n) [] all = tt
all_front P (suc n) (x ∷ xs) all = (all.0, all_front P n xs all.1)

pub all_both : {X : Type 0} (P : X → Type 0) (xs ys : List X) → AllByRecursion P xs → AllByRecursion P ys → AllByRecursion P (xs ++ ys)
all_both P [] ys a b = b
all_both P (x ∷ xs) ys a b = (a.0, all_both P xs ys a.1 b)

-- ---- files

pub no_fewer : (n : ℕ) (fs : List ColumnFile) → n ≤ after_files n fs
no_fewer n [] = omega arith
no_fewer n (Mem block ∷ fs) = let rest = no_fewer (n + 1) fs in omega (arith, rest)
no_fewer n (Tiny file block ∷ fs) = no_fewer n fs
no_fewer n (DeleteRange range ∷ fs) = no_fewer n fs

-- the numbers of the first files are no more than those of all
pub fewer_files : (n k : ℕ) (files : List ColumnFile) → after_files n (take k files) ≤ after_files n files
fewer_files n zero files = no_fewer n files
fewer_files n (suc k) [] = omega arith
fewer_files n (suc k) (f ∷ fs) = fewer_files (after_file n f) k fs

pub files_below : (low n high : ℕ) → low ≤ n → (fs : List ColumnFile) → after_files n fs ≤ high → AreBelow low fs → AreBelow high (flushed_files n fs)
files_below low n high le [] within all = tt
files_below low n high le (Mem block ∷ fs) within all = let more = no_fewer (n + 1) fs in (omega (arith, within, more), files_below low (n + 1) high (omega (arith, le)) fs within all.1)
files_below low n high le (Tiny file block ∷ fs) within all = let more = no_fewer n fs in (omega (arith, within, more, le, all.0), files_below low n high le fs within all.1)
files_below low n high le (DeleteRange range ∷ fs) within all = (tt, files_below low n high le fs within all.1)

file_up : (low high : ℕ) → low ≤ high → (f : ColumnFile) → IsFileBelow low f → IsFileBelow high f
file_up low high le (Mem block) below = tt
file_up low high le (Tiny file block) below = omega (arith, le, below)
file_up low high le (DeleteRange range) below = tt

files_up : (low high : ℕ) → low ≤ high → (fs : List ColumnFile) → AreBelow low fs → AreBelow high fs
files_up low high le [] all = tt
files_up low high le (f ∷ fs) all = (file_up low high le f all.0, files_up low high le fs all.1)

-- the numbers of the first files that are written are below the next one
pub front_below : (next from : ℕ) (files : List ColumnFile) (i : ℕ) → next ≤ from → AreBelow next files → AreBelow (after_files from (take i files)) (flushed_files from (take i files))
front_below next from files i le all = files_below next from (after_files from (take i files)) le (take i files) (omega arith) (all_front (IsFileBelow next) i files all)

-- ---- slots

module _ {G : Type 0} (p : Slotted G → Bool) where
  pub no_fewer_slots : (n : ℕ) (slots : List (Slotted G)) → n ≤ after_slots p n slots
  no_fewer_slots n [] = omega arith
  no_fewer_slots n (s ∷ ss) = by (p s) (λ k. no_fewer_slots k ss)
    where
      by : (b : Bool) → ((k : ℕ) → k ≤ after_slots p k ss) → n ≤ after_slots p (after_one b n s) ss
      by true rest = (let one = no_fewer n s.files in let more = rest (after_files n s.files) in omega (arith, one, more))
      by false rest = rest n

  pub fewer_slots : (n k : ℕ) (slots : List (Slotted G)) → after_slots p n (take k slots) ≤ after_slots p n slots
  fewer_slots n zero slots = no_fewer_slots n slots
  fewer_slots n (suc k) [] = omega arith
  fewer_slots n (suc k) (s ∷ ss) = fewer_slots (after_one (p s) n s) k ss

  pub slots_below : (low n high : ℕ) → low ≤ n → (slots : List (Slotted G)) → after_slots p n slots ≤ high → AllByRecursion (λ (s : Slotted G). AreBelow low s.files) slots → AllByRecursion (λ (s : Slotted G). AreBelow high s.files) (flushed_slots p n slots)
  slots_below low n high le [] within all = tt
  slots_below low n high le (s ∷ ss) within all = by (p s) within (λ k up fits. slots_below low k high up ss fits all.1)
    where
      by : (b : Bool) → after_slots p (after_one b n s) ss ≤ high → ((k : ℕ) → low ≤ k → after_slots p k ss ≤ high → AllByRecursion (λ (t : Slotted G). AreBelow high t.files) (flushed_slots p k ss)) → AllByRecursion (λ (t : Slotted G). AreBelow high t.files) (one_flushed b n s ∷ flushed_slots p (after_one b n s) ss)
      by true within rest =
          let one = no_fewer n s.files in
          let more = no_fewer_slots (after_files n s.files) ss in
          (files_below low n high le s.files (omega (arith, more, within)) all.0, rest (after_files n s.files) (omega (arith, le, one)) within)
      by false within rest =
          let more = no_fewer_slots n ss in
          (files_up low high (omega (arith, le, more, within)) s.files all.0, rest n le within)

  -- one slot behind others
  slots_more : (n : ℕ) (ss : List (Slotted G)) (s : Slotted G) → flushed_slots p n (ss ++ s ∷ []) ≡ flushed_slots p n ss ++ one_flushed (p s) (after_slots p n ss) s ∷ []
  slots_more n [] s = refl
  slots_more n (t ∷ ts) s = ap (λ (r : List (Slotted G)). one_flushed (p t) n t ∷ r) (slots_more (after_one (p t) n t) ts s)

  pub next_flushed : (n : ℕ) (slots : List (Slotted G)) (i : ℕ) (s : Slotted G) → slice_get slots i ≡ Some s → flushed_slots p n (take (i + 1) slots) ≡ flushed_slots p n (take i slots) ++ one_flushed (p s) (after_slots p n (take i slots)) s ∷ []
  next_flushed n slots i s h = rw add-one (ap (flushed_slots p n) (one_more slots i s h)) ∙ slots_more n (take i slots) s
