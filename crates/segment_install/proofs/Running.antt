-- The run of tiny files that a compaction takes.
use Rattle.std.proofs.Common.{◌≡◌, ◌∙◌, refl, sym, ap, subst, ℕ, zero, suc, ◌+◌, ◌-◌, ◌<◌, ◌≤◌, Bool, true, false, true≢false, ◌&&◌, ◌||◌, Option, Some, None, List, [], ◌∷◌, ◌++◌, length, take, drop, nat_lt, arith}
use Rattle.std.specs.Prelude.{slice_get, slice_range}
use Rattle.std.specs.List.{AllByRecursion, flat_map}
use Rattle.std.proofs.lemmas.Bool.Decides.{nat_tests}
use Rattle.std.proofs.Math.Seq.{drop-append_seam}
use Rattle.std.proofs.lemmas.List.{drop-append-le, length-append, length-drop, take-append-le}
use Rattle.column_block.specs.declared.cell.Version.{Version}
use Rattle.column_file.specs.declared.file.ColumnFile.{ColumnFile}
use Rattle.column_file.specs.declared.file.ColumnFile.TheVariants.{Tiny}
use Rattle.delta_layer.specs.Files.{is_tiny}
use Rattle.delta_layer.specs.Laws.{TinyFilesBecomeOne}
use Rattle.delta_layer.specs.Overlay.{block_in}
use Rattle.delta_layer.specs.Repacked.{CanCompact}
use Rattle.segment_laws.specs.Runs.{IsFirstRun, run_of, tiny_at_place}
use Rattle.segment_list.proofs.Gathers.{behind}
use Rattle.segment_work.specs.Jobs.{has_run}

tiny_in : Option ColumnFile → Bool
tiny_in o = elim o [ None ↦ false | Some f ↦ is_tiny f ]

tiny_front : (files : List ColumnFile) (n k : ℕ) → AllByRecursion (λ (f : ColumnFile). is_tiny f ≡ true) (take n files) → k < n → n ≤ length files → tiny_at_place files k ≡ true
tiny_front files zero k all lt le = absurd (omega (arith, lt))
tiny_front [] (suc n) k all lt le = absurd (omega (arith, le))
tiny_front (f ∷ fs) (suc n) zero all lt le = all.0
tiny_front (f ∷ fs) (suc n) (suc k) all lt le = tiny_front fs n k all.1 (omega (arith, lt)) (omega (arith, le))

-- a place of the run has a tiny file
pub tiny_within : (files : List ColumnFile) (from to k : ℕ) → AllByRecursion (λ (f : ColumnFile). is_tiny f ≡ true) (slice_range files from to) → from ≤ k → k < to → to ≤ length files → tiny_at_place files k ≡ true
unfolding tiny_in
tiny_within files from to k all low high within =
    let far : from + (k - from) ≡ k = omega (arith, low) in
    ap tiny_in (sym (ap (slice_get files) far) ∙ sym (behind from files (k - from)))
    ∙ tiny_front (drop from files) (to - from) (k - from) all (omega (arith, low, high)) (omega (arith, within, length-drop from files))

pub no_tiny_front : (files : List ColumnFile) (k : ℕ) → AllByRecursion (λ (f : ColumnFile). is_tiny f ≡ false) files → tiny_at_place files k ≡ false
no_tiny_front [] k all = refl
no_tiny_front (f ∷ fs) zero all = all.0
no_tiny_front (f ∷ fs) (suc k) all = no_tiny_front fs k all.1

pub no_tiny_behind : (files : List ColumnFile) (named k : ℕ) → AllByRecursion (λ (f : ColumnFile). is_tiny f ≡ false) (drop named files) → named ≤ k → tiny_at_place files k ≡ false
unfolding tiny_in
no_tiny_behind files named k all le =
    let far : named + (k - named) ≡ k = omega (arith, le) in
    ap tiny_in (sym (ap (slice_get files) far) ∙ sym (behind named files (k - named))) ∙ no_tiny_front (drop named files) (k - named) all

get_front : (some rest : List ColumnFile) (k : ℕ) → k < length some → slice_get (some ++ rest) k ≡ slice_get some k
get_front [] rest k lt = absurd (omega (arith, lt))
get_front (f ∷ fs) rest zero lt = refl
get_front (f ∷ fs) rest (suc k) lt = get_front fs rest k (omega (arith, lt))

pub no_tiny_from : (files : List ColumnFile) (n k : ℕ) (f : ColumnFile) → AllByRecursion (λ (g : ColumnFile). is_tiny g ≡ false) (drop n files) → n ≤ k → slice_get files k ≡ Some f → is_tiny f ≡ false
unfolding tiny_in
no_tiny_from files n k f all le there = sym (ap tiny_in there) ∙ no_tiny_behind files n k all le

under : (m n : ℕ) → nat_lt m n ≡ true → m < n
under m n is = grind (arith, nat_tests)

over : (m n : ℕ) → nat_lt m n ≡ false → n ≤ m
over m n is = grind (arith, nat_tests)

-- tiny files are among those that are named
pub run_named : (files : List ColumnFile) (from to named : ℕ) → from < to → to ≤ length files → AllByRecursion (λ (f : ColumnFile). is_tiny f ≡ true) (slice_range files from to) → AllByRecursion (λ (f : ColumnFile). is_tiny f ≡ false) (drop named files) → to ≤ named
run_named files from to named some within tinies none = by (nat_lt named to) refl
  where
    by : (t : Bool) → nat_lt named to ≡ t → to ≤ named
    by false e = over named to e
    by true e = (
        let less : named < to = under named to e in
        absurd (true≢false (sym (tiny_within files from to (to - 1) tinies (omega (arith, some)) (omega (arith, some)) within) ∙ no_tiny_behind files named (to - 1) none (omega (arith, less)))))

two_tiny : (files : List ColumnFile) (k : ℕ) → tiny_at_place files k ≡ true → tiny_at_place files (suc k) ≡ true → (tiny_at_place files k && tiny_at_place files (suc k)) ≡ true
two_tiny files k a b = ap (λ (t : Bool). t && tiny_at_place files (suc k)) a ∙ b

-- there is one first run
not_before : (files : List ColumnFile) (a b c d : ℕ) → IsFirstRun files a b → IsFirstRun files c d → a < c → ⊥
not_before files a b c d one other less =
    let many : suc a < b = one.many in
    true≢false (sym (two_tiny files a (tiny_within files a b a one.tinies (omega arith) (omega (arith, many)) one.within) (tiny_within files a b (suc a) one.tinies (omega arith) many one.within)) ∙ other.first a less)

not_shorter : (files : List ColumnFile) (a b d : ℕ) → IsFirstRun files a b → IsFirstRun files a d → b < d → ⊥
not_shorter files a b d one other less =
    let many : suc a < b = one.many in
    true≢false (sym (tiny_within files a d b other.tinies (omega (arith, many)) less other.within) ∙ one.ends)

same_or : (m n : ℕ) → (m < n → ⊥) → (n < m → ⊥) → m ≡ n
same_or m n a b = by (nat_lt m n) (nat_lt n m) refl refl
  where
    by : (s t : Bool) → nat_lt m n ≡ s → nat_lt n m ≡ t → m ≡ n
    by true t e f = absurd (a (under m n e))
    by false true e f = absurd (b (under n m f))
    by false false e f = omega (arith, over m n e, over n m f)

pub one_run : (files : List ColumnFile) (a b c d : ℕ) → IsFirstRun files a b → IsFirstRun files c d → (a ≡ c) × (b ≡ d)
one_run files a b c d one other =
    let begins : a ≡ c = same_or a c (not_before files a b c d one other) (not_before files c d a b other one) in
    let moved : IsFirstRun files a d = subst (λ (k : ℕ). IsFirstRun files k d) (sym begins) other in
    (begins, same_or b d (not_shorter files a b d one moved) (not_shorter files a d b moved one))

-- a run has two tiny files side by side
pub has_pair : (files : List ColumnFile) (k : ℕ) → tiny_at_place files k ≡ true → tiny_at_place files (suc k) ≡ true → has_run files ≡ true
has_pair [] k a b = absurd (true≢false (sym a))
has_pair (f ∷ fs) zero a b = ap (λ (t : Bool). (t && tiny_at_place fs 0) || has_run fs) a ∙ ap (λ (t : Bool). t || has_run fs) b
has_pair (f ∷ fs) (suc k) a b = by (is_tiny f && tiny_at_place fs 0) (has_pair fs k a b)
  where
    by : (t : Bool) → has_run fs ≡ true → (t || has_run fs) ≡ true
    by true rest = refl
    by false rest = rest

pub run_has : (files : List ColumnFile) (from to : ℕ) → IsFirstRun files from to → has_run files ≡ true
run_has files from to run =
    let many : suc from < to = run.many in
    has_pair files from (tiny_within files from to from run.tinies (omega arith) (omega (arith, many)) run.within) (tiny_within files from to (suc from) run.tinies (omega arith) many run.within)

-- a run of the first files is one of all
pub same_slice : (some rest : List ColumnFile) (from to : ℕ) → from ≤ to → to ≤ length some → slice_range (some ++ rest) from to ≡ slice_range some from to
same_slice some rest from to le within =
    ap (take (to - from)) (drop-append-le from some rest (omega (arith, le, within)))
    ∙ take-append-le (to - from) (drop from some) rest (omega (arith, le, within, length-drop from some))

pub run_can : TinyFilesBecomeOne → (files some rest : List ColumnFile) (from to number : ℕ) (versions : List Version) → files ≡ some ++ rest → IsFirstRun some from to → versions ≡ run_of some from to → CanCompact from to (Tiny number versions) files
run_can law files some rest from to number versions are run is =
    let many : suc from < to = run.many in
    let slice : slice_range files from to ≡ slice_range some from to = ap (λ (fs : List ColumnFile). slice_range fs from to) are ∙ same_slice some rest from to (omega (arith, many)) run.within in
    subst (λ (vs : List Version). CanCompact from to (Tiny number vs) files) (ap (flat_map block_in) slice ∙ sym is)
    (law files from to number (omega (arith, many)) (omega (arith, run.within, ap length are, length-append some rest)) (subst (AllByRecursion (λ (f : ColumnFile). is_tiny f ≡ true)) (sym slice) run.tinies))

pub run_tinies : (files some rest : List ColumnFile) (from to : ℕ) → files ≡ some ++ rest → IsFirstRun some from to → AllByRecursion (λ (f : ColumnFile). is_tiny f ≡ true) (slice_range files from to) × (to ≤ length files)
run_tinies files some rest from to are run =
    let many : suc from < to = run.many in
    let slice : slice_range files from to ≡ slice_range some from to = ap (λ (fs : List ColumnFile). slice_range fs from to) are ∙ same_slice some rest from to (omega (arith, many)) run.within in
    (subst (AllByRecursion (λ (f : ColumnFile). is_tiny f ≡ true)) (sym slice) run.tinies, omega (arith, run.within, ap length are, length-append some rest))

-- the first run of the first files is that of all, where no tiny file comes behind them
pub run_of_front : (some rest : List ColumnFile) (from to : ℕ) → IsFirstRun some from to → AllByRecursion (λ (f : ColumnFile). is_tiny f ≡ false) rest → IsFirstRun (some ++ rest) from to
unfolding tiny_in
run_of_front some rest from to run none = record {
  many = run.many;
  within = omega (arith, run.within, length-append some rest);
  tinies = subst (AllByRecursion (λ (f : ColumnFile). is_tiny f ≡ true)) (sym (same_slice some rest from to (let many : suc from < to = run.many in omega (arith, many)) run.within)) run.tinies;
  ends = by (nat_lt to (length some)) refl;
  first = λ k less. (let many : suc from < to = run.many in
      ap (λ (t : Bool). t && tiny_at_place (some ++ rest) (suc k)) (front k (omega (arith, less, many, run.within)))
      ∙ ap (λ (t : Bool). tiny_at_place some k && t) (front (suc k) (omega (arith, less, many, run.within)))
      ∙ run.first k less);
}
  where
    front : (k : ℕ) → k < length some → tiny_at_place (some ++ rest) k ≡ tiny_at_place some k
    front k lt = ap tiny_in (get_front some rest k lt)

    by : (t : Bool) → nat_lt to (length some) ≡ t → tiny_at_place (some ++ rest) to ≡ false
    by true e = front to (under to (length some) e) ∙ run.ends
    by false e = (
        let at : to ≡ length some = omega (arith, over to (length some) e, run.within) in
        no_tiny_behind (some ++ rest) (length some) to (subst (AllByRecursion (λ (f : ColumnFile). is_tiny f ≡ false)) (sym (drop-append_seam some rest)) none) (omega (arith, at)))
