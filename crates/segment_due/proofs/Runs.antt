-- The longest run, one file more each time.
use Rattle.std.proofs.Common.{◌≡◌, ◌∙◌, refl, ap, ℕ, zero, suc, ◌+◌, ◌≤◌, true, false, List, [], ◌∷◌, Some, drop, arith, add-one}
use Rattle.std.specs.Prelude.{max, slice_get}
use Rattle.std.specs.List.{prefix_len}
use Rattle.column_file.specs.declared.file.ColumnFile.{ColumnFile}
use Rattle.delta_layer.specs.Files.{is_tiny}
use Rattle.segment_due.specs.Infos.{longest_run}

pub drop_at : {X : Type 0} (xs : List X) (i : ℕ) (x : X) → slice_get xs i ≡ Some x → drop i xs ≡ x ∷ drop (suc i) xs
drop_at [] i x e = absurd (cc e)
drop_at (y ∷ ys) zero x e = (let same : y ≡ x = cc in ap (λ z. z ∷ ys) same)
drop_at (y ∷ ys) (suc i) x e = drop_at ys i x e

-- the first run is no longer than the longest one
pub first_run_le : (fs : List ColumnFile) → prefix_len is_tiny fs ≤ longest_run fs
first_run_le [] = omega arith
first_run_le (f ∷ fs) = omega arith

-- how the runs of some files, and one that ends before them, come from those of the rest
prefix_tiny : (f : ColumnFile) (fs : List ColumnFile) → is_tiny f ≡ true → prefix_len is_tiny (f ∷ fs) ≡ 1 + prefix_len is_tiny fs
prefix_tiny f fs e = rw e refl

prefix_other : (f : ColumnFile) (fs : List ColumnFile) → is_tiny f ≡ false → prefix_len is_tiny (f ∷ fs) ≡ 0
prefix_other f fs e = rw e refl

longest_cons : (f : ColumnFile) (fs : List ColumnFile) → longest_run (f ∷ fs) ≡ max (prefix_len is_tiny (f ∷ fs)) (longest_run fs)
longest_cons f fs = refl

with_tiny : (best run : ℕ) (f : ColumnFile) (fs : List ColumnFile) → is_tiny f ≡ true → max best (max (run + prefix_len is_tiny (f ∷ fs)) (longest_run (f ∷ fs))) ≡ max (max best (run + 1)) (max (run + 1 + prefix_len is_tiny fs) (longest_run fs))
with_tiny best run f fs e = omega (arith, prefix_tiny f fs e, longest_cons f fs)

with_other : (best run : ℕ) (f : ColumnFile) (fs : List ColumnFile) → run ≤ best → is_tiny f ≡ false → max best (max (run + prefix_len is_tiny (f ∷ fs)) (longest_run (f ∷ fs))) ≡ max best (max (0 + prefix_len is_tiny fs) (longest_run fs))
with_other best run f fs le e = omega (arith, prefix_other f fs e, longest_cons f fs, first_run_le fs)

-- the longest run, where the longest one up to here and the one that ends here are known
abbrev pub with_rest : ℕ → ℕ → List ColumnFile → ℕ
with_rest best run fs = max best (max (run + prefix_len is_tiny fs) (longest_run fs))

pub one_more_tiny : (files : List ColumnFile) (i best run best' run' : ℕ) (f : ColumnFile) → slice_get files i ≡ Some f → is_tiny f ≡ true → run' ≡ run + 1 → best' ≡ max best (run + 1) → with_rest best run (drop i files) ≡ with_rest best' run' (drop (i + 1) files)
one_more_tiny files i best run best' run' f at e is_run is_best =
    rw (add-one, is_run, is_best)
    (ap (with_rest best run) (drop_at files i f at) ∙ with_tiny best run f (drop (suc i) files) e)

pub one_more_other : (files : List ColumnFile) (i best run best' run' : ℕ) (f : ColumnFile) → slice_get files i ≡ Some f → is_tiny f ≡ false → run ≤ best → run' ≡ 0 → best' ≡ best → with_rest best run (drop i files) ≡ with_rest best' run' (drop (i + 1) files)
one_more_other files i best run best' run' f at e le is_run is_best =
    rw (add-one, is_run, is_best)
    (ap (with_rest best run) (drop_at files i f at) ∙ with_other best run f (drop (suc i) files) le e)
