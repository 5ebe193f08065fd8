-- The longest run is a run, and none is longer.
use Rattle.std.proofs.Common.{◌≡◌, ◌∙◌, refl, sym, ap, subst, ℕ, zero, suc, ◌+◌, ◌≤◌, Bool, true, false, true≢false, List, [], ◌∷◌, length, take, drop, arith}
use Rattle.std.specs.Prelude.{max, nat_le}
use Rattle.std.specs.List.{AllByRecursion, prefix_len}
use Rattle.std.proofs.lemmas.Bool.Decides.{nat_tests}
use Rattle.column_file.specs.declared.file.ColumnFile.{ColumnFile}
use Rattle.delta_layer.specs.Files.{is_tiny}
use Rattle.segment_due.specs.Infos.{AreTinies, IsLongestRun, longest_run}

abbrev AllTiny : List ColumnFile → Type 0
AllTiny files = AllByRecursion (λ (f : ColumnFile). is_tiny f ≡ true) files

one_more : (f : ColumnFile) (fs : List ColumnFile) → is_tiny f ≡ true → prefix_len is_tiny (f ∷ fs) ≡ suc (prefix_len is_tiny fs)
one_more f fs e = rw e (omega arith)

no_more : (f : ColumnFile) (fs : List ColumnFile) → is_tiny f ≡ false → prefix_len is_tiny (f ∷ fs) ≡ 0
no_more f fs e = rw e refl

first_within : (fs : List ColumnFile) → prefix_len is_tiny fs ≤ length fs
first_within [] = omega arith
first_within (f ∷ fs) = by (is_tiny f) refl (first_within fs)
  where
    by : (b : Bool) → is_tiny f ≡ b → prefix_len is_tiny fs ≤ length fs → prefix_len is_tiny (f ∷ fs) ≤ length (f ∷ fs)
    by true e rest = omega (arith, one_more f fs e, rest)
    by false e rest = omega (arith, no_more f fs e)

first_tiny : (fs : List ColumnFile) → AllTiny (take (prefix_len is_tiny fs) fs)
first_tiny [] = tt
first_tiny (f ∷ fs) = by (is_tiny f) refl (first_tiny fs)
  where
    by : (b : Bool) → is_tiny f ≡ b → AllTiny (take (prefix_len is_tiny fs) fs) → AllTiny (take (prefix_len is_tiny (f ∷ fs)) (f ∷ fs))
    by true e rest = subst (λ (n : ℕ). AllTiny (take n (f ∷ fs))) (sym (one_more f fs e)) (e, rest)
    by false e rest = subst (λ (n : ℕ). AllTiny (take n (f ∷ fs))) (sym (no_more f fs e)) tt

none_longer : (fs : List ColumnFile) (m : ℕ) → m ≤ length fs → AllTiny (take m fs) → m ≤ prefix_len is_tiny fs
none_longer fs zero within all = omega arith
none_longer [] (suc m) within all = omega arith
none_longer (f ∷ fs) (suc m) within all = let rest : m ≤ prefix_len is_tiny fs = none_longer fs m (omega arith) all.1 in omega (arith, one_more f fs all.0, rest)

most : (fs : List ColumnFile) (other m : ℕ) → AreTinies fs other m → m ≤ longest_run fs
most [] other m are = omega (arith, are.within)
most (f ∷ fs) zero m are = let no : m ≤ prefix_len is_tiny (f ∷ fs) = none_longer (f ∷ fs) m (omega (arith, are.within)) are.tinies in omega (arith, no)
most (f ∷ fs) (suc other) m are = let rest : m ≤ longest_run fs = most fs other m (record { within = omega (arith, are.within); tinies = are.tinies }) in omega (arith, rest)

-- one of two is the greater
which : (a b : ℕ) (P : ℕ → Type 0) → P a → P b → P (max a b)
which a b P x y = by (nat_le b a) refl
  where
    by : (t : Bool) → nat_le b a ≡ t → P (max a b)
    by true e = (let le : b ≤ a = grind (arith, nat_tests) in let is : a ≡ max a b = omega (arith, le) in subst P is x)
    by false e = (let le : a ≤ b = grind (arith, nat_tests) in let is : b ≡ max a b = omega (arith, le) in subst P is y)

record Somewhere (files : List ColumnFile) (n : ℕ) : Type 0 where
  place : ℕ
  are : AreTinies files place n

somewhere : (files : List ColumnFile) → Somewhere files (longest_run files)
somewhere [] = record { place = 0; are = record { within = omega arith; tinies = tt } }
somewhere (f ∷ fs) =
    let rest = somewhere fs in
    which (prefix_len is_tiny (f ∷ fs)) (longest_run fs) (Somewhere (f ∷ fs))
    (record { place = 0; are = record { within = omega (arith, first_within (f ∷ fs)); tinies = first_tiny (f ∷ fs) } })
    (record { place = suc rest.place; are = record { within = omega (arith, rest.are.within); tinies = rest.are.tinies } })

pub longest_is : (files : List ColumnFile) → IsLongestRun files (longest_run files)
longest_is files = let there = somewhere files in record { place = there.place; are = there.are; most = most files }
