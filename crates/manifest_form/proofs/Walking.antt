-- A walk over records, as a loop makes it.
use Rattle.std.proofs.Common.{◌≡◌, ℕ, suc, ◌-◌, ◌+◌, ◌≤◌, ◌<◌, List, length, Option, Some, None, Result, Ok, Err, refl, sym, ap, subst, ◌∙◌, arith}
use Rattle.manifest_form.specs.declared.fault.Fault.{Fault}
use Rattle.manifest_form.specs.declared.fault.Fault.TheVariants.{At, Version, Memory}
use Rattle.manifest_form.specs.Faults.{Fails}
use Rattle.std.specs.Int.{w32}
use Rattle.flash_list.specs.Fields.{number_at}
use Rattle.manifest_form.specs.Walk.{record_at, walk, root_step}

module _ {S : Type 0} (step : ℕ → ℕ → S → List ℕ → Result S Fault) (wanted : Option ℕ) (end : ℕ) where
  pub starts : (most : ℕ) (s : S) (bytes : List ℕ) → walk step wanted end (most - 0) s bytes ≡ walk step wanted end most s bytes
  starts most s bytes = let k : most - 0 ≡ most = omega arith in ap (λ n. walk step wanted end n s bytes) k

  module _ (most i : ℕ) (s : S) (bytes : List ℕ) (total : Result S Fault) where
    abbrev pub SoFar : Type 0
    SoFar = walk step wanted end (most - i) s bytes ≡ total

    pub is_closed : i < most → record_at wanted end bytes ≡ Ok None → SoFar → total ≡ Ok s
    unfolding walk
    is_closed lt h so_far =
        let k : most - i ≡ suc (most - (i + 1)) = omega arith in
        let one : walk step wanted end (most - i) s bytes ≡ Ok s = rw (k, h) refl in
        sym so_far ∙ one

    pub is_damaged : (e : Fault) → i < most → record_at wanted end bytes ≡ Err e → SoFar → total ≡ Err e
    unfolding walk
    is_damaged e lt h so_far =
        let k : most - i ≡ suc (most - (i + 1)) = omega arith in
        let one : walk step wanted end (most - i) s bytes ≡ Err e = rw (k, h) refl in
        sym so_far ∙ one

    pub fails : (e : Fault) (r rest : List ℕ) → i < most → record_at wanted end bytes ≡ Ok (Some (r, rest)) → step (end - length bytes) (end - length rest) s r ≡ Err e → SoFar → total ≡ Err e
    unfolding walk
    fails e r rest lt h bad so_far =
        let k : most - i ≡ suc (most - (i + 1)) = omega arith in
        let one : walk step wanted end (most - i) s bytes ≡ Err e = rw (k, h, bad) refl in
        sym so_far ∙ one

    pub goes_on : (next : S) (r rest : List ℕ) → i < most → record_at wanted end bytes ≡ Ok (Some (r, rest)) → step (end - length bytes) (end - length rest) s r ≡ Ok next → SoFar
        → walk step wanted end (most - (i + 1)) next rest ≡ total
    unfolding walk
    goes_on next r rest lt h good so_far =
        let k : most - i ≡ suc (most - (i + 1)) = omega arith in
        let one : walk step wanted end (most - i) s bytes ≡ walk step wanted end (most - (i + 1)) next rest = rw (k, h, good) refl in
        sym one ∙ so_far

    pub is_done : most ≤ i → SoFar → total ≡ Err (At end)
    unfolding walk
    is_done le so_far =
        let k : most - i ≡ 0 = omega arith in
        let one : walk step wanted end (most - i) s bytes ≡ Err (At end) = rw k refl in
        sym so_far ∙ one

  pub step_fails : (most i : ℕ) (s : S) (bytes : List ℕ) (total : Result S Fault) (e : Fault) (r rest : List ℕ) → i < most → record_at wanted end bytes ≡ Ok (Some (r, rest)) → Fails e (step (end - length bytes) (end - length rest) s r)
      → walk step wanted end (most - i) s bytes ≡ total → Fails e total
  step_fails most i s bytes total Memory r rest lt h bad so_far = tt
  step_fails most i s bytes total (At at) r rest lt h bad so_far = fails most i s bytes total (At at) r rest lt h bad so_far
  step_fails most i s bytes total (Version found) r rest lt h bad so_far = fails most i s bytes total (Version found) r rest lt h bad so_far

-- the step of a root's record
module _ (gate place stop : ℕ) (before : Option ℕ) (number : List ℕ) (same : place ≡ gate) where
  pub root_good : (file : ℕ) (x : List ℕ) → Ok (file, x) ≡ number_at w32 (At gate) number → root_step place stop before number ≡ Ok (Some file)
  root_good file x h = rw (same, sym h) refl

  pub root_bad : (e : Fault) → Err e ≡ number_at w32 (At gate) number → root_step place stop before number ≡ Err e
  root_bad e h = rw (same, sym h) refl

-- what holds at the places that a program computed holds at those that the reading names
pub moved : (P : ℕ → ℕ → Type 0) (gate stop gate' stop' : ℕ) → gate ≡ gate' → stop ≡ stop' → P gate stop → P gate' stop'
moved P gate stop gate' stop' g s p = subst (λ n. P n stop') g (subst (P gate) s p)
