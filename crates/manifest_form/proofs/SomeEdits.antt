-- Reading the edits of a record one after the other, as a loop does.
use Rattle.std.proofs.Common.{◌≡◌, ℕ, suc, zero, length, eqb, true, false, ◌-◌, ◌+◌, ◌≤◌, ◌<◌, List, [], ◌∷◌, ◌++◌, Result, Ok, Err, refl, sym, ap, ◌∙◌, append_assoc, arith}
use Rattle.std.proofs.lemmas.List.{append-nil}
use Rattle.std.proofs.lemmas.Bool.{eqb-true}
use Rattle.flash_list.specs.Steps.{◌>>=◌}
use Rattle.manifest_form.specs.declared.fault.Fault.{Fault}
use Rattle.manifest_form.specs.declared.fault.Fault.TheVariants.{At, Version, Memory}
use Rattle.manifest_form.specs.declared.state.Edit.{Edit}
use Rattle.manifest_form.specs.Faults.{Fails}
use Rattle.manifest_form.specs.Edits.{edit_at, some_edits}

-- what was read before, and what is still read
abbrev pub behind : List Edit → Result (List Edit) Fault → Result (List Edit) Fault
behind front read = read >>= λ edits. Ok (front ++ edits)

regroup : (front : List Edit) (e : Edit) (read : Result (List Edit) Fault) → behind front (read >>= λ edits. Ok (e ∷ edits)) ≡ behind (front ++ e ∷ []) read
regroup front e (Ok edits) = ap Ok (simp append_assoc)
regroup front e (Err f) = refl

pub starts : (most end : ℕ) (bytes : List ℕ) → behind [] (some_edits (most - 0) end bytes) ≡ some_edits most end bytes
starts most end bytes =
    let k : most - 0 ≡ most = omega arith in
    ap (λ n. behind [] (some_edits n end bytes)) k ∙ nothing_before (some_edits most end bytes)
  where
    nothing_before : (read : Result (List Edit) Fault) → behind [] read ≡ read
    nothing_before (Ok x) = refl
    nothing_before (Err e) = refl

pub ended : (front : List Edit) (most end : ℕ) (bytes : List ℕ) (total : Result (List Edit) Fault) → bytes ≡ [] → behind front (some_edits most end bytes) ≡ total → total ≡ Ok front
unfolding some_edits
ended front zero end [] total e so_far = sym so_far ∙ ap Ok (append-nil front)
ended front (suc most) end [] total e so_far = sym so_far ∙ ap Ok (append-nil front)
ended front most end (b ∷ bytes) total e so_far = absurd cc

pub is_done : (front : List Edit) (most i end : ℕ) (bytes : List ℕ) (total : Result (List Edit) Fault) → most ≤ i → behind front (some_edits (most - i) end bytes) ≡ total → total ≡ Ok front
unfolding some_edits
is_done front most i end bytes total le so_far =
    let k : most - i ≡ 0 = omega arith in
    let one : behind front (some_edits (most - i) end bytes) ≡ Ok front = rw k (ap Ok (append-nil front)) in
    sym so_far ∙ one

pub goes_on : (front : List Edit) (most i end : ℕ) (bytes : List ℕ) (e : Edit) (after : List ℕ) (total : Result (List Edit) Fault) → i < most → (bytes ≡ [] → ⊥) → edit_at end bytes ≡ Ok (e, after)
    → behind front (some_edits (most - i) end bytes) ≡ total → behind (front ++ e ∷ []) (some_edits (most - (i + 1)) end after) ≡ total
unfolding some_edits
goes_on front most i end [] e after total lt some h so_far = absurd (some refl)
goes_on front most i end (b ∷ bytes) e after total lt some h so_far =
    let k : most - i ≡ suc (most - (i + 1)) = omega arith in
    let one : behind front (some_edits (most - i) end (b ∷ bytes)) ≡ behind (front ++ e ∷ []) (some_edits (most - (i + 1)) end after) = rw (k, h) (regroup front e (some_edits (most - (i + 1)) end after)) in
    sym one ∙ so_far

edit_fails : (f : Fault) (front : List Edit) (most i end : ℕ) (bytes : List ℕ) (total : Result (List Edit) Fault) → i < most → (bytes ≡ [] → ⊥) → edit_at end bytes ≡ Err f → behind front (some_edits (most - i) end bytes) ≡ total → total ≡ Err f
unfolding some_edits
edit_fails f front most i end [] total lt some h so_far = absurd (some refl)
edit_fails f front most i end (b ∷ bytes) total lt some h so_far =
    let k : most - i ≡ suc (most - (i + 1)) = omega arith in
    let one : behind front (some_edits (most - i) end (b ∷ bytes)) ≡ Err f = rw (k, h) refl in
    sym so_far ∙ one

pub fails_here : (f : Fault) (front : List Edit) (most i end : ℕ) (bytes : List ℕ) (total : Result (List Edit) Fault) → i < most → (bytes ≡ [] → ⊥) → Fails f (edit_at end bytes)
    → behind front (some_edits (most - i) end bytes) ≡ total → Fails f total
fails_here Memory front most i end bytes total lt some h so_far = tt
fails_here (At at) front most i end bytes total lt some h so_far = edit_fails (At at) front most i end bytes total lt some h so_far
fails_here (Version found) front most i end bytes total lt some h so_far = edit_fails (Version found) front most i end bytes total lt some h so_far

pub is_nil : {X : Type 0} (xs : List X) → eqb (length xs) 0 ≡ true → xs ≡ []
is_nil [] e = refl
is_nil (x ∷ xs) e = let none : suc (length xs) ≡ 0 = eqb-true (suc (length xs)) 0 e in absurd (suc_is_not_zero (length xs) none)
  where
    suc_is_not_zero : (n : ℕ) → suc n ≡ 0 → ⊥
    suc_is_not_zero n e = omega (arith, e)

pub is_some : {X : Type 0} (xs : List X) → eqb (length xs) 0 ≡ false → xs ≡ [] → ⊥
is_some [] e same = absurd (cc (e))
is_some (x ∷ xs) e same = absurd (cc (same))
