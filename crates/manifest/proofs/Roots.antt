-- What a root can say.
use Rattle.std.proofs.Common.{◌≡◌, ℕ, zero, suc, ◌+◌, ◌-◌, ◌<◌, Bool, true, false, ltb, eqb, List, [], ◌∷◌, length, take, drop, Option, Some, None, Result, Ok, Err, refl, sym, subst, arith}
use Rattle.std.specs.Prelude.{if◌then◌else◌}
use Rattle.std.specs.Int.{Width, w32, w64, byte_len, from_be_bytes}
use Rattle.flash_list.specs.Steps.{◌>>=◌, seen}
use Rattle.flash_list.specs.Fields.{number_at}
use Rattle.manifest_form.specs.declared.fault.Fault.{Fault}
use Rattle.manifest_form.specs.declared.fault.Fault.TheVariants.{At, Version, Memory}
use Rattle.manifest_form.specs.declared.root.RootEnd.{RootEnd}
use Rattle.manifest_form.specs.Fields.{here}
use Rattle.manifest_form.specs.Walk.{may_have, sized_at, record_at, walk, walk_on, root_step, root_of}
use Rattle.manifest_form.specs.Takes.{IsRoot, Closes}
use Rattle.manifest_form.specs.Roots.{file_named, NamesAt}
use Rattle.manifest.specs.Found.{RootAnswers, refusal_of}

-- it fails at a place alone
abbrev OnlyAt : {X : Type 0} → Result X Fault → Type 0
OnlyAt (Ok x) = Unit {0}
OnlyAt (Err (At at)) = Unit {0}
OnlyAt (Err (Version found)) = ⊥
OnlyAt (Err Memory) = ⊥

only_bind : {X Y : Type 0} (r : Result X Fault) (f : X → Result Y Fault) → OnlyAt r → ((x : X) → OnlyAt (f x)) → OnlyAt (r >>= f)
only_bind (Ok x) f one all = all x
only_bind (Err (At at)) f one all = tt
only_bind (Err (Version found)) f one all = one
only_bind (Err Memory) f one all = one

only_if : {X : Type 0} (b : Bool) (x y : Result X Fault) → OnlyAt x → OnlyAt y → OnlyAt (if b then x else y)
only_if true x y one two = one
only_if false x y one two = two

only_number : (w : Width) (at : ℕ) (bytes : List ℕ) → OnlyAt (number_at w (At at) bytes)
unfolding number_at
only_number w at bytes = only_if (ltb (length bytes) (byte_len w)) (Err (At at)) (Ok (from_be_bytes w (take (byte_len w) bytes), drop (byte_len w) bytes)) tt tt

only_sized : (wanted : Option ℕ) (end : ℕ) (bytes : List ℕ) → OnlyAt (sized_at wanted end bytes)
unfolding sized_at
only_sized wanted end bytes = only_bind (number_at w64 (At end) bytes) _ (only_number w64 end bytes)
    (λ len. only_if (may_have wanted len.0) (if ltb (length len.1) len.0 then Err (At end) else Ok (take len.0 len.1, drop len.0 len.1)) (Err (here end bytes)) (only_if (ltb (length len.1) len.0) (Err (At end)) (Ok (take len.0 len.1, drop len.0 len.1)) tt tt) tt)

only_record : (wanted : Option ℕ) (end : ℕ) (bytes : List ℕ) → OnlyAt (record_at wanted end bytes)
unfolding record_at
only_record wanted end [] = tt
only_record wanted end (gate ∷ bytes) = only_if (eqb gate 1) (sized_at wanted end bytes >>= λ found. Ok (Some found)) (Ok None) (only_bind (sized_at wanted end bytes) _ (only_sized wanted end bytes) (λ found. tt)) tt

only_on : (end gate : ℕ) (name : Option ℕ) (on : Option ℕ → List ℕ → Result (Option ℕ) Fault) → ((n : Option ℕ) (rest : List ℕ) → OnlyAt (on n rest)) → (found : Option (List ℕ × List ℕ)) → OnlyAt (walk_on root_step on end gate name found)
only_on end gate name on all None = tt
only_on end gate name on all (Some found) = only_bind (root_step gate (end - length found.1) name found.0) _ (only_bind (number_at w32 (At gate) found.0) _ (only_number w32 gate found.0) (λ n. tt)) (λ next. all next found.1)

only_walk : (end most : ℕ) (name : Option ℕ) (bytes : List ℕ) → OnlyAt (walk root_step (Some 4) end most name bytes)
unfolding walk
only_walk end zero name bytes = tt
only_walk end (suc most) name bytes = only_bind (record_at (Some 4) end bytes) _ (only_record (Some 4) end bytes) (only_on end (end - length bytes) name (walk root_step (Some 4) end most) (only_walk end most))

only_root : (bytes : List ℕ) → OnlyAt (root_of bytes)
unfolding root_of
only_root bytes = only_if (ltb (length bytes) 2) (Ok None) (walk root_step (Some 4) (length bytes) (length bytes) None bytes) tt (only_walk (length bytes) (length bytes) None bytes)

pub root_refused : (bytes : List ℕ) (fault : Fault) → Err fault ≡ root_of bytes → RootAnswers bytes (Err (refusal_of 0 fault))
root_refused bytes (At at) h = (refl, sym h)
root_refused bytes (Version found) h = absurd (subst OnlyAt (sym h) (only_root bytes))
root_refused bytes Memory h = absurd (subst OnlyAt (sym h) (only_root bytes))

-- no record names no file
not_empty : (file : ℕ) → IsRoot file [] → ⊥
unfolding walk record_at
not_empty file takes =
    let none : takes.count ≡ 0 = omega (arith, takes.within) in
    let is = takes.walks 1 (0 ∷ []) in
    let start : walk root_step (Some 4) 1 (takes.count + 1) None (0 ∷ []) ≡ Ok None = rw none refl in
    absurd (cc (start, is))

pub some_root : (file at : ℕ) (bytes : List ℕ) → Closes (IsRoot file) at bytes → 0 < at
some_root file at bytes closes = at_least closes.part closes.size closes.holds
  where
    at_least : (part : List ℕ) → length part ≡ at → IsRoot file part → 0 < at
    at_least [] size takes = absurd (not_empty file takes)
    at_least (b ∷ part) size takes = omega (arith, size)

pub root_named : (bytes : List ℕ) (name : Option RootEnd) → seen file_named (Ok name) ≡ root_of bytes → NamesAt bytes (Ok name) → RootAnswers bytes (Ok name)
root_named bytes None h at = sym h
root_named bytes (Some name) h at = (sym h, at, some_root name.file name.at bytes at)
