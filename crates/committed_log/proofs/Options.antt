-- Options and results in clauses.
use Rattle.std.proofs.Common.{◌≡◌, refl, sym, cond, Option, Some, None, IsSome, Result, Ok, Err, OnOk, OnErr, ℕ, ◌<◌, ◌+◌, arith, is_some}
use Rattle.std.specs.Option.{option_or}

pub not_some : {X : Type 0} (o : Option X) → o ≡ None → IsSome o → ⊥
not_some None e h = cc h
not_some (Some x) e h = cc e

pub on_ok : {A E P : Type 0} (r : Result A E) → P → OnOk r P
on_ok (Ok x) p = p
on_ok (Err e) p = tt

pub on_ok_by : {A E P Q : Type 0} (r : Result A E) → (P → Q) → OnOk r P → OnOk r Q
on_ok_by (Ok x) f p = f p
on_ok_by (Err e) f p = tt

pub on_err_by : {A E P Q : Type 0} (r : Result A E) → (P → Q) → OnErr r P → OnErr r Q
on_err_by (Ok x) f p = tt
on_err_by (Err e) f p = f p

pub both_none : {A : Type 0} (a b : Option A) → option_or a b ≡ None → (a ≡ None) × (b ≡ None)
both_none None b e = (refl, e)
both_none (Some x) b e = cc

-- where one of m was taken out, n are left
pub one_fewer : {X : Type 0} (taken there : Option X) (n m : ℕ) → taken ≡ there → IsSome there → n + cond (is_some taken) 1 0 ≡ m → n < m
one_fewer None there n m e is len = absurd (not_some there (sym e) is)
one_fewer (Some x) there n m e is len = omega (arith, len)
