-- Positions that are added and taken out, one by one.
use Rattle.std.proofs.Common.{◌≡◌, ap, ℕ, cond, Option, Some, None, Result, Ok, Err, OnOk, OnErr, IfOk, IfErr, nat_cmp}
use Rattle.std.specs.BTreeMap.{is_at}
use Rattle.region_table.specs.Nexts.{plus, minus}

pub plus_at : (o : Option ℕ) (f g : ℕ → Option (Unit {0})) (q : ℕ) → f q ≡ g q → plus o f q ≡ plus o g q
plus_at None f g q same = same
plus_at (Some p) f g q same = ap (cond (is_at (nat_cmp p) q) (Some (tt {0}))) same

pub minus_at : (o : Option ℕ) (f g : ℕ → Option (Unit {0})) (q : ℕ) → f q ≡ g q → minus o f q ≡ minus o g q
minus_at None f g q same = same
minus_at (Some p) f g q same = ap (cond (is_at (nat_cmp p) q) None) same

pub on_ok : {X E P Q : Type 0} (r : Result X E) → (P → Q) → OnOk r P → OnOk r Q
on_ok (Ok x) f h = f h
on_ok (Err e) f h = tt

pub on_err : {X E P Q : Type 0} (r : Result X E) → (P → Q) → OnErr r P → OnErr r Q
on_err (Ok x) f h = tt
on_err (Err e) f h = f h

pub both_err : {X E P Q R : Type 0} (r : Result X E) → (P → Q → R) → OnErr r P → OnErr r Q → OnErr r R
both_err (Ok x) f g h = tt
both_err (Err e) f g h = f g h

pub both_ok : {X E : Type 0} (r : Result X E) (P Q R : X → Type 0) → ((x : X) → P x → Q x → R x) → IfOk r P → IfOk r Q → IfOk r R
both_ok (Ok x) P Q R f g h = f x g h
both_ok (Err e) P Q R f g h = tt

pub if_ok : {X E P : Type 0} (r : Result X E) → P → OnOk r P
if_ok (Ok x) h = h
if_ok (Err e) h = tt

pub err_weaker : {X E : Type 0} (r : Result X E) (P Q : E → Type 0) → ((e : E) → P e → Q e) → IfErr r P → IfErr r Q
err_weaker (Ok x) P Q f h = tt
err_weaker (Err e) P Q f h = f e h
