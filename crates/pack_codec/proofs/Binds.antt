-- Steps that may fail, taken apart.
use Rattle.std.proofs.Common.{◌≡◌, refl, ℕ, Bool, true, false, cond, Result, Ok, Err}
use Rattle.flash_list.specs.Steps.{◌>>=◌}

pub bind_ok : {A B E : Type 0} (r : Result A E) (f : A → Result B E) (y : B) → (r >>= f) ≡ Ok y → (x : A) × (r ≡ Ok x) × (f x ≡ Ok y)
bind_ok (Ok x) f y e = (x, refl, e)
bind_ok (Err e) f y h = cc h

pub bind_same : {A B E : Type 0} (r : Result A E) (f g : A → Result B E) → ((x : A) → r ≡ Ok x → f x ≡ g x) → (r >>= f) ≡ (r >>= g)
bind_same (Ok x) f g same = same x refl
bind_same (Err e) f g same = refl

pub if_ok : {A E : Type 0} (b : Bool) (x y : A) (e : E) → cond b (Ok x) (Err e) ≡ Ok y → (b ≡ true) × (x ≡ y)
if_ok true x y e h = (refl, cc h)
if_ok false x y e h = cc h

pub ok_is : {A E : Type 0} (x y : A) → ◌≡◌ {A = Result A E} (Ok x) (Ok y) → x ≡ y
ok_is x y e = cc e
