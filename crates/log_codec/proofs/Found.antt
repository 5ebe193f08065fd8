-- What a reading of a field tells when it succeeds.
use Rattle.std.proofs.Common.{◌≡◌, ℕ, ◌+◌, ◌-◌, ◌<◌, ◌≤◌, Bool, true, false, cond, ltb, List, [], ◌∷◌, ◌++◌, length, take, drop, Result, Ok, Err, refl, sym, ap, ◌∙◌, arith, length-take, length-append, append_assoc}
use Rattle.std.specs.Prelude.{◌||◌}
use Rattle.std.specs.Int.{Width, byte_len, from_be_bytes}
use Rattle.std.proofs.lemmas.Bool.{ltb-false}
use Rattle.std.proofs.Math.Seq.{drop-append_seam}
use Rattle.std.proofs.lemmas.List.{take-append-drop}
use Rattle.flash_list.specs.Steps.{◌>>=◌}
use Rattle.flash_list.specs.Fields.{number_at}
use Rattle.log_codec.specs.declared.fault.FrameError.{FrameError}
use Rattle.log_codec.specs.Fields.{passes, number_in, byte_in, bytes_at}

pub bind_ok : {A B E : Type 0} (r : Result A E) (f : A → Result B E) (y : B) → (r >>= f) ≡ Ok y → (x : A) × (r ≡ Ok x) × (f x ≡ Ok y)
bind_ok (Ok x) f y e = (x, refl, e)
bind_ok (Err d) f y e = absurd cc

pub guard_ok : {A E : Type 0} (b : Bool) (d : E) (x : Result A E) (y : A) → cond b (Err d) x ≡ Ok y → (b ≡ false) × (x ≡ Ok y)
guard_ok true d x y e = absurd cc
guard_ok false d x y e = (refl, e)

pub ok_is : {A E : Type 0} (x y : A) → ◌≡◌ {A = Result A E} (Ok x) (Ok y) → x ≡ y
ok_is x y e = cc e

or_false : (a b : Bool) → (a || b) ≡ false → (a ≡ false) × (b ≡ false)
or_false false b e = (refl, e)
or_false true b e = absurd cc

in_bounds : (n least greatest : ℕ) → (ltb n least || ltb greatest n) ≡ false → (least ≤ n) × (n ≤ greatest)
in_bounds n least greatest e =
    let p = or_false (ltb n least) (ltb greatest n) e in
    (ltb-false _ _ p.0, ltb-false _ _ p.1)

-- a number, its bytes and what stands behind them
pub record IsNumber (width : Width) (bytes : List ℕ) (x : ℕ × List ℕ) : Type 0 where
  pub long : byte_len width ≤ length bytes
  pub number : x.0 ≡ from_be_bytes width (take (byte_len width) bytes)
  pub rest : x.1 ≡ drop (byte_len width) bytes

pub number_found : {E : Type 0} (width : Width) (fault : E) (bytes : List ℕ) (x : ℕ × List ℕ) → number_at width fault bytes ≡ Ok x → IsNumber width bytes x
unfolding number_at
number_found width fault bytes x e =
    let g = guard_ok (ltb (length bytes) (byte_len width)) fault (Ok (from_be_bytes width (take (byte_len width) bytes), drop (byte_len width) bytes)) x e in
    let same = ok_is (from_be_bytes width (take (byte_len width) bytes), drop (byte_len width) bytes) x g.1 in
    record { long = ltb-false _ _ g.0; number = sym (ap (λ p. p.0) same); rest = sym (ap (λ p. p.1) same) }

pub number_in_found : (width : Width) (least greatest : ℕ) (fault : FrameError) (end : ℕ) (bytes : List ℕ) (x : ℕ × List ℕ) → number_in width least greatest fault end bytes ≡ Ok x
    → IsNumber width bytes x × ((least ≤ x.0) × (x.0 ≤ greatest))
unfolding number_in
number_in_found width least greatest fault end bytes x e =
    let a = bind_ok (number_at width fault bytes) (λ n. cond (ltb n.0 least || ltb greatest n.0) (Err (passes end bytes)) (Ok n)) x e in
    let g = guard_ok (ltb a.0.0 least || ltb greatest a.0.0) (passes end bytes) (Ok a.0) x a.2 in
    let same = ok_is a.0 x g.1 in
    let found : number_at width fault bytes ≡ Ok x = a.1 ∙ ap Ok same in
    let bounds = in_bounds a.0.0 least greatest g.0 in
    (number_found width fault bytes x found, (rw (sym (ap (λ p. p.0) same)) bounds.0, rw (sym (ap (λ p. p.0) same)) bounds.1))

pub byte_found : (least greatest : ℕ) (fault : FrameError) (end : ℕ) (bytes : List ℕ) (x : ℕ × List ℕ) → byte_in least greatest fault end bytes ≡ Ok x
    → (bytes ≡ x.0 ∷ x.1) × ((least ≤ x.0) × (x.0 ≤ greatest))
unfolding byte_in
byte_found least greatest fault end [] x e = absurd cc
byte_found least greatest fault end (b ∷ rest) x e =
    let g = guard_ok (ltb b least || ltb greatest b) (passes end (b ∷ rest)) (Ok (b, rest)) x e in
    let same = ok_is (b, rest) x g.1 in
    let bounds = in_bounds b least greatest g.0 in
    (ap (λ p. p.0 ∷ p.1) same, (rw (sym (ap (λ p. p.0) same)) bounds.0, rw (sym (ap (λ p. p.0) same)) bounds.1))

pub bytes_found : (end len : ℕ) (bytes : List ℕ) (x : List ℕ × List ℕ) → bytes_at end len bytes ≡ Ok x → (bytes ≡ x.0 ++ x.1) × (length x.0 ≡ len)
unfolding bytes_at
bytes_found end len bytes x e =
    let g = guard_ok (ltb (length bytes) len) (passes end bytes) (Ok (take len bytes, drop len bytes)) x e in
    let same = ok_is (take len bytes, drop len bytes) x g.1 in
    let long : len ≤ length bytes = ltb-false _ _ g.0 in
    let size : length (take len bytes) ≡ len = omega (arith, length-take len bytes) in
    (sym (take-append-drop len bytes) ∙ ap (λ p. p.0 ++ p.1) same, sym (ap (λ p. length p.0) same) ∙ size)

-- ---- what stands behind

abbrev pub Behind : List ℕ → List ℕ → Type 0
Behind bytes rest = (front : List ℕ) × (bytes ≡ front ++ rest)

pub behind_itself : (bytes : List ℕ) → Behind bytes bytes
behind_itself bytes = ([], refl)

pub further : (a b c : List ℕ) → Behind a b → Behind b c → Behind a c
further a b c p q = (p.0 ++ q.0, p.1 ∙ ap (λ (xs : List ℕ). p.0 ++ xs) q.1 ∙ sym (append_assoc p.0 q.0 c))

pub behind_number : (width : Width) (bytes : List ℕ) (x : ℕ × List ℕ) → IsNumber width bytes x → Behind bytes x.1
behind_number width bytes x n = (take (byte_len width) bytes, sym (take-append-drop (byte_len width) bytes) ∙ ap (λ (xs : List ℕ). take (byte_len width) bytes ++ xs) (sym n.rest))

pub behind_is_dropped : (bytes rest : List ℕ) → Behind bytes rest → drop (length bytes - length rest) bytes ≡ rest
behind_is_dropped bytes rest p =
    let len : length bytes ≡ length p.0 + length rest = ap length p.1 ∙ length-append p.0 rest in
    let k : length bytes - length rest ≡ length p.0 = omega (arith, len) in
    ap (λ n. drop n bytes) k ∙ ap (drop (length p.0)) p.1 ∙ drop-append_seam p.0 rest
