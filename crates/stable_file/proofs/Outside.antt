-- Reading the end of a file, and how a call fails.
use Rattle.std.proofs.Common.{◌≡◌, ℕ, ◌+◌, ◌-◌, ◌≤◌, ◌<◌, true, false, ltb, List, length, take, drop, Result, Ok, Err, refl, sym, ap, ◌∙◌, arith, length-take, length-drop}
use Rattle.std.proofs.lemmas.Bool.{le-ltb, lt-ltb}
use Rattle.std.proofs.lemmas.List.{drop-take, take_all}
use Rattle.column_block.specs.declared.column.Column.{Column}
use Rattle.pack_codec.specs.declared.fault.FormError.{FormError}
use Rattle.pack_codec.specs.declared.fault.FormError.TheVariants as form
use Rattle.pack_codec.specs.Faults as form_faults
use Rattle.stable_file.specs.declared.fault.ReadError.{ReadError}
use Rattle.stable_file.specs.declared.fault.ReadError.TheVariants.{Device, Damaged, Memory}
use Rattle.stable_file.specs.Faults.{read_error, FailsOrDevice, IsOutside}
use Rattle.stable_file.specs.Footer.{size_at, footer_at, tail_at}

pub outside : {Y : Type 0} (e : ReadError) (read : Result Y FormError) → IsOutside e → FailsOrDevice e read
outside Device read h = tt
outside Memory read h = tt
outside (Damaged at) read h = absurd h

pub form_fault : {Y : Type 0} (e : FormError) (read : Result Y FormError) → Err e ≡ read → FailsOrDevice (read_error e) read
form_fault form.Memory read h = tt
form_fault (form.Damaged at) read h = sym h

pub form_fails : {Y : Type 0} (e : FormError) (read : Result Y FormError) → form_faults.Fails e read → FailsOrDevice (read_error e) read
form_fails form.Memory read h = tt
form_fails (form.Damaged at) read h = h

pub last_bytes : (len : ℕ) (bytes : List ℕ) → 12 ≤ len → length bytes ≡ len → take 12 (drop (len - 12) bytes) ≡ drop (len - 12) bytes
last_bytes len bytes some e = take_all 12 (drop (len - 12) bytes) (omega (arith, length-drop (len - 12) bytes, e))

pub no_end : (len : ℕ) (columns : List Column) (bytes : List ℕ) → len < 12 → length bytes ≡ len → tail_at len columns bytes ≡ Err (form.Damaged len)
unfolding tail_at
no_end len columns bytes lt e =
    let short : ltb (length bytes) 12 ≡ true = lt-ltb _ _ (omega (arith, e)) in
    rw short refl

front_len : (len : ℕ) (bytes : List ℕ) → length bytes ≡ len → length (take (length bytes - 12) bytes) ≡ len - 12
front_len len bytes e = omega (arith, length-take (length bytes - 12) bytes, e)

pub end_fails : (len : ℕ) (columns : List Column) (bytes : List ℕ) (e : ReadError) → 12 ≤ len → length bytes ≡ len → FailsOrDevice e (size_at len (len - 12) (drop (len - 12) bytes)) → FailsOrDevice e (tail_at len columns bytes)
unfolding tail_at
end_fails len columns bytes Device some is h = tt
end_fails len columns bytes Memory some is h = tt
end_fails len columns bytes (Damaged at) some is h =
    let long : ltb (length bytes) 12 ≡ false = le-ltb _ _ (omega (arith, is)) in
    rw (long, front_len len bytes is, is, h) refl

pub end_tells : (len : ℕ) (columns : List Column) (bytes : List ℕ) (size : ℕ) → 12 ≤ len → length bytes ≡ len → size ≤ len - 12 → size_at len (len - 12) (drop (len - 12) bytes) ≡ Ok size
    → tail_at len columns bytes ≡ footer_at (len - 12) columns (take size (drop (len - 12 - size) bytes))
unfolding tail_at
end_tells len columns bytes size some is le h =
    let long : ltb (length bytes) 12 ≡ false = le-ltb _ _ (omega (arith, is)) in
    let n = len - 12 - size in
    let sum : n + size ≡ len - 12 = omega arith in
    let part : drop n (take (len - 12) bytes) ≡ take size (drop n bytes) = ap (λ m. drop n (take m bytes)) (sym sum) ∙ drop-take n size bytes in
    rw (long, front_len len bytes is, is, h, part) refl
