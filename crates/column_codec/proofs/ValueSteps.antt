-- Reading the values of a list one after the other.
use Rattle.std.proofs.Common.{◌≡◌, ℕ, ℤ, zero, suc, ◌+◌, ◌-◌, ◌%◌, ◌^◌, ◌<◌, ◌≤◌, Bool, true, false, if◌then◌else◌, not, List, [], ◌∷◌, ◌++◌, length, map, drop, get_or, slice_get, Option, Some, None, Result, Ok, Err, refl, sym, ap, ◌∙◌, append_assoc, subst, arith}
use Rattle.std.proofs.lemmas.List.{append-nil, drop_all}
use Rattle.std.proofs.lemmas.Bool.{not-true, not-false}
use Rattle.std.proofs.lemmas.Option.{slice_get-get_or}
use Rattle.std.proofs.Math.Seq.{drop-cons}
use Rattle.std.specs.List.{list_all}
use Rattle.flash_list.specs.Steps.{◌>>=◌}
use Rattle.flash_list.proofs.Each.{with_front}
use Rattle.column_codec.specs.declared.fault.CodecError.{CodecError}
use Rattle.column_codec.specs.declared.fault.CodecError.TheVariants.{Short, BadByte, Long, Memory}
use Rattle.std.specs.Int.{w64, cast_signed, cast_unsigned}
use Rattle.std.specs.Prelude.{FitsSigned, IfSome}
use Rattle.std.proofs.lemmas.Int.{of_z-to_z}
use Rattle.std.proofs.Math.Facts.{sfits_to_z}
use Rattle.column_codec.specs.Faults.{Fails}
use Rattle.column_codec.specs.Numbers.{number_at, unfolded, uint_at, int_at, AllFit}
use Rattle.column_codec.specs.Nulls.{is_null, nulls_from}
use Rattle.column_codec.specs.Lists.{values_at, value_at, repeated, given, mode_of}
use Rattle.column_codec.proofs.NullSteps as nulls

regroup : {X E : Type 0} (front : List X) (n : X) (read : Result (List X × List ℕ) E) → with_front front (read >>= λ x. Ok (n ∷ x.0, x.1)) ≡ with_front (front ++ n ∷ []) read
regroup front n (Ok x) = ap (λ ns. Ok (ns, x.1)) (simp append_assoc)
regroup front n (Err f) = refl

nothing_before : {X E : Type 0} (read : Result (List X × List ℕ) E) → with_front [] read ≡ read
nothing_before (Ok x) = refl
nothing_before (Err e) = refl

pub null_next : {S X E : Type 0} (read : S → List ℕ → Result (X × List ℕ) E) (next : X → S) (front : List (Option X)) (bitmap : List ℕ) (count i : ℕ) (state : S) (bytes : List ℕ) (total : Result (List (Option X) × List ℕ) E)
    → i < count → is_null bitmap i ≡ true → with_front front (values_at read next (nulls_from bitmap i (count - i)) state bytes) ≡ total
    → with_front (front ++ None ∷ []) (values_at read next (nulls_from bitmap (i + 1) (count - (i + 1))) state bytes) ≡ total
unfolding values_at
null_next read next front bitmap count i state bytes total lt h so_far =
    let rest = nulls_from bitmap (i + 1) (count - (i + 1)) in
    let one : with_front front (values_at read next (nulls_from bitmap i (count - i)) state bytes) ≡ with_front (front ++ None ∷ []) (values_at read next rest state bytes) =
    rw (nulls.next bitmap i count lt, h) (regroup front None (values_at read next rest state bytes)) in
    sym one ∙ so_far

pub value_next : {S X E : Type 0} (read : S → List ℕ → Result (X × List ℕ) E) (next : X → S) (front : List (Option X)) (bitmap : List ℕ) (count i : ℕ) (state : S) (bytes : List ℕ) (n : X) (after : List ℕ) (total : Result (List (Option X) × List ℕ) E)
    → i < count → is_null bitmap i ≡ false → read state bytes ≡ Ok (n, after) → with_front front (values_at read next (nulls_from bitmap i (count - i)) state bytes) ≡ total
    → with_front (front ++ Some n ∷ []) (values_at read next (nulls_from bitmap (i + 1) (count - (i + 1))) (next n) after) ≡ total
unfolding values_at
value_next read next front bitmap count i state bytes n after total lt h r so_far =
    let rest = nulls_from bitmap (i + 1) (count - (i + 1)) in
    let one : with_front front (values_at read next (nulls_from bitmap i (count - i)) state bytes) ≡ with_front (front ++ Some n ∷ []) (values_at read next rest (next n) after) =
    rw (nulls.next bitmap i count lt, h, r) (regroup front (Some n) (values_at read next rest (next n) after)) in
    sym one ∙ so_far

value_fails : {S X : Type 0} (read : S → List ℕ → Result (X × List ℕ) CodecError) (next : X → S) (front : List (Option X)) (bitmap : List ℕ) (count i : ℕ) (state : S) (bytes : List ℕ) (e : CodecError) (total : Result (List (Option X) × List ℕ) CodecError)
    → i < count → is_null bitmap i ≡ false → read state bytes ≡ Err e → with_front front (values_at read next (nulls_from bitmap i (count - i)) state bytes) ≡ total → total ≡ Err e
unfolding values_at
value_fails read next front bitmap count i state bytes e total lt h r so_far =
    let one : with_front front (values_at read next (nulls_from bitmap i (count - i)) state bytes) ≡ Err e = rw (nulls.next bitmap i count lt, h, r) refl in
    sym so_far ∙ one

pub fault_is : {X : Type 0} (e : CodecError) (read : Result X CodecError) → read ≡ Err e → Fails e read
fault_is Memory read h = tt
fault_is (Short at) read h = h
fault_is (BadByte at) read h = h
fault_is (Long at) read h = h

pub fails_here : {S X : Type 0} (read : S → List ℕ → Result (X × List ℕ) CodecError) (next : X → S) (front : List (Option X)) (bitmap : List ℕ) (count i : ℕ) (state : S) (bytes : List ℕ) (e : CodecError) (total : Result (List (Option X) × List ℕ) CodecError)
    → i < count → is_null bitmap i ≡ false → read state bytes ≡ Err e → with_front front (values_at read next (nulls_from bitmap i (count - i)) state bytes) ≡ total → Fails e total
fails_here read next front bitmap count i state bytes e total lt h r so_far = fault_is e total (value_fails read next front bitmap count i state bytes e total lt h r so_far)

pub is_done : {S X E : Type 0} (read : S → List ℕ → Result (X × List ℕ) E) (next : X → S) (front : List (Option X)) (bitmap : List ℕ) (count i : ℕ) (state : S) (bytes : List ℕ) (total : Result (List (Option X) × List ℕ) E)
    → count ≤ i → with_front front (values_at read next (nulls_from bitmap i (count - i)) state bytes) ≡ total → total ≡ Ok (front, bytes)
unfolding values_at
is_done read next front bitmap count i state bytes total le so_far =
    let one : with_front front (values_at read next (nulls_from bitmap i (count - i)) state bytes) ≡ Ok (front, bytes) = rw (nulls.none_left bitmap i count le) (ap (λ ns. Ok (ns, bytes)) (append-nil front)) in
    sym so_far ∙ one

pub starts : {S X E : Type 0} (read : S → List ℕ → Result (X × List ℕ) E) (next : X → S) (bitmap : List ℕ) (count : ℕ) (state : S) (bytes : List ℕ) → with_front [] (values_at read next (nulls_from bitmap 0 (count - 0)) state bytes) ≡ values_at read next (nulls_from bitmap 0 count) state bytes
starts read next bitmap count state bytes =
    let k : count - 0 ≡ count = omega arith in
    ap (λ n. with_front [] (values_at read next (nulls_from bitmap 0 n) state bytes)) k ∙ nothing_before (values_at read next (nulls_from bitmap 0 count) state bytes)

-- ---- one value for all

pub repeats : {X : Type 0} (x : X) (front : List (Option X)) (bitmap : List ℕ) (count i : ℕ) (one : Option X) (total : List (Option X)) → i < count → one ≡ (if is_null bitmap i then None else Some x)
    → front ++ repeated x (nulls_from bitmap i (count - i)) ≡ total → (front ++ one ∷ []) ++ repeated x (nulls_from bitmap (i + 1) (count - (i + 1))) ≡ total
repeats x front bitmap count i one total lt is so_far =
    let rest = repeated x (nulls_from bitmap (i + 1) (count - (i + 1))) in
    let step : front ++ repeated x (nulls_from bitmap i (count - i)) ≡ front ++ one ∷ rest = rw (nulls.next bitmap i count lt) (ap (λ o. front ++ o ∷ rest) (sym is)) in
    append_assoc front (one ∷ []) rest ∙ sym step ∙ so_far

pub repeats_end : {X : Type 0} (x : X) (front : List (Option X)) (bitmap : List ℕ) (count i : ℕ) (total : List (Option X)) → count ≤ i → front ++ repeated x (nulls_from bitmap i (count - i)) ≡ total → front ≡ total
repeats_end x front bitmap count i total le so_far =
    let one : front ++ repeated x (nulls_from bitmap i (count - i)) ≡ front = rw (nulls.none_left bitmap i count le) (append-nil front) in
    sym one ∙ so_far

pub all_null_repeated : {X : Type 0} (x : X) (ns : List Bool) → list_all (λ null. null) ns ≡ true → map (λ _. None) ns ≡ repeated x ns
all_null_repeated x [] h = refl
all_null_repeated x (true ∷ ns) h = ap (λ (os : List (Option _)). None ∷ os) (all_null_repeated x ns h)
all_null_repeated x (false ∷ ns) h = absurd cc

pub all_null_listed : {S X E : Type 0} (read : S → List ℕ → Result (X × List ℕ) E) (state : S) (bytes : List ℕ) (ns : List Bool) (x : X) (items : List (Option X)) → list_all (λ null. null) ns ≡ true → items ≡ repeated x ns
    → value_at read ns state bytes ≡ Ok (items, bytes)
unfolding value_at
all_null_listed read state bytes ns x items h is = rw h (ap (λ os. Ok (os, bytes)) (all_null_repeated x ns h ∙ sym is))

-- ---- the mode

-- the mode so far, and what follows the first value
pub settled : {X : Type 0} → (X → X → Bool) → X → ℕ → List X → ℕ
settled same x mode [] = mode
settled same x mode (y ∷ others) = if list_all (same x) (y ∷ others) then 1 else 0

pub begins : {X : Type 0} (same : X → X → Bool) (x : X) (others : List X) → settled same x 0 others ≡ mode_of same (x ∷ others)
unfolding settled
begins same x [] = refl
begins same x (y ∷ others) = refl

pub same_again : {X : Type 0} (same : X → X → Bool) (x y : X) (mode : ℕ) (others : List X) → same x y ≡ true → settled same x mode (y ∷ others) ≡ settled same x 1 others
unfolding settled
same_again same x y mode [] h = rw h refl
same_again same x y mode (z ∷ others) h = rw h refl

pub differs : {X : Type 0} (same : X → X → Bool) (x y : X) (mode : ℕ) (others : List X) → same x y ≡ false → settled same x mode (y ∷ others) ≡ 0
unfolding settled
differs same x y mode others h = rw h refl

pub item_first : {X : Type 0} (xs : List X) (i : ℕ) (x : X) → i < length xs → x ≡ get_or xs i x → drop i xs ≡ x ∷ drop (i + 1) xs
item_first xs i x lt is =
    let k : suc i ≡ i + 1 = omega arith in
    drop-cons xs i x lt ∙ ap (λ y. y ∷ drop (suc i) xs) (sym is) ∙ ap (λ k. x ∷ drop k xs) k

pub item_got : {X : Type 0} (xs : List X) (i : ℕ) (x : X) → i < length xs → slice_get xs i ≡ Some x → x ≡ get_or xs i x
item_got xs i x lt got = cc (sym got ∙ slice_get-get_or xs i x lt)

pub null_passed : {X : Type 0} (values : List (Option X)) (i : ℕ) (item : Option X) → i < length values → item ≡ get_or values i item → item ≡ None → given (drop i values) ≡ given (drop (i + 1) values)
null_passed values i item lt is none = ap given (item_first values i item lt is ∙ ap (λ o. o ∷ drop (i + 1) values) none)

pub value_first : {X : Type 0} (values : List (Option X)) (i : ℕ) (item : Option X) (y : X) → i < length values → item ≡ get_or values i item → item ≡ Some y → given (drop i values) ≡ y ∷ given (drop (i + 1) values)
value_first values i item y lt is some = ap given (item_first values i item lt is ∙ ap (λ o. o ∷ drop (i + 1) values) some)

pub mode_null : {X : Type 0} (same : X → X → Bool) (values : List (Option X)) (x : X) (i mode total : ℕ) (item : Option X) → i < length values → item ≡ get_or values i item → item ≡ None
    → settled same x mode (given (drop i values)) ≡ total → settled same x mode (given (drop (i + 1) values)) ≡ total
mode_null same values x i mode total item lt is none so_far = ap (settled same x mode) (sym (null_passed values i item lt is none)) ∙ so_far

pub mode_same : {X : Type 0} (same : X → X → Bool) (values : List (Option X)) (x y : X) (i mode total : ℕ) (item : Option X) → i < length values → item ≡ get_or values i item → item ≡ Some y → false ≡ not (same x y)
    → settled same x mode (given (drop i values)) ≡ total → settled same x 1 (given (drop (i + 1) values)) ≡ total
mode_same same values x y i mode total item lt is some e so_far =
    sym (same_again same x y mode (given (drop (i + 1) values)) (not-false (same x y) (sym e))) ∙ ap (settled same x mode) (sym (value_first values i item y lt is some)) ∙ so_far

pub mode_differs : {X : Type 0} (same : X → X → Bool) (values : List (Option X)) (x y : X) (i mode total : ℕ) (item : Option X) → i < length values → item ≡ get_or values i item → item ≡ Some y → true ≡ not (same x y)
    → settled same x mode (given (drop i values)) ≡ total → 0 ≡ total
mode_differs same values x y i mode total item lt is some e so_far =
    sym (differs same x y mode (given (drop (i + 1) values)) (not-true (same x y) (sym e))) ∙ ap (settled same x mode) (sym (value_first values i item y lt is some)) ∙ so_far

pub mode_done : {X : Type 0} (same : X → X → Bool) (values : List (Option X)) (x : X) (i mode total : ℕ) → length values ≤ i → settled same x mode (given (drop i values)) ≡ total → mode ≡ total
unfolding settled
mode_done same values x i mode total le so_far = sym (ap (λ vs. settled same x mode (given vs)) (drop_all i values le)) ∙ so_far

-- ---- signed numbers

pub ok_is : {A E : Type 0} (x y : A) → ◌≡◌ {A = Result A E} (Ok x) (Ok y) → x ≡ y
ok_is x y e = cc e

is_below : (before : ℕ) (r : Result (ℕ × List ℕ) CodecError) (n : ℕ) (after : List ℕ) → ◌>>=◌ {B = ℕ × List ℕ} r (λ z. Ok ((before + unfolded z.0) % 2 ^ 64, z.1)) ≡ Ok (n, after) → n < 2 ^ 64
is_below before (Ok z) n after h = let e : (before + unfolded z.0) % 2 ^ 64 ≡ n = ap (λ p. p.0) (ok_is _ (n, after) h) in omega (arith, e)
is_below before (Err e) n after h = absurd cc

word_below : (end before : ℕ) (bytes : List ℕ) (n : ℕ) (after : List ℕ) → uint_at end before bytes ≡ Ok (n, after) → n < 2 ^ 64
unfolding uint_at
word_below end before bytes n after h = is_below before (number_at end bytes) n after h

pub int_read : (end before : ℕ) (bytes : List ℕ) (n : ℕ) (after : List ℕ) → uint_at end before bytes ≡ Ok (n, after) → int_at end before bytes ≡ Ok (cast_signed w64 n, after)
unfolding int_at
int_read end before bytes n after h = rw h refl

pub int_fails : (end before : ℕ) (bytes : List ℕ) (e : CodecError) → uint_at end before bytes ≡ Err e → int_at end before bytes ≡ Err e
unfolding int_at
int_fails end before bytes e h = rw h refl

pub int_word : (end before : ℕ) (bytes : List ℕ) (n : ℕ) (after : List ℕ) → uint_at end before bytes ≡ Ok (n, after) → cast_unsigned w64 (cast_signed w64 n) ≡ n
int_word end before bytes n after h = of_z-to_z w64 n (word_below end before bytes n after h)

pub replaced : {A B C : Type 0} (Kept : A → B → C → Type 0) (a a' : A) (b b' : B) (c c' : C) → a ≡ a' → b ≡ b' → c ≡ c' → Kept a' b' c' → Kept a b c
replaced Kept a a' b b' c c' p q r k = subst (λ x. Kept x b c) (sym p) (subst (λ y. Kept a' y c) (sym q) (subst (λ z. Kept a' b' z) (sym r) k))

pub word_fits : (end before : ℕ) (bytes : List ℕ) (n : ℕ) (after : List ℕ) → uint_at end before bytes ≡ Ok (n, after) → FitsSigned w64 (cast_signed w64 n)
word_fits end before bytes n after h = sfits_to_z {w = w64} {n = n} (record { fits = word_below end before bytes n after h })

int_from : (end before : ℕ) (bytes : List ℕ) (r : Result (ℕ × List ℕ) CodecError) (z : ℤ) (after : List ℕ) → uint_at end before bytes ≡ r → ◌>>=◌ {B = ℤ × List ℕ} r (λ n. Ok (cast_signed w64 n.0, n.1)) ≡ Ok (z, after) → FitsSigned w64 z
int_from end before bytes (Ok n) z after r h = let e : cast_signed w64 n.0 ≡ z = ap (λ p. p.0) (ok_is _ (z, after) h) in subst (FitsSigned w64) e (word_fits end before bytes n.0 n.1 r)
int_from end before bytes (Err e) z after r h = absurd cc

pub int_fits : (end before : ℕ) (bytes : List ℕ) (z : ℤ) (after : List ℕ) → int_at end before bytes ≡ Ok (z, after) → FitsSigned w64 z
unfolding int_at
int_fits end before bytes z after h = int_from end before bytes (uint_at end before bytes) z after refl h

pub fit_more : (xs : List (Option ℤ)) (o : Option ℤ) → AllFit xs → IfSome o (FitsSigned w64) → AllFit (xs ++ o ∷ [])
fit_more [] o all fit = (fit, tt {0})
fit_more (x ∷ xs) o all fit = (all.0, fit_more xs o all.1 fit)

pub fit_at : (xs : List (Option ℤ)) (i : ℕ) (z : ℤ) → AllFit xs → i < length xs → Some z ≡ get_or xs i (Some z) → FitsSigned w64 z
fit_at [] i z all lt is = absurd (omega arith)
fit_at (x ∷ xs) zero z all lt is = subst (λ o. IfSome o (FitsSigned w64)) (sym is) all.0
fit_at (x ∷ xs) (suc i) z all lt is = fit_at xs i z all.1 (omega arith) is

pub repeated_fit : (z : ℤ) (ns : List Bool) → FitsSigned w64 z → AllFit (repeated z ns)
repeated_fit z [] fit = tt {0}
repeated_fit z (true ∷ ns) fit = (tt {0}, repeated_fit z ns fit)
repeated_fit z (false ∷ ns) fit = (fit, repeated_fit z ns fit)
