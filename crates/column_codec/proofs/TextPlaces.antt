-- Texts behind each other in one list of bytes.
use Rattle.std.proofs.Common.{◌≡◌, ℕ, zero, suc, ◌+◌, ◌-◌, ◌≤◌, Bool, true, false, List, [], ◌∷◌, ◌++◌, length, take, drop, Option, Some, None, refl, ap, ◌∙◌, arith, length-append, option_map}
use Rattle.std.specs.Prelude.{slice_range}
use Rattle.std.proofs.lemmas.List.{map-append, take-append-le}
use Rattle.std.proofs.Math.Seq.{drop-append_seam}
use Rattle.column_codec.specs.declared.texts.Span.{Span}
use Rattle.column_codec.specs.Texts.{texts_of, AllLieIn}
use Rattle.column_codec.specs.Lists.{repeated}

drop_front : (n : ℕ) (xs ys : List ℕ) → n ≤ length xs → drop n (xs ++ ys) ≡ drop n xs ++ ys
drop_front zero xs ys le = refl
drop_front (suc n) [] ys le = absurd (omega arith)
drop_front (suc n) (x ∷ xs) ys le = drop_front n xs ys (omega arith)

drop_len : (n : ℕ) (xs : List ℕ) → n ≤ length xs → length (drop n xs) + n ≡ length xs
drop_len zero xs le = omega arith
drop_len (suc n) [] le = absurd (omega arith)
drop_len (suc n) (x ∷ xs) le = omega (arith, drop_len n xs (omega arith))

range_front : (bytes more : List ℕ) (from to : ℕ) → from ≤ to → to ≤ length bytes → slice_range (bytes ++ more) from to ≡ slice_range bytes from to
range_front bytes more from to order within =
    let d = drop_front from bytes more (omega arith) in
    let l = drop_len from bytes (omega arith) in
    ap (take (to - from)) d ∙ take-append-le (to - from) (drop from bytes) more (omega arith)

-- bytes behind them leave texts as they are
pub grown : (bytes more : List ℕ) (spans : List (Option Span)) → AllLieIn (length bytes) spans → texts_of (bytes ++ more) spans ≡ texts_of bytes spans
grown bytes more [] all = refl
grown bytes more (None ∷ spans) all = ap (λ (ts : List (Option (List ℕ))). None ∷ ts) (grown bytes more spans all.1)
grown bytes more (Some s ∷ spans) all =
    ap (λ t. Some t ∷ texts_of (bytes ++ more) spans) (range_front bytes more s.from s.to all.0.0 all.0.1) ∙ ap (λ (ts : List (Option (List ℕ))). Some (slice_range bytes s.from s.to) ∷ ts) (grown bytes more spans all.1)

whole : (xs : List ℕ) → take (length xs) xs ≡ xs
whole [] = refl
whole (x ∷ xs) = ap (λ (ys : List ℕ). x ∷ ys) (whole xs)

whole_behind : (bytes text : List ℕ) (from to : ℕ) → from ≡ length bytes → to ≡ length (bytes ++ text) → slice_range (bytes ++ text) from to ≡ text
whole_behind bytes text from to f t =
    let size : to - from ≡ length text = omega (arith, f, t, length-append bytes text) in
    let behind : drop from (bytes ++ text) ≡ text = ap (λ n. drop n (bytes ++ text)) f ∙ drop-append_seam bytes text in
    ap (take (to - from)) behind ∙ ap (λ n. take n text) size ∙ whole text

pub pushed : (bytes text : List ℕ) (spans : List (Option Span)) (from to : ℕ) → AllLieIn (length bytes) spans → from ≡ length bytes → to ≡ length (bytes ++ text)
    → texts_of (bytes ++ text) (spans ++ Some (record { from = from; to = to }) ∷ []) ≡ texts_of bytes spans ++ Some text ∷ []
pushed bytes text spans from to all f t =
    map-append (option_map (λ (span : Span). slice_range (bytes ++ text) span.from span.to)) spans (Some (record { from = from; to = to }) ∷ [])
    ∙ ap (λ (ts : List (Option (List ℕ))). ts ++ Some (slice_range (bytes ++ text) from to) ∷ []) (grown bytes text spans all)
    ∙ ap (λ s. texts_of bytes spans ++ Some s ∷ []) (whole_behind bytes text from to f t)

-- one place for all
pub same_place : (text : List ℕ) (span : Span) (nulls : List Bool) → span.from ≡ 0 → span.to ≡ length text → texts_of text (repeated span nulls) ≡ repeated text nulls
same_place text span [] f t = refl
same_place text span (true ∷ nulls) f t = ap (λ (ts : List (Option (List ℕ))). None ∷ ts) (same_place text span nulls f t)
same_place text span (false ∷ nulls) f t =
    ap (λ s. Some s ∷ texts_of text (repeated span nulls)) (whole_behind [] text span.from span.to f t) ∙ ap (λ (ts : List (Option (List ℕ))). Some text ∷ ts) (same_place text span nulls f t)

pub same_place_lies : (len : ℕ) (span : Span) (nulls : List Bool) → span.from ≤ span.to → span.to ≤ len → AllLieIn len (repeated span nulls)
same_place_lies len span [] f t = tt {0}
same_place_lies len span (true ∷ nulls) f t = (tt {0}, same_place_lies len span nulls f t)
same_place_lies len span (false ∷ nulls) f t = ((f, t), same_place_lies len span nulls f t)
