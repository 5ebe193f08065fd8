-- Lists that are written are read again.
use Rattle.std.proofs.Common.{◌≡◌, ℕ, ℤ, ◌^◌, ◌<◌, ◌≤◌, Bool, true, false, cond, ltb, eqb, List, [], ◌∷◌, ◌++◌, length, Option, Result, Ok, refl, sym, ap, ◌∙◌, arith, nat_eq}
use Rattle.std.specs.Prelude.{FitsSigned, IfSome}
use Rattle.std.specs.Int.{w64, cast_unsigned}
use Rattle.std.specs.Option.{is_none}
use Rattle.std.specs.Ordering.{int_eq}
use Rattle.std.specs.Cmp.Lexicographic.{pointwise}
use Rattle.std.specs.List.{AllByRecursion, list_all}
use Rattle.std.proofs.lemmas.Bool.{le-ltb}
use Rattle.std.proofs.lemmas.Bool.Decides.{Decides-int_eq}
use Rattle.std.proofs.lemmas.List.{length-map}
use Rattle.std.proofs.Math.Facts.{Fits-of_z}
use Rattle.column_codec.specs.declared.fault.CodecError.{CodecError}
use Rattle.column_codec.specs.declared.list.ColumnList.TheVariants as list
use Rattle.column_codec.specs.Numbers.{uint_at, int_at, text_at, AllFit}
use Rattle.column_codec.specs.Nulls.{flag_at, bitmap_at, nulls_from}
use Rattle.column_codec.specs.Lists.{given, mode_of, of_mode, ended, list_of, ints_of, uints_of, texts_of, list_at}
use Rattle.column_codec.specs.Spelling as spelling
use Rattle.column_codec.specs.Laws.{ListsAreReadAgain}
use Rattle.column_codec.proofs.Again.{both_true, Codec, by_given, int_again, uint_again, text_again}
use Rattle.column_codec.proofs.NullsAgain.{bitmap_again, nulls_again, nulls_part}

small : (b : Bool) → cond b 1 0 ≤ 1
small true = omega arith
small false = omega arith

small_mode : {X : Type 0} (same : X → X → Bool) (vs : List X) → mode_of same vs ≤ 1
small_mode same [] = omega arith
small_mode same (x ∷ []) = omega arith
small_mode same (x ∷ y ∷ others) = small (list_all (same x) (y ∷ others))

int_exact : (x y : ℤ) → int_eq x y ≡ true → x ≡ y
int_exact x y h = (Decides-int_eq x y).0 h

int_equal : (x : ℤ) → int_eq x x ≡ true
int_equal x = (Decides-int_eq x x).1 refl

nat_exact : (x y : ℕ) → nat_eq x y ≡ true → x ≡ y
nat_exact x y h = grind arith

nat_equal : (x : ℕ) → nat_eq x x ≡ true
nat_equal x = grind arith

texts_exact : (x y : List ℕ) → pointwise nat_eq x y ≡ true → x ≡ y
texts_exact [] [] h = refl
texts_exact [] (b ∷ y) h = absurd cc
texts_exact (a ∷ x) [] h = absurd cc
texts_exact (a ∷ x) (b ∷ y) h =
    let t = both_true (nat_eq a b) (pointwise nat_eq x y) h in
    ap (λ n. n ∷ x) (nat_exact a b t.0) ∙ ap (λ (ns : List ℕ). b ∷ ns) (texts_exact x y t.1)

texts_equal : (x : List ℕ) → pointwise nat_eq x x ≡ true
texts_equal [] = refl
texts_equal (a ∷ x) = rw (nat_equal a) (texts_equal x)

flag_again : (end m : ℕ) (rest : List ℕ) → m ≤ 1 → flag_at end (m ∷ rest) ≡ Ok (m, rest)
unfolding flag_at
flag_again end m rest le = let e : ltb 1 m ≡ false = le-ltb _ _ le in rw e refl

ended_again : (end m : ℕ) → ended end m m [] ≡ Ok (tt {0})
unfolding ended
ended_again end m = let e : eqb m m ≡ true = grind arith in rw e refl

list_again : {S X : Type 0} (read : ℕ → S → List ℕ → Result (X × List ℕ) CodecError) (write : S → X → List ℕ) (next : X → S) (start : S) (same : X → X → Bool) (Fits : X → Type 0) → ((end : ℕ) → Codec (read end) write next start same Fits)
    → (values : List (Option X)) → AllByRecursion (λ value. IfSome value Fits) values → list_of read next start same (length values) (spelling.values write next start same values) ≡ Ok values
unfolding list_of
list_again read write next start same Fits codec values all =
    let mode = mode_of same (given values) in
    let nulls = spelling.are_null values in
    let shown = spelling.each write next start (spelling.shown mode (given values)) in
    let bytes = mode ∷ (spelling.null_part nulls ++ shown) in
    let end = length bytes in
    let count : length nulls ≡ length values = length-map values is_none in
    let flag = flag_again end mode (spelling.null_part nulls ++ shown) (small_mode same (given values)) in
    let bits : bitmap_at end (length values) (spelling.null_part nulls ++ shown) ≡ Ok (nulls_part nulls, shown) = ap (λ n. bitmap_at end n (spelling.null_part nulls ++ shown)) (sym count) ∙ bitmap_again end nulls shown in
    let which : nulls_from (nulls_part nulls) 0 (length values) ≡ nulls = ap (nulls_from (nulls_part nulls) 0) (sym count) ∙ nulls_again nulls in
    let read_again : of_mode (read end) next start mode nulls shown ≡ Ok (values, []) = by_given (codec end) values (given values) all refl in
    rw (flag, bits, which, read_again, ended_again end mode) refl

ints_again : (values : List (Option ℤ)) → AllFit values → ints_of (length values) (spelling.ints values) ≡ Ok values
unfolding ints_of spelling.ints
ints_again values all = list_again int_at spelling.int (cast_unsigned w64) 0 int_eq (FitsSigned w64) (λ end. record {
  Good = λ n. n < 2 ^ 64;
  starts = omega arith;
  steps = λ z fits. (Fits-of_z {w = w64} {z = z} fits).fits;
  again = λ before z rest good fits. int_again end before z rest good fits;
  exact = λ x y h. int_exact x y h;
  equal = λ x. int_equal x;
}) values all

uints_again : (values : List (Option ℕ)) → AllByRecursion (λ value. IfSome value (λ n. n < 2 ^ 64)) values → uints_of (length values) (spelling.uints values) ≡ Ok values
unfolding uints_of spelling.uints
uints_again values all = list_again uint_at spelling.uint (λ n. n) 0 nat_eq (λ n. n < 2 ^ 64) (λ end. record {
  Good = λ n. n < 2 ^ 64;
  starts = omega arith;
  steps = λ n fits. fits;
  again = λ before n rest good fits. uint_again end before n rest good fits;
  exact = λ x y h. nat_exact x y h;
  equal = λ x. nat_equal x;
}) values all

texts_again : (values : List (Option (List ℕ))) → AllByRecursion (λ value. IfSome value (λ text. length text < 2 ^ 64)) values → texts_of (length values) (spelling.texts values) ≡ Ok values
unfolding texts_of spelling.texts
texts_again values all = list_again text_at spelling.text (λ _. tt {0}) (tt {0}) (pointwise nat_eq) (λ text. length text < 2 ^ 64) (λ end. record {
  Good = λ _. Unit {0};
  starts = tt {0};
  steps = λ text fits. tt {0};
  again = λ _ text rest good fits. text_again end text rest fits;
  exact = λ x y h. texts_exact x y h;
  equal = λ x. texts_equal x;
}) values all

pub lists_again : ListsAreReadAgain
unfolding list_at spelling.spelled
lists_again (list.Int values) fits = rw (ints_again values fits) refl
lists_again (list.Uint values) fits = rw (uints_again values fits) refl
lists_again (list.Bytes values) fits = rw (texts_again values fits) refl
