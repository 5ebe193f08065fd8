-- A list that is read is the one spelling of its values.
use Rattle.std.proofs.Common.{◌≡◌, ℕ, ℤ, suc, ◌^◌, ◌<◌, ◌≤◌, Bool, true, false, cond, eqb, List, [], ◌∷◌, ◌++◌, length, map, take, Option, None, Result, Ok, refl, sym, ap, ◌∙◌, append_assoc, subst, arith, nat_eq}
use Rattle.std.specs.Int.{w64, cast_unsigned}
use Rattle.std.specs.Option.{is_none}
use Rattle.std.specs.Ordering.{int_eq}
use Rattle.std.specs.Cmp.Lexicographic.{pointwise}
use Rattle.std.specs.List.{list_all}
use Rattle.std.proofs.lemmas.List.{append-nil, length-map}
use Rattle.std.proofs.Math.Facts.{Fits-of_z}
use Rattle.flash_list.specs.Steps.{◌>>=◌}
use Rattle.column_codec.specs.declared.fault.CodecError.{CodecError}
use Rattle.column_codec.specs.declared.fault.CodecError.TheVariants.{BadByte}
use Rattle.column_codec.specs.declared.list.ListKind.TheVariants as kind
use Rattle.column_codec.specs.declared.list.ColumnList.TheVariants as list
use Rattle.column_codec.specs.Laws.{AreBytes, IsList, ListsHaveOneSpelling}
use Rattle.column_codec.specs.Numbers.{uint_at, int_at, text_at}
use Rattle.column_codec.specs.Nulls.{flag_at, bitmap_at, nulls_from}
use Rattle.column_codec.specs.Lists.{values_at, value_at, repeated, given, mode_of, of_mode, ended, list_of, ints_of, uints_of, texts_of, list_at}
use Rattle.column_codec.specs.Spelling as spelling
use Rattle.column_codec.proofs.ValueSteps.{ok_is}
use Rattle.column_codec.proofs.SpelledNumbers.{bind_ok, only_ok, int_found, uint_found, text_found}
use Rattle.column_codec.proofs.SpelledNulls.{nulls_len, flag_found, bitmap_found}

are_behind : (front rest : List ℕ) → AreBytes (front ++ rest) → AreBytes rest
are_behind [] rest are = are
are_behind (b ∷ front) rest are = are_behind front rest (λ i. are (suc i))

-- how a kind of list is found
pub record Finder {S X : Type 0} (read : S → List ℕ → Result (X × List ℕ) CodecError) (write : S → X → List ℕ) (next : X → S) (start : S) : Type 1 where
  pub Good : S → Type 0
  pub starts : Good start
  pub found : (state : S) (bytes : List ℕ) (x : X × List ℕ) → Good state → AreBytes bytes → read state bytes ≡ Ok x → (bytes ≡ write state x.0 ++ x.1) × Good (next x.0)

record AreValues {S X : Type 0} (write : S → X → List ℕ) (next : X → S) (state : S) (nulls : List Bool) (mode : ℕ) (bytes : List ℕ) (x : List (Option X) × List ℕ) : Type 0 where
  nulls_are : spelling.are_null x.0 ≡ nulls
  bytes_are : bytes ≡ spelling.each write next state (spelling.shown mode (given x.0)) ++ x.1

nulls_repeated : {X : Type 0} (x : X) (nulls : List Bool) → spelling.are_null (repeated x nulls) ≡ nulls
nulls_repeated x [] = refl
nulls_repeated x (true ∷ nulls) = ap (λ bs. true ∷ bs) (nulls_repeated x nulls)
nulls_repeated x (false ∷ nulls) = ap (λ bs. false ∷ bs) (nulls_repeated x nulls)

first_repeated : {X : Type 0} (x : X) (nulls : List Bool) → list_all (λ null. null) nulls ≡ false → take 1 (given (repeated x nulls)) ≡ x ∷ []
first_repeated x [] h = absurd cc
first_repeated x (true ∷ nulls) h = first_repeated x nulls h
first_repeated x (false ∷ nulls) h = refl

abbrev all_null : {X : Type 0} → List Bool → List (Option X)
all_null nulls = map (λ _. None) nulls

none_nulls : (X : Type 0) (nulls : List Bool) → list_all (λ null. null) nulls ≡ true → spelling.are_null (all_null {X = X} nulls) ≡ nulls
none_nulls X [] h = refl
none_nulls X (true ∷ nulls) h = ap (λ bs. true ∷ bs) (none_nulls X nulls h)
none_nulls X (false ∷ nulls) h = absurd cc

none_given : {X : Type 0} (nulls : List Bool) → given (all_null {X = X} nulls) ≡ []
none_given [] = refl
none_given (null ∷ nulls) = none_given nulls

module _ {S X : Type 0} {read : S → List ℕ → Result (X × List ℕ) CodecError} {write : S → X → List ℕ} {next : X → S} {start : S} (finder : Finder read write next start) where
  values_found : (nulls : List Bool) (state : S) (bytes : List ℕ) (x : List (Option X) × List ℕ) → finder.Good state → AreBytes bytes → values_at read next nulls state bytes ≡ Ok x → AreValues write next state nulls 0 bytes x
  unfolding values_at
  values_found [] state bytes x good are h = subst (AreValues write next state [] 0 bytes) (ok_is ([], bytes) x h) (record { nulls_are = refl; bytes_are = refl })
  values_found (true ∷ nulls) state bytes x good are h =
      let a = bind_ok (values_at read next nulls state bytes) _ x h in
      let others = values_found nulls state bytes a.0 good are a.1 in
      subst (AreValues write next state (true ∷ nulls) 0 bytes) (ok_is _ x a.2) (record { nulls_are = ap (λ bs. true ∷ bs) others.nulls_are; bytes_are = others.bytes_are })
  values_found (false ∷ nulls) state bytes x good are h =
      let a = bind_ok (read state bytes) _ x h in
      let f = finder.found state bytes a.0 good are a.1 in
      let behind = are_behind (write state a.0.0) a.0.1 (subst AreBytes f.0 are) in
      let b = bind_ok (values_at read next nulls (next a.0.0) a.0.1) _ x a.2 in
      let others = values_found nulls (next a.0.0) a.0.1 b.0 f.1 behind b.1 in
      let whole : bytes ≡ (write state a.0.0 ++ spelling.each write next (next a.0.0) (given b.0.0)) ++ b.0.1 = f.0 ∙ ap (λ (xs : List ℕ). write state a.0.0 ++ xs) others.bytes_are ∙ sym (append_assoc (write state a.0.0) (spelling.each write next (next a.0.0) (given b.0.0)) b.0.1) in
      subst (AreValues write next state (false ∷ nulls) 0 bytes) (ok_is _ x b.2) (record { nulls_are = ap (λ bs. false ∷ bs) others.nulls_are; bytes_are = whole })

  value_found : (b : Bool) (nulls : List Bool) (bytes : List ℕ) (x : List (Option X) × List ℕ) → AreBytes bytes → list_all (λ null. null) nulls ≡ b
      → cond b (Ok (map (λ _. None) nulls, bytes)) (read start bytes >>= λ y. Ok (repeated y.0 nulls, y.1)) ≡ Ok x → AreValues write next start nulls 1 bytes x
  value_found true nulls bytes x are all h =
      let none : spelling.each write next start (spelling.shown 1 (given (all_null {X = X} nulls))) ≡ [] = ap (λ vs. spelling.each write next start (take 1 vs)) (none_given nulls) in
      subst (AreValues write next start nulls 1 bytes) (ok_is (map (λ _. None) nulls, bytes) x h) (record { nulls_are = none_nulls X nulls all; bytes_are = ap (λ (xs : List ℕ). xs ++ bytes) (sym none) })
  value_found false nulls bytes x are some h =
      let a = bind_ok (read start bytes) _ x h in
      let f = finder.found start bytes a.0 finder.starts are a.1 in
      let one : spelling.each write next start (spelling.shown 1 (given (repeated a.0.0 nulls))) ≡ write start a.0.0 = ap (spelling.each write next start) (first_repeated a.0.0 nulls some) ∙ append-nil (write start a.0.0) in
      subst (AreValues write next start nulls 1 bytes) (ok_is (repeated a.0.0 nulls, a.0.1) x a.2) (record { nulls_are = nulls_repeated a.0.0 nulls; bytes_are = f.0 ∙ ap (λ (xs : List ℕ). xs ++ a.0.1) (sym one) })

  mode_found : (b : Bool) (mode : ℕ) (nulls : List Bool) (bytes : List ℕ) (x : List (Option X) × List ℕ) → AreBytes bytes → mode ≤ 1 → eqb mode 0 ≡ b
      → cond b (values_at read next nulls start bytes) (value_at read nulls start bytes) ≡ Ok x → AreValues write next start nulls mode bytes x
  unfolding value_at
  mode_found true mode nulls bytes x are le is h =
      let mode_is : mode ≡ 0 = grind (arith, is) in
      subst (λ m. AreValues write next start nulls m bytes x) (sym mode_is) (values_found nulls start bytes x finder.starts are h)
  mode_found false mode nulls bytes x are le is h =
      let mode_is : mode ≡ 1 = grind (arith, is, le) in
      subst (λ m. AreValues write next start nulls m bytes x) (sym mode_is) (value_found (list_all (λ null. null) nulls) nulls bytes x are refl h)

ended_found : (end mode due : ℕ) (rest : List ℕ) (x : Unit {0}) → ended end mode due rest ≡ Ok x → (rest ≡ []) × (mode ≡ due)
unfolding ended
ended_found end mode due (b ∷ rest) x h = absurd cc
ended_found end mode due [] x h =
    let g = only_ok (eqb mode due) (BadByte 0) (Ok (tt {0})) x h in
    (refl, grind (arith, g.0))

pub list_found : {S X : Type 0} (read : ℕ → S → List ℕ → Result (X × List ℕ) CodecError) (write : S → X → List ℕ) (next : X → S) (start : S) (same : X → X → Bool) → ((end : ℕ) → Finder (read end) write next start)
    → (count : ℕ) (bytes : List ℕ) (values : List (Option X)) → AreBytes bytes → list_of read next start same count bytes ≡ Ok values → (bytes ≡ spelling.values write next start same values) × (length values ≡ count)
unfolding list_of of_mode
list_found read write next start same finder count bytes values are h =
    let end = length bytes in
    let a = bind_ok (flag_at end bytes) _ values h in
    let f = flag_found end bytes a.0 a.1 in
    let are_bits : AreBytes a.0.1 = λ i. subst AreBytes f.0 are (suc i) in
    let b = bind_ok (bitmap_at end count a.0.1) _ values a.2 in
    let nulls = nulls_from b.0.0 0 count in
    let bits = bitmap_found end count a.0.1 b.0 are_bits b.1 in
    let are_values = are_behind (spelling.null_part nulls) b.0.1 (subst AreBytes bits are_bits) in
    let v = bind_ok (cond (eqb a.0.0 0) (values_at (read end) next nulls start b.0.1) (value_at (read end) nulls start b.0.1)) _ values b.2 in
    let found = mode_found (finder end) (eqb a.0.0 0) a.0.0 nulls b.0.1 v.0 are_values f.1 refl v.1 in
    let d = bind_ok (ended end a.0.0 (mode_of same (given v.0.0)) v.0.1) _ values v.2 in
    let done = ended_found end a.0.0 (mode_of same (given v.0.0)) v.0.1 d.0 d.1 in
    let same_values = ok_is v.0.0 values d.2 in
    let mode = mode_of same (given v.0.0) in
    let shown : ℕ → List ℕ = λ m. spelling.each write next start (spelling.shown m (given v.0.0)) in
    let tail : b.0.1 ≡ shown a.0.0 = found.bytes_are ∙ ap (λ (xs : List ℕ). shown a.0.0 ++ xs) done.0 ∙ append-nil (shown a.0.0) in
    let behind : a.0.1 ≡ spelling.null_part (spelling.are_null v.0.0) ++ shown a.0.0 = bits ∙ ap (λ (xs : List ℕ). spelling.null_part nulls ++ xs) tail ∙ ap (λ bs. spelling.null_part bs ++ shown a.0.0) (sym found.nulls_are) in
    let whole : bytes ≡ spelling.values write next start same v.0.0 = f.0 ∙ ap (λ (xs : List ℕ). a.0.0 ∷ xs) behind ∙ ap (λ m. m ∷ (spelling.null_part (spelling.are_null v.0.0) ++ shown m)) done.1 in
    let len : length v.0.0 ≡ count = sym (length-map v.0.0 is_none) ∙ ap length found.nulls_are ∙ nulls_len b.0.0 0 count in
    subst (λ vs. (bytes ≡ spelling.values write next start same vs) × (length vs ≡ count)) same_values (whole, len)

ints_found : (count : ℕ) (bytes : List ℕ) (values : List (Option ℤ)) → AreBytes bytes → ints_of count bytes ≡ Ok values → (bytes ≡ spelling.ints values) × (length values ≡ count)
unfolding ints_of spelling.ints
ints_found count bytes values are h = list_found int_at spelling.int (cast_unsigned w64) 0 int_eq (λ end. record {
  Good = λ n. n < 2 ^ 64;
  starts = omega arith;
  found = λ before bytes x good are h. let f = int_found end before bytes x good are h in (f.bytes_are, (Fits-of_z {w = w64} {z = x.0} f.fits).fits);
}) count bytes values are h

uints_found : (count : ℕ) (bytes : List ℕ) (values : List (Option ℕ)) → AreBytes bytes → uints_of count bytes ≡ Ok values → (bytes ≡ spelling.uints values) × (length values ≡ count)
unfolding uints_of spelling.uints
uints_found count bytes values are h = list_found uint_at spelling.uint (λ n. n) 0 nat_eq (λ end. record {
  Good = λ n. n < 2 ^ 64;
  starts = omega arith;
  found = λ before bytes x good are h. let f = uint_found end before bytes x good are h in (f.bytes_are, f.below);
}) count bytes values are h

texts_found : (count : ℕ) (bytes : List ℕ) (values : List (Option (List ℕ))) → AreBytes bytes → texts_of count bytes ≡ Ok values → (bytes ≡ spelling.texts values) × (length values ≡ count)
unfolding texts_of spelling.texts
texts_found count bytes values are h = list_found text_at spelling.text (λ _. tt {0}) (tt {0}) (pointwise nat_eq) (λ end. record {
  Good = λ _. Unit {0};
  starts = tt {0};
  found = λ _ bytes x good are h. ((text_found end bytes x are h).bytes_are, tt {0});
}) count bytes values are h

pub lists_spelled : ListsHaveOneSpelling
unfolding list_at spelling.spelled
lists_spelled kind.Int count bytes l are h =
    let a = bind_ok (ints_of count bytes) _ l h in
    let f = ints_found count bytes a.0 are a.1 in
    subst (IsList kind.Int count bytes) (ok_is (list.Int a.0) l a.2) (record { is_kind = refl; is_count = f.1; bytes_are = f.0 })
lists_spelled kind.Uint count bytes l are h =
    let a = bind_ok (uints_of count bytes) _ l h in
    let f = uints_found count bytes a.0 are a.1 in
    subst (IsList kind.Uint count bytes) (ok_is (list.Uint a.0) l a.2) (record { is_kind = refl; is_count = f.1; bytes_are = f.0 })
lists_spelled kind.Bytes count bytes l are h =
    let a = bind_ok (texts_of count bytes) _ l h in
    let f = texts_found count bytes a.0 are a.1 in
    subst (IsList kind.Bytes count bytes) (ok_is (list.Bytes a.0) l a.2) (record { is_kind = refl; is_count = f.1; bytes_are = f.0 })
