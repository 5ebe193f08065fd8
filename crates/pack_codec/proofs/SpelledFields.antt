-- Fields that are read are the one spelling of what they give.
use Rattle.std.proofs.Common.{◌≡◌, ◌∙◌, refl, sym, ap, subst, ℕ, zero, suc, ◌+◌, ◌≤◌, Bool, true, false, cond, nat_lt, List, [], ◌∷◌, ◌++◌, append_assoc, length, take, drop, Option, Some, None, Result, Ok, Err, arith, length-append, length-take}
use Rattle.std.specs.Int.{w16, w32, w64, to_be_bytes, from_be_bytes}
use Rattle.std.specs.Result.{result_ok}
use Rattle.std.proofs.lemmas.Bool.{ltb-false}
use Rattle.std.proofs.lemmas.Nat.{be_bytes_2, be_bytes_4, be_bytes_8}
use Rattle.std.proofs.lemmas.List.{take-append-drop}
use Rattle.flash_list.specs.Steps.{◌>>=◌}
use Rattle.flash_list.specs.Fields.{number_at}
use Rattle.column_codec.specs.declared.fault.CodecError.{CodecError}
use Rattle.column_codec.specs.declared.list.ListKind.{ListKind}
use Rattle.column_codec.specs.declared.list.ColumnList.{ColumnList}
use Rattle.column_codec.specs.Laws.{AreBytes, IsList, kind_of, count_of}
use Rattle.column_codec.specs.Lists.{list_at}
use Rattle.column_codec.specs.Spelling.{spelled}
use Rattle.column_codec.proofs.SpelledLists.{lists_spelled}
use Rattle.pack_codec.specs.declared.fault.FormError.{FormError}
use Rattle.pack_codec.specs.declared.fault.FormError.TheVariants.{Damaged}
use Rattle.pack_codec.specs.Faults.{here}
use Rattle.pack_codec.specs.Reading.{any_at, any_behind, found_at, list_behind}
use Rattle.pack_codec.specs.Spelling.{sized}
use Rattle.pack_codec.proofs.Binds.{bind_ok, ok_is}

-- ---- bytes

front_are : (xs ys : List ℕ) → AreBytes (xs ++ ys) → AreBytes xs
front_are [] ys all i = omega arith
front_are (x ∷ xs) ys all zero = all 0
front_are (x ∷ xs) ys all (suc i) = front_are xs ys (λ j. all (suc j)) i

pub behind_are : (xs ys : List ℕ) → AreBytes (xs ++ ys) → AreBytes ys
behind_are [] ys all = all
behind_are (x ∷ xs) ys all = behind_are xs ys (λ j. all (suc j))

pub front_bytes : (k : ℕ) (bytes : List ℕ) → AreBytes bytes → AreBytes (take k bytes)
front_bytes k bytes all = front_are (take k bytes) (drop k bytes) (subst AreBytes (sym (take-append-drop k bytes)) all)

-- ---- numbers

pub u64_spelled : {E : Type 0} (fault : E) (bytes : List ℕ) (x : ℕ × List ℕ) → number_at w64 fault bytes ≡ Ok x → AreBytes bytes → bytes ≡ to_be_bytes w64 x.0 ++ x.1
unfolding number_at
u64_spelled {E} fault bytes x e all = by (nat_lt (length bytes) 8) refl e
  where
    by : (b : Bool) → nat_lt (length bytes) 8 ≡ b → ◌≡◌ {A = Result (ℕ × List ℕ) E} (cond b (Err fault) (Ok (from_be_bytes w64 (take 8 bytes), drop 8 bytes))) (Ok x) → bytes ≡ to_be_bytes w64 x.0 ++ x.1
    by true is h = cc h
    by false is h =
        let long : 8 ≤ length bytes = ltb-false (length bytes) 8 is in
        let size : length (take 8 bytes) ≡ 8 = omega (arith, length-take 8 bytes, long) in
        let number : x.0 ≡ from_be_bytes w64 (take 8 bytes) = sym (ap (λ (p : ℕ × List ℕ). p.0) (ok_is _ x h)) in
        let rest : drop 8 bytes ≡ x.1 = ap (λ (p : ℕ × List ℕ). p.1) (ok_is _ x h) in
        let written : to_be_bytes w64 x.0 ≡ take 8 bytes = be_bytes_8 (take 8 bytes) x.0 size (front_bytes 8 bytes all) number in
        sym (take-append-drop 8 bytes) ∙ ap (λ (xs : List ℕ). xs ++ drop 8 bytes) (sym written) ∙ ap (λ (xs : List ℕ). to_be_bytes w64 x.0 ++ xs) rest

pub u16_spelled : {E : Type 0} (fault : E) (bytes : List ℕ) (x : ℕ × List ℕ) → number_at w16 fault bytes ≡ Ok x → AreBytes bytes → bytes ≡ to_be_bytes w16 x.0 ++ x.1
unfolding number_at
u16_spelled {E} fault bytes x e all = by (nat_lt (length bytes) 2) refl e
  where
    by : (b : Bool) → nat_lt (length bytes) 2 ≡ b → ◌≡◌ {A = Result (ℕ × List ℕ) E} (cond b (Err fault) (Ok (from_be_bytes w16 (take 2 bytes), drop 2 bytes))) (Ok x) → bytes ≡ to_be_bytes w16 x.0 ++ x.1
    by true is h = cc h
    by false is h =
        let long : 2 ≤ length bytes = ltb-false (length bytes) 2 is in
        let size : length (take 2 bytes) ≡ 2 = omega (arith, length-take 2 bytes, long) in
        let number : x.0 ≡ from_be_bytes w16 (take 2 bytes) = sym (ap (λ (p : ℕ × List ℕ). p.0) (ok_is _ x h)) in
        let rest : drop 2 bytes ≡ x.1 = ap (λ (p : ℕ × List ℕ). p.1) (ok_is _ x h) in
        let written : to_be_bytes w16 x.0 ≡ take 2 bytes = be_bytes_2 (take 2 bytes) x.0 size (front_bytes 2 bytes all) number in
        sym (take-append-drop 2 bytes) ∙ ap (λ (xs : List ℕ). xs ++ drop 2 bytes) (sym written) ∙ ap (λ (xs : List ℕ). to_be_bytes w16 x.0 ++ xs) rest

pub u32_spelled : {E : Type 0} (fault : E) (bytes : List ℕ) (x : ℕ × List ℕ) → number_at w32 fault bytes ≡ Ok x → AreBytes bytes → bytes ≡ to_be_bytes w32 x.0 ++ x.1
unfolding number_at
u32_spelled {E} fault bytes x e all = by (nat_lt (length bytes) 4) refl e
  where
    by : (b : Bool) → nat_lt (length bytes) 4 ≡ b → ◌≡◌ {A = Result (ℕ × List ℕ) E} (cond b (Err fault) (Ok (from_be_bytes w32 (take 4 bytes), drop 4 bytes))) (Ok x) → bytes ≡ to_be_bytes w32 x.0 ++ x.1
    by true is h = cc h
    by false is h =
        let long : 4 ≤ length bytes = ltb-false (length bytes) 4 is in
        let size : length (take 4 bytes) ≡ 4 = omega (arith, length-take 4 bytes, long) in
        let number : x.0 ≡ from_be_bytes w32 (take 4 bytes) = sym (ap (λ (p : ℕ × List ℕ). p.0) (ok_is _ x h)) in
        let rest : drop 4 bytes ≡ x.1 = ap (λ (p : ℕ × List ℕ). p.1) (ok_is _ x h) in
        let written : to_be_bytes w32 x.0 ≡ take 4 bytes = be_bytes_4 (take 4 bytes) x.0 size (front_bytes 4 bytes all) number in
        sym (take-append-drop 4 bytes) ∙ ap (λ (xs : List ℕ). xs ++ drop 4 bytes) (sym written) ∙ ap (λ (xs : List ℕ). to_be_bytes w32 x.0 ++ xs) rest

-- ---- lists

-- What stood in front of the rest is a list that may stand there.
pub record IsListHere {X : Type 0} (kind : ListKind) (may : Option ColumnList → Option X) (count : ℕ) (bytes : List ℕ) (y : X × List ℕ) : Type 0 where
  pub l : ColumnList
  pub allowed : may (Some l) ≡ Some y.0
  pub is_kind : kind_of l ≡ kind
  pub is_count : count_of l ≡ count
  pub is : bytes ≡ sized l ++ y.1
  pub rest_are : AreBytes y.1

found_is : {X : Type 0} (end : ℕ) (o : Option X) (bytes rest : List ℕ) (y : X × List ℕ) → found_at end o bytes rest ≡ Ok y → (o ≡ Some y.0) × (rest ≡ y.1)
found_is {X} end None bytes rest y h = cc h
found_is {X} end (Some x) bytes rest y h = (ap (λ (p : X × List ℕ). Some p.0) (ok_is _ y h), ap (λ (p : X × List ℕ). p.1) (ok_is _ y h))

pub list_spelled : {X : Type 0} (kind : ListKind) (may : Option ColumnList → Option X) (count end : ℕ) (bytes : List ℕ) (y : X × List ℕ) → may None ≡ None → AreBytes bytes → list_behind kind may count end bytes ≡ Ok y → IsListHere kind may count bytes y
unfolding list_behind any_behind sized
list_spelled {X} kind may count end bytes y none all e =
    let a = bind_ok (any_behind kind count end bytes) _ y e in
    let found = found_is end (may a.0.0) a.0.1 a.0.2 y a.2 in
    let b = bind_ok (number_at w64 (Damaged end) bytes) _ a.0 a.1 in
    of_size b.0.0 b.0.1 a.0 (u64_spelled (Damaged end) bytes b.0 b.1 all) (nat_lt (length b.0.1) b.0.0) refl b.2 found.0 found.1
  where
    of_list : (size : ℕ) (rest : List ℕ) → bytes ≡ to_be_bytes w64 size ++ rest → size ≤ length rest → (r : Result ColumnList CodecError) → list_at kind count (take size rest) ≡ r → may (result_ok r) ≡ Some y.0 → drop size rest ≡ y.1 → IsListHere kind may count bytes y
    of_list size rest is fits (Err x) there h behind = cc (sym none ∙ h)
    of_list size rest is fits (Ok l) there h behind =
        let rest_are : AreBytes rest = behind_are (to_be_bytes w64 size) rest (subst AreBytes is all) in
        let one = lists_spelled kind count (take size rest) l (front_bytes size rest rest_are) there in
        let long : length (spelled l) ≡ size = omega (arith, ap length (sym one.bytes_are), length-take size rest, fits) in
        let whole : rest ≡ spelled l ++ y.1 = sym (take-append-drop size rest) ∙ ap (λ (xs : List ℕ). xs ++ drop size rest) one.bytes_are ∙ ap (λ (xs : List ℕ). spelled l ++ xs) behind in
        record {
          l = l;
          allowed = h;
          is_kind = one.is_kind;
          is_count = one.is_count;
          is = is ∙ ap (λ (xs : List ℕ). to_be_bytes w64 size ++ xs) whole ∙ ap (λ n. to_be_bytes w64 n ++ (spelled l ++ y.1)) (sym long) ∙ sym (append_assoc (to_be_bytes w64 (length (spelled l))) (spelled l) y.1);
          rest_are = behind_are (spelled l) y.1 (subst AreBytes whole rest_are);
        }

    of_size : (size : ℕ) (rest : List ℕ) (x : Option ColumnList × List ℕ × List ℕ) → bytes ≡ to_be_bytes w64 size ++ rest → (t : Bool) → nat_lt (length rest) size ≡ t → cond t (Err (Damaged end)) (Ok (any_at kind count (take size rest), rest, drop size rest)) ≡ Ok x → may x.0 ≡ Some y.0 → x.2 ≡ y.1 → IsListHere kind may count bytes y
    of_size size rest x is true lt h allowed behind = cc h
    of_size size rest x is false lt h allowed behind =
        let fits : size ≤ length rest = ltb-false (length rest) size lt in
        let same = ok_is _ x h in
        of_list size rest is fits (list_at kind count (take size rest)) refl (ap (λ (p : Option ColumnList × List ℕ × List ℕ). may p.0) same ∙ allowed) (ap (λ (p : Option ColumnList × List ℕ × List ℕ). p.2) same ∙ behind)
