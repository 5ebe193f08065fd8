-- The handle of a record key, by its places.
use Rattle.std.proofs.Common.{◌≡◌, ◌≢◌, ℕ, ℤ, suc, ◌+◌, ◌*◌, ◌<◌, ◌≤◌, Bool, true, false, cond, eqb, List, ◌∷◌, [], length, take, get_or, Option, Some, None, Result, Ok, Err, refl, sym, ap, ◌∙◌, arith, eq-eqb}
use Rattle.std.specs.Prelude.{slice_index, not, ◌&&◌, ◌==◌}
use Rattle.std.specs.Int.{w64, from_be_bytes}
use Rattle.std.proofs.lemmas.Bool.{eqb-true}
use Rattle.flash_list.specs.Steps.{seen}
use Rattle.kv_codec.specs.declared.keys.KeyError.{KeyError}
use Rattle.kv_codec.specs.Keys.{text_at, unmarked, handle_of, handle_in, record_at, flipped, unflipped}
use Rattle.kv_codec.proofs.Groups.{Measured, measured, text_unmarked}

none_either_way : {A : Type 0} (b : Bool) (x : Option A) → x ≡ None → cond b None x ≡ None
none_either_way true x e = refl
none_either_way false x e = e

not_chosen : {A : Type 0} (b : Bool) (x : Option A) → b ≡ false → cond b x None ≡ None
not_chosen b x e = rw e refl

and_both : (a b : Bool) → (a && b) ≡ true → (a ≡ true) × (b ≡ true)
and_both true b e = (refl, e)
and_both false b e = absurd cc

not_eqb : (m n : ℕ) → (m ≡ n → ⊥) → eqb m n ≡ false
not_eqb m n ne = grind arith

-- a text of another length is no record key
pub other_length : (table : ℤ) (text : List ℕ) → length text ≢ 19 → handle_of table text ≡ None
unfolding handle_of
other_length table (t ∷ a ∷ b ∷ c ∷ d ∷ e ∷ f ∷ g ∷ h ∷ line ∷ r ∷ handle) other =
    let number = from_be_bytes w64 (a ∷ b ∷ c ∷ d ∷ e ∷ f ∷ g ∷ h ∷ []) in
    let found = Some (unflipped (from_be_bytes w64 handle)) in
    let p4 = cond (eqb (length handle) 8) found None in
    let p3 = cond (not (r == 114)) None p4 in
    let p2 = cond (not (line == 95)) None p3 in
    let p1 = cond (not (number == flipped table)) None p2 in
    let no : eqb (length handle) 8 ≡ false = not_eqb _ _ (λ (e : length handle ≡ 8). other (ap (λ n. suc (suc (suc (suc (suc (suc (suc (suc (suc (suc (suc n))))))))))) e)) in
    none_either_way (not (t == 116)) p1 (none_either_way (not (number == flipped table)) p2 (none_either_way (not (line == 95)) p3 (none_either_way (not (r == 114)) p4 (not_chosen (eqb (length handle) 8) found no))))
other_length table text other = refl

by_marker : (table : ℤ) (key text : List ℕ) → text_at 0 key ≡ Ok text → Measured key text → (eqb (length key) 27 ≡ true) × (eqb (slice_index key 26) 250 ≡ true) → handle_of table (take 19 (unmarked key)) ≡ handle_of table text
by_marker table key text read m tests =
    let len : length key ≡ 27 = eqb-true _ _ tests.0 in
    let marker : get_or key 26 0 ≡ 250 = eqb-true _ _ tests.1 in
    let full : m.full ≡ 2 = omega (arith, m.bytes_len) in
    let place : 9 * m.full + 8 ≡ 26 = omega arith in
    let left : m.left + 247 ≡ 250 = sym m.marker ∙ ap (λ i. get_or key i 0) place ∙ marker in
    let text_len : length text ≡ 19 = omega (arith, m.text_len) in
    ap (handle_of table) (sym (text_unmarked 0 key text read ∙ ap (λ n. take n (unmarked key)) text_len))

no_marker : (key text : List ℕ) → Measured key text → (eqb (length key) 27 && eqb (slice_index key 26) 250) ≡ false → length text ≡ 19 → ⊥
no_marker key text m test text_len =
    let full : m.full ≡ 2 = omega (arith, m.text_len, m.short) in
    let len : length key ≡ 27 = omega (arith, m.bytes_len) in
    let place : 9 * m.full + 8 ≡ 26 = omega arith in
    let left : m.left ≡ 3 = omega (arith, m.text_len) in
    let marker : get_or key 26 0 ≡ 250 = ap (λ i. get_or key i 0) (sym place) ∙ m.marker ∙ omega arith in
    let holds : (eqb (length key) 27 && eqb (slice_index key 26) 250) ≡ true = rw (eq-eqb _ _ len, eq-eqb _ _ marker) refl in
    absurd (cc (holds, test))

pub handle_is : (table : ℤ) (key text : List ℕ) → text_at 0 key ≡ Ok text → handle_in table key ≡ handle_of table text
unfolding handle_in
handle_is table key text read =
    let m = measured 0 key text read in
    let by_places : (b : Bool) → (eqb (length key) 27 && eqb (slice_index key 26) 250) ≡ b → cond b (handle_of table (take 19 (unmarked key))) None ≡ handle_of table text =
    elim [
      | true ↦ λ e. by_marker table key text read m (and_both _ _ e)
      | false ↦ λ e. sym (other_length table text (λ (len : length text ≡ 19). no_marker key text m e len))
    ] in
    by_places _ refl

sound_text : (read : Result (List ℕ) KeyError) → seen (λ _. tt {0}) read ≡ Ok tt → (text : List ℕ) × (read ≡ Ok text)
sound_text (Ok text) e = (text, refl)
sound_text (Err e) h = absurd cc

-- where the groups are sound, the key is read by its places
pub record_is : (table : ℤ) (key : List ℕ) → seen (λ _. tt {0}) (text_at 0 key) ≡ Ok tt → record_at table key ≡ Ok (handle_in table key)
unfolding record_at
record_is table key sound =
    let p = sound_text (text_at 0 key) sound in
    rw p.1 (ap (λ (h : Option ℤ). Ok h) (sym (handle_is table key p.0 p.1)))

-- what stands in a key of three groups at the places of a record key
abbrev pub record_text : List ℕ → List ℕ
record_text key =
    get_or key 0 0 ∷ get_or key 1 0 ∷ get_or key 2 0 ∷ get_or key 3 0 ∷ get_or key 4 0 ∷ get_or key 5 0 ∷ get_or key 6 0 ∷ get_or key 7 0
    ∷ get_or key 9 0 ∷ get_or key 10 0 ∷ get_or key 11 0 ∷ get_or key 12 0 ∷ get_or key 13 0 ∷ get_or key 14 0 ∷ get_or key 15 0 ∷ get_or key 16 0
    ∷ get_or key 18 0 ∷ get_or key 19 0 ∷ get_or key 20 0 ∷ []

record_text_is : (key : List ℕ) → length key ≡ 27 → take 19 (unmarked key) ≡ record_text key
record_text_is (a0 ∷ a1 ∷ a2 ∷ a3 ∷ a4 ∷ a5 ∷ a6 ∷ a7 ∷ a8 ∷ a9 ∷ b0 ∷ b1 ∷ b2 ∷ b3 ∷ b4 ∷ b5 ∷ b6 ∷ b7 ∷ b8 ∷ b9 ∷ c0 ∷ c1 ∷ c2 ∷ c3 ∷ c4 ∷ c5 ∷ c6 ∷ rest) len = refl
record_text_is key len = absurd (omega arith)

pub by_places : (table : ℤ) (key : List ℕ) (found : Option ℤ) → 27 ≤ length key → length key < 28 → get_or key 26 0 ≡ 250 → found ≡ handle_of table (record_text key) → found ≡ handle_in table key
unfolding handle_in
by_places table key found least below marker is =
    let len : length key ≡ 27 = omega arith in
    is ∙ ap (handle_of table) (sym (record_text_is key len)) ∙ sym (rw (eq-eqb _ _ len, eq-eqb _ _ marker) refl)
