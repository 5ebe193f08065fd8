-- Nulls, one after the other.
use Rattle.std.proofs.Common.{◌≡◌, ℕ, suc, ◌+◌, ◌-◌, ◌<◌, ◌≤◌, Bool, true, false, List, [], ◌∷◌, refl, sym, ap, ◌∙◌, arith}
use Rattle.std.specs.List.{list_all}
use Rattle.column_codec.specs.Nulls.{is_null, nulls_from}

pub next : (bitmap : List ℕ) (i count : ℕ) → i < count → nulls_from bitmap i (count - i) ≡ is_null bitmap i ∷ nulls_from bitmap (i + 1) (count - (i + 1))
next bitmap i count lt =
    let k : count - i ≡ suc (count - (i + 1)) = omega arith in
    ap (nulls_from bitmap i) k

pub none_left : (bitmap : List ℕ) (i count : ℕ) → count ≤ i → nulls_from bitmap i (count - i) ≡ []
none_left bitmap i count le =
    let k : count - i ≡ 0 = omega arith in
    ap (nulls_from bitmap i) k

abbrev pub all_null : List Bool → Bool
all_null nulls = list_all (λ null. null) nulls

pub null_more : (bitmap : List ℕ) (i count : ℕ) (total : Bool) → i < count → is_null bitmap i ≡ true → all_null (nulls_from bitmap i (count - i)) ≡ total → all_null (nulls_from bitmap (i + 1) (count - (i + 1))) ≡ total
null_more bitmap i count total lt h so_far =
    let one : all_null (nulls_from bitmap i (count - i)) ≡ all_null (nulls_from bitmap (i + 1) (count - (i + 1))) = rw (next bitmap i count lt, h) refl in
    sym one ∙ so_far

pub not_null : (bitmap : List ℕ) (i count : ℕ) (total : Bool) → i < count → is_null bitmap i ≡ false → all_null (nulls_from bitmap i (count - i)) ≡ total → total ≡ false
not_null bitmap i count total lt h so_far =
    let one : all_null (nulls_from bitmap i (count - i)) ≡ false = rw (next bitmap i count lt, h) refl in
    sym so_far ∙ one

pub all_were : (bitmap : List ℕ) (i count : ℕ) (total : Bool) → count ≤ i → all_null (nulls_from bitmap i (count - i)) ≡ total → total ≡ true
all_were bitmap i count total le so_far = sym so_far ∙ ap all_null (none_left bitmap i count le)
