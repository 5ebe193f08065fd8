-- A header that is written is read again, whatever follows.
use Rattle.std.proofs.Common.{◌≡◌, ℕ, ℤ, suc, ◌+◌, ◌≤◌, Bool, true, false, ltb, List, [], ◌∷◌, ◌++◌, length, Some, None, Ok, refl, ap, ◌∙◌, append_assoc, arith}
use Rattle.std.specs.Prelude.{FitsSigned, if◌then◌else◌}
use Rattle.std.specs.List.{All, flat_map}
use Rattle.std.specs.Int.{w16, w32, w64, to_be_bytes, cast_signed, cast_unsigned}
use Rattle.std.proofs.lemmas.Bool.{le-ltb}
use Rattle.std.proofs.lemmas.Int.{to_z-of_z}
use Rattle.std.proofs.Math.Facts.{Fits-of_z}
use Rattle.flash_list.specs.Steps.{each_at}
use Rattle.flash_list.specs.Fields.{number_at}
use Rattle.column_block.specs.declared.column.Column.{Column}
use Rattle.column_block.specs.declared.column.Kind.{Kind}
use Rattle.column_block.specs.declared.column.Kind.TheVariants.{Int, Uint, Bytes}
use Rattle.column_block.specs.Rising.{fall_after, first_fall}
use Rattle.column_block.specs.Schemas.{IsSchema, ids}
use Rattle.manifest_form.specs.declared.fault.Fault.TheVariants.{At}
use Rattle.manifest_form.specs.Header.{magic, kind_of, number_in, id_at, column_at, columns_at, above, version_at, header_at}
use Rattle.manifest_form.specs.Spelling as S
use Rattle.manifest_form.specs.Spelling.{ColumnFits}
use Rattle.manifest_form.specs.Takes.{IsHeader}
use Rattle.manifest_form.proofs.Again.{sized_again, u16_again, u32_again, u64_again, byte_again, all_head, all_tail}

-- the ids rise, from this one on
abbrev RisesFrom : ℕ → List Column → Type 0
RisesFrom least [] = Unit {0}
RisesFrom least (c ∷ cs) = (least ≤ c.id) × RisesFrom (c.id + 1) cs

by_test : (before place : ℕ) (c : Column) (cs : List Column) (b : Bool) → ltb before c.id ≡ b → (fall_after c.id (place + 1) (ids cs) ≡ None → RisesFrom (c.id + 1) cs) → (if b then fall_after c.id (place + 1) (ids cs) else Some place) ≡ None → RisesFrom (before + 1) (c ∷ cs)
by_test before place c cs true is behind h = (grind (arith, is), behind h)
by_test before place c cs false is behind h = absurd (cc h)

rises_after : (before place : ℕ) (cs : List Column) → fall_after before place (ids cs) ≡ None → RisesFrom (before + 1) cs
rises_after before place [] h = tt
rises_after before place (c ∷ cs) h = by_test before place c cs (ltb before c.id) refl (rises_after c.id (place + 1) cs) h

rises : (cs : List Column) → first_fall (ids cs) ≡ None → RisesFrom 0 cs
rises [] h = tt
rises (c ∷ cs) h = (omega arith, rises_after c.id 1 cs h)

kind_again : (k : Kind) → (1 ≤ S.kind k) × (S.kind k ≤ 3) × (kind_of (S.kind k) ≡ k)
kind_again Int = (omega arith, omega arith, refl)
kind_again Uint = (omega arith, omega arith, refl)
kind_again Bytes = (omega arith, omega arith, refl)

column_again : (end least : ℕ) (c : Column) (rest : List ℕ) → least ≤ c.id → ColumnFits c → column_at end least (S.column c ++ rest) ≡ Ok (c, rest)
unfolding column_at id_at S.column
column_again end least c rest le fits =
    let parts : (to_be_bytes w32 c.id ++ (S.kind c.kind ∷ [])) ++ rest ≡ to_be_bytes w32 c.id ++ (S.kind c.kind ∷ rest) = append_assoc (to_be_bytes w32 c.id) (S.kind c.kind ∷ []) rest in
    let k = kind_again c.kind in
    let low : ltb c.id least ≡ false = le-ltb _ _ le in
    ap (column_at end least) parts
    ∙ rw (u32_again (At end) c.id (S.kind c.kind ∷ rest) fits, low, byte_again 1 3 (At end) end (S.kind c.kind) rest k.0 k.1) (ap (λ (x : Kind). Ok (record { id = c.id; kind = x }, rest)) k.2)

columns_again : (end least : ℕ) (cs : List Column) (rest : List ℕ) → RisesFrom least cs → All ColumnFits cs → each_at (column_at end) above (length cs) least (flat_map S.column cs ++ rest) ≡ Ok (cs, rest)
unfolding each_at
columns_again end least [] rest up fits = refl
columns_again end least (c ∷ cs) rest up fits =
    let parts : (S.column c ++ flat_map S.column cs) ++ rest ≡ S.column c ++ (flat_map S.column cs ++ rest) = append_assoc (S.column c) (flat_map S.column cs) rest in
    ap (each_at (column_at end) above (suc (length cs)) least) parts
    ∙ rw (column_again end least c (flat_map S.column cs ++ rest) up.0 (all_head ColumnFits c cs fits), columns_again end (c.id + 1) cs rest up.1 (all_tail ColumnFits c cs fits)) refl

count_again : (end n : ℕ) (rest : List ℕ) → n ≤ 64 → number_in w16 0 64 (At end) end (to_be_bytes w16 n ++ rest) ≡ Ok (n, rest)
unfolding number_in
count_again end n rest few =
    let low : ltb n 0 ≡ false = le-ltb _ _ (omega arith) in
    let high : ltb 64 n ≡ false = le-ltb _ _ few in
    rw (u16_again (At end) n rest (omega (arith, few)), low, high) refl

pub header_again : (table : ℤ) (columns : List Column) → FitsSigned w64 table → IsSchema columns → All ColumnFits columns → IsHeader (S.header table columns) (record { table = table; columns = columns })
unfolding header_at columns_at number_in version_at
header_again table columns fits schema all end more =
    let listed = to_be_bytes w16 (length columns) ++ flat_map S.column columns in
    let behind = S.handle table ++ listed ++ more in
    let name : number_at w32 (At end) (70 ∷ 76 ∷ 77 ∷ 70 ∷ 0 ∷ 1 ∷ behind) ≡ Ok (magic, 0 ∷ 1 ∷ behind) = sized_again w32 (At end) (70 ∷ 76 ∷ 77 ∷ 70 ∷ []) (0 ∷ 1 ∷ behind) magic refl refl in
    let version : number_at w16 (At end) (0 ∷ 1 ∷ behind) ≡ Ok (1, behind) = sized_again w16 (At end) (0 ∷ 1 ∷ []) behind 1 refl refl in
    let number = cast_unsigned w64 table in
    let back : cast_signed w64 number ≡ table = to_z-of_z w64 table fits in
    let apart : behind ≡ S.handle table ++ (to_be_bytes w16 (length columns) ++ (flat_map S.column columns ++ more)) = append_assoc (S.handle table) listed more ∙ ap (λ (l : List ℕ). S.handle table ++ l) (append_assoc (to_be_bytes w16 (length columns)) (flat_map S.column columns) more) in
    let read : number_at w64 (At end) behind ≡ Ok (number, to_be_bytes w16 (length columns) ++ (flat_map S.column columns ++ more)) = ap (number_at w64 (At end)) apart ∙ u64_again (At end) number (to_be_bytes w16 (length columns) ++ (flat_map S.column columns ++ more)) (Fits-of_z {w = w64} {z = table} fits).fits in
    rw (name, version, read, count_again end (length columns) (flat_map S.column columns ++ more) schema.few, columns_again end 0 columns more (rises columns schema.rises) all) (ap (λ z. Ok (record { table = z; columns = columns }, more)) back)
