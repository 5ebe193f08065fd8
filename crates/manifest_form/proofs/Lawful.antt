-- The columns of a header that is read make a schema.
use Rattle.std.proofs.Common.{◌≡◌, ℕ, zero, suc, ◌+◌, ◌≤◌, Bool, true, false, ltb, List, [], ◌∷◌, length, Option, Some, None, Ok, refl, ap, subst, arith}
use Rattle.std.specs.Prelude.{◌||◌, if◌then◌else◌}
use Rattle.std.specs.Int.{Width, w16, w32, w64, cast_signed}
use Rattle.std.proofs.lemmas.Bool.{ltb-false}
use Rattle.flash_list.specs.Steps.{each_at}
use Rattle.flash_list.specs.Fields.{number_at}
use Rattle.column_block.specs.declared.column.Column.{Column}
use Rattle.column_block.specs.Rising.{fall_after}
use Rattle.column_block.specs.Schemas.{IsSchema, ids}
use Rattle.manifest_form.specs.declared.fault.Fault.{Fault}
use Rattle.manifest_form.specs.declared.fault.Fault.TheVariants.{At}
use Rattle.manifest_form.specs.declared.header.Header.{Header}
use Rattle.manifest_form.specs.Fields.{here, byte_in}
use Rattle.manifest_form.specs.Header.{magic, kind_of, number_in, id_at, column_at, above, version_at, columns_at, header_at}
use Rattle.manifest_form.proofs.Fronts.{bind_ok, if_ok, ok_same}

right_false : (a b : Bool) → (a || b) ≡ false → b ≡ false
right_false true b h = absurd (cc h)
right_false false b h = h

at_most : (w : Width) (least greatest : ℕ) (fault : Fault) (end : ℕ) (bytes : List ℕ) (n : ℕ × List ℕ) → number_in w least greatest fault end bytes ≡ Ok n → n.0 ≤ greatest
unfolding number_in
at_most w least greatest fault end bytes n h =
    let first = bind_ok (number_at w fault bytes) _ n h in
    let allowed = if_ok (ltb first.0.0 least || ltb greatest first.0.0) (here end bytes) (Ok first.0) n first.2 in
    let same : first.0 ≡ n = ok_same allowed.1 in
    subst (λ (x : ℕ × List ℕ). x.0 ≤ greatest) same (ltb-false greatest first.0.0 (right_false (ltb first.0.0 least) (ltb greatest first.0.0) allowed.0))

at_least : (end least : ℕ) (bytes : List ℕ) (n : ℕ × List ℕ) → id_at end least bytes ≡ Ok n → least ≤ n.0
unfolding id_at
at_least end least bytes n h =
    let first = bind_ok (number_at w32 (At end) bytes) _ n h in
    let allowed = if_ok (ltb first.0.0 least) (here end bytes) (Ok first.0) n first.2 in
    let same : first.0 ≡ n = ok_same allowed.1 in
    subst (λ (x : ℕ × List ℕ). least ≤ x.0) same (ltb-false first.0.0 least allowed.0)

column_least : (end least : ℕ) (bytes : List ℕ) (c : Column × List ℕ) → column_at end least bytes ≡ Ok c → least ≤ c.0.id
unfolding column_at
column_least end least bytes c h =
    let first = bind_ok (id_at end least bytes) _ c h in
    let second = bind_ok (byte_in 1 3 (At end) end first.0.1) _ c first.2 in
    let same : (record { id = first.0.0; kind = kind_of second.0.0 }, second.0.1) ≡ c = ok_same second.2 in
    subst (λ (x : Column × List ℕ). least ≤ x.0.id) same (at_least end least bytes first.0 first.1)

rises_on : (before place id : ℕ) (r : Option ℕ) → before + 1 ≤ id → r ≡ None → (if ltb before id then r else Some place) ≡ None
rises_on before place id r le h = let lt : ltb before id ≡ true = grind (arith, le) in rw lt h

columns_rise : (end count before place : ℕ) (bytes : List ℕ) (cs : List Column × List ℕ) → each_at (column_at end) above count (before + 1) bytes ≡ Ok cs → (fall_after before place (ids cs.0) ≡ None) × (length cs.0 ≡ count)
unfolding each_at
columns_rise end zero before place bytes cs h = let same : ([], bytes) ≡ cs = ok_same h in subst (λ (x : List Column × List ℕ). (fall_after before place (ids x.0) ≡ None) × (length x.0 ≡ 0)) same (refl, refl)
columns_rise end (suc count) before place bytes cs h =
    let first = bind_ok (column_at end (before + 1) bytes) _ cs h in
    let second = bind_ok (each_at (column_at end) above count (above first.0.0) first.0.1) _ cs first.2 in
    let behind = columns_rise end count first.0.0.id (place + 1) first.0.1 second.0 second.1 in
    let same : (first.0.0 ∷ second.0.0, second.0.1) ≡ cs = ok_same second.2 in
    subst (λ (x : List Column × List ℕ). (fall_after before place (ids x.0) ≡ None) × (length x.0 ≡ suc count)) same
    (rises_on before place first.0.0.id (fall_after first.0.0.id (place + 1) (ids second.0.0)) (column_least end (before + 1) bytes first.0 first.1) behind.0, ap suc behind.1)

columns_lawful : (end count : ℕ) (bytes : List ℕ) (cs : List Column × List ℕ) → count ≤ 64 → each_at (column_at end) above count 0 bytes ≡ Ok cs → IsSchema cs.0
unfolding each_at
columns_lawful end zero bytes cs few h = let same : ([], bytes) ≡ cs = ok_same h in subst (λ (x : List Column × List ℕ). IsSchema x.0) same (record { rises = refl; few = omega arith })
columns_lawful end (suc count) bytes cs few h =
    let first = bind_ok (column_at end 0 bytes) _ cs h in
    let second = bind_ok (each_at (column_at end) above count (above first.0.0) first.0.1) _ cs first.2 in
    let behind = columns_rise end count first.0.0.id 1 first.0.1 second.0 second.1 in
    let same : (first.0.0 ∷ second.0.0, second.0.1) ≡ cs = ok_same second.2 in
    subst (λ (x : List Column × List ℕ). IsSchema x.0) same (record { rises = behind.0; few = omega (arith, few, behind.1) })

pub header_lawful : (end : ℕ) (bytes : List ℕ) (h : Header) (rest : List ℕ) → header_at end bytes ≡ Ok (h, rest) → IsSchema h.columns
unfolding header_at columns_at
header_lawful end bytes h rest read =
    let name = bind_ok (number_in w32 magic magic (At end) end bytes) _ (h, rest) read in
    let version = bind_ok (version_at end name.0.1) _ (h, rest) name.2 in
    let table = bind_ok (number_at w64 (At end) version.0.1) _ (h, rest) version.2 in
    let count = bind_ok (number_in w16 0 64 (At end) end table.0.1) _ (h, rest) table.2 in
    let columns = bind_ok (each_at (column_at end) above count.0.0 0 count.0.1) _ (h, rest) count.2 in
    let same : (record { table = cast_signed w64 table.0.0; columns = columns.0.0 }, columns.0.1) ≡ (h, rest) = ok_same columns.2 in
    subst (λ (x : Header × List ℕ). IsSchema x.0.columns) same (columns_lawful end count.0.0 count.0.1 columns.0 (at_most w16 0 64 (At end) end table.0.1 count.0 count.1) columns.1)
