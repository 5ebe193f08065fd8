-- What a reader took is read again, whatever stands behind it and wherever the file ends.
use Rattle.std.proofs.Common.{◌≡◌, ℕ, suc, zero, ◌+◌, ◌^◌, ◌<◌, ◌≤◌, Bool, true, false, ltb, eqb, List, [], ◌∷◌, ◌++◌, length, take, drop, Option, Some, None, Result, Ok, Err, refl, sym, ap, ◌∙◌, append_assoc, arith, length-append, length-take, take-append-drop, take_at}
use Rattle.std.specs.Prelude.{if◌then◌else◌, ◌||◌}
use Rattle.std.specs.Int.{Width, w16, w32, w64, byte_len, from_be_bytes, to_be_bytes, cast_signed}
use Rattle.std.proofs.lemmas.Bool.{le-ltb}
use Rattle.std.proofs.Math.Seq.{drop-append_seam}
use Rattle.flash_list.specs.Steps.{◌>>=◌, each_at}
use Rattle.flash_list.specs.Fields.{number_at}
use Rattle.column_block.specs.declared.column.Column.{Column}
use Rattle.manifest_form.specs.declared.fault.Fault.{Fault}
use Rattle.manifest_form.specs.declared.fault.Fault.TheVariants.{At, Version}
use Rattle.manifest_form.specs.declared.header.Header.{Header}
use Rattle.manifest_form.specs.Fields.{here, byte_in}
use Rattle.manifest_form.specs.Header.{magic, kind_of, number_in, id_at, column_at, columns_at, above, version_at, header_at}
use Rattle.manifest_form.specs.Walk.{may_have, sized_at, record_at}
use Rattle.manifest_form.specs.Takes.{IsRecord, IsHeader}
use Rattle.manifest_form.proofs.Again.{sized_again, u64_again}

-- a step that led to an answer gave a value, from which the next one went on
pub bind_ok : {A B E : Type 0} (r : Result A E) (f : A → Result B E) (y : B) → (r >>= f) ≡ Ok y → (a : A) × (r ≡ Ok a) × (f a ≡ Ok y)
bind_ok (Ok a) f y h = (a, refl, h)
bind_ok (Err e) f y h = absurd (cc h)

-- a test that refuses didn't
pub if_ok : {A E : Type 0} (b : Bool) (e : E) (x : Result A E) (y : A) → (if b then Err e else x) ≡ Ok y → (b ≡ false) × (x ≡ Ok y)
if_ok true e x y h = absurd (cc h)
if_ok false e x y h = (refl, h)

-- a test that lets through did
pub then_ok : {A E : Type 0} (b : Bool) (x : Result A E) (e : E) (y : A) → (if b then x else Err e) ≡ Ok y → (b ≡ true) × (x ≡ Ok y)
then_ok true x e y h = (refl, h)
then_ok false x e y h = absurd (cc h)

pub ok_same : {A E : Type 0} {a b : A} → ◌≡◌ {A = Result A E} (Ok a) (Ok b) → a ≡ b
ok_same e = cc

pub not_below : (n k : ℕ) → ltb n k ≡ false → k ≤ n
not_below n k h = grind (arith, h)

-- a number at the front
pub record IsNumber (w : Width) (bytes : List ℕ) (n : ℕ) (rest : List ℕ) : Type 0 where
  pub field : List ℕ
  pub is : bytes ≡ field ++ rest
  pub size : length field ≡ byte_len w
  pub value : from_be_bytes w field ≡ n

pub number_front : {E : Type 0} (w : Width) (fault : E) (bytes : List ℕ) (n : ℕ) (rest : List ℕ) → number_at w fault bytes ≡ Ok (n, rest) → IsNumber w bytes n rest
unfolding number_at
number_front w fault bytes n rest h =
    let k = byte_len w in
    let p = if_ok (ltb (length bytes) k) fault (Ok (from_be_bytes w (take k bytes), drop k bytes)) (n, rest) h in
    let pair : (from_be_bytes w (take k bytes), drop k bytes) ≡ (n, rest) = ok_same p.1 in
    let behind : drop k bytes ≡ rest = ap (λ (x : ℕ × List ℕ). x.1) pair in
    record {
      field = take k bytes;
      is = sym (take-append-drop k bytes) ∙ ap (λ (l : List ℕ). take k bytes ++ l) behind;
      size = omega (arith, length-take k bytes, not_below (length bytes) k p.0);
      value = ap (λ (x : ℕ × List ℕ). x.0) pair;
    }

pub number_reads : {E : Type 0} (w : Width) (bytes : List ℕ) (n : ℕ) (rest : List ℕ) (number : IsNumber w bytes n rest) (fault : E) (more : List ℕ) → number_at w fault (number.field ++ more) ≡ Ok (n, more)
number_reads w bytes n rest number fault more = sized_again w fault number.field more n number.size number.value

-- ---- records

record_of : (wanted : Option ℕ) (end : ℕ) (bytes r rest : List ℕ) → sized_at wanted end bytes ≡ Ok (r, rest) → (front : List ℕ) × (bytes ≡ front ++ rest) × (length front ≡ 8 + length r) × ((e : ℕ) (more : List ℕ) → sized_at wanted e (front ++ more) ≡ Ok (r, more))
unfolding sized_at
record_of wanted end bytes r rest h =
    let first = bind_ok (number_at w64 (At end) bytes) _ (r, rest) h in
    let len = first.0.0 in
    let l = first.0.1 in
    let number = number_front w64 (At end) bytes len l first.1 in
    let allowed = then_ok (may_have wanted len) (if ltb (length l) len then Err (At end) else Ok (take len l, drop len l)) (here end bytes) (r, rest) first.2 in
    let long = if_ok (ltb (length l) len) (At end) (Ok (take len l, drop len l)) (r, rest) allowed.1 in
    let pair : (take len l, drop len l) ≡ (r, rest) = ok_same long.1 in
    let front : take len l ≡ r = ap (λ (x : List ℕ × List ℕ). x.0) pair in
    let behind : drop len l ≡ rest = ap (λ (x : List ℕ × List ℕ). x.1) pair in
    let size : length r ≡ len = ap length (sym front) ∙ omega (arith, length-take len l, not_below (length l) len long.0) in (
      number.field ++ r,
      number.is ∙ ap (λ (xs : List ℕ). number.field ++ xs) (sym (take-append-drop len l) ∙ ap (λ (xs : List ℕ). xs ++ drop len l) front ∙ ap (λ (xs : List ℕ). r ++ xs) behind) ∙ sym (append_assoc number.field r rest),
      length-append number.field r ∙ ap (λ n. n + length r) number.size,
      λ e more. ap (sized_at wanted e) (append_assoc number.field r more) ∙ sized_again_from wanted e number.field r more len (number_reads w64 bytes len l number (At e) (r ++ more)) allowed.0 size,
    )
  where
    sized_again_from : (wanted : Option ℕ) (e : ℕ) (field r more : List ℕ) (len : ℕ) → number_at w64 (At e) (field ++ (r ++ more)) ≡ Ok (len, r ++ more) → may_have wanted len ≡ true → length r ≡ len → sized_at wanted e (field ++ (r ++ more)) ≡ Ok (r, more)
    sized_again_from wanted e field r more len read allowed size =
        let long : ltb (length (r ++ more)) len ≡ false = le-ltb _ _ (omega (arith, length-append r more, size)) in
        let behind : drop len (r ++ more) ≡ more = ap (λ k. drop k (r ++ more)) (sym size) ∙ drop-append_seam r more in
        rw (read, allowed, long, take_at r more len size, behind) refl

pub record_front : (wanted : Option ℕ) (end : ℕ) (bytes r rest : List ℕ) → record_at wanted end bytes ≡ Ok (Some (r, rest)) → (front : List ℕ) × (bytes ≡ front ++ rest) × IsRecord wanted front r
unfolding record_at
record_front wanted end [] r rest h = absurd (cc h)
record_front wanted end (gate ∷ bytes) r rest h =
    let by_gate : (b : Bool) → eqb gate 1 ≡ b → (if b then (sized_at wanted end bytes >>= λ found. Ok (Some found)) else Ok None) ≡ Ok (Some (r, rest)) → (front : List ℕ) × (gate ∷ bytes ≡ front ++ rest) × IsRecord wanted front r =
    λ b. elim b as (λ v. eqb gate 1 ≡ v → (if v then (sized_at wanted end bytes >>= λ found. Ok (Some found)) else Ok None) ≡ Ok (Some (r, rest)) → (front : List ℕ) × (gate ∷ bytes ≡ front ++ rest) × IsRecord wanted front r) [
      | true ↦ λ is found. opened wanted end gate bytes r rest is found
      | false ↦ λ is found. absurd (cc found)
    ] in
    by_gate (eqb gate 1) refl h
  where
    opened : (wanted : Option ℕ) (end gate : ℕ) (bytes r rest : List ℕ) → eqb gate 1 ≡ true → (sized_at wanted end bytes >>= λ found. Ok (Some found)) ≡ Ok (Some (r, rest)) → (front : List ℕ) × (gate ∷ bytes ≡ front ++ rest) × IsRecord wanted front r
    opened wanted end gate bytes r rest is h =
        let found = bind_ok (sized_at wanted end bytes) (λ found. Ok (Some found)) (Some (r, rest)) h in
        let same : found.0 ≡ (r, rest) = cc found.2 in
        let inner = record_of wanted end bytes r rest (found.1 ∙ ap Ok same) in (
          gate ∷ inner.0,
          ap (λ (xs : List ℕ). gate ∷ xs) inner.1,
          record {
            size = omega (arith, inner.2);
            reads = λ e more. rw (is, inner.3 e more) refl;
          },
        )

-- a record that is written is one
pub record_again : (wanted : Option ℕ) (r : List ℕ) → length r < 2 ^ 64 → may_have wanted (length r) ≡ true → IsRecord wanted (1 ∷ to_be_bytes w64 (length r) ++ r) r
unfolding record_at sized_at
record_again wanted r fits allowed = record {
  size = omega (arith, length-append (to_be_bytes w64 (length r)) r);
  reads = λ e more.
      let long : ltb (length (r ++ more)) (length r) ≡ false = le-ltb _ _ (omega (arith, length-append r more)) in
      let read : number_at w64 (At e) (to_be_bytes w64 (length r) ++ (r ++ more)) ≡ Ok (length r, r ++ more) = u64_again (At e) (length r) (r ++ more) fits in
      ap (λ (xs : List ℕ). record_at wanted e (1 ∷ xs)) (append_assoc (to_be_bytes w64 (length r)) r more)
      ∙ rw (read, allowed, long, take_at r more (length r) refl, drop-append_seam r more) refl;
}

-- ---- the header

number_in_front : (w : Width) (least greatest : ℕ) (fault : Fault) (end : ℕ) (bytes : List ℕ) (n : ℕ) (rest : List ℕ) → number_in w least greatest fault end bytes ≡ Ok (n, rest)
    → (front : List ℕ) × (bytes ≡ front ++ rest) × ((f : Fault) (e : ℕ) (more : List ℕ) → number_in w least greatest f e (front ++ more) ≡ Ok (n, more))
unfolding number_in
number_in_front w least greatest fault end bytes n rest h =
    let first = bind_ok (number_at w fault bytes) _ (n, rest) h in
    let allowed = if_ok (ltb first.0.0 least || ltb greatest first.0.0) (here end bytes) (Ok first.0) (n, rest) first.2 in
    let same : first.0 ≡ (n, rest) = ok_same allowed.1 in
    let number = number_front w fault bytes n rest (first.1 ∙ ap Ok same) in
    let within : (ltb n least || ltb greatest n) ≡ false = ap (λ (x : ℕ × List ℕ). ltb x.0 least || ltb greatest x.0) (sym same) ∙ allowed.0 in
    (number.field, number.is, λ f e more. rw (number_reads w bytes n rest number f more, within) refl)

id_front : (end least : ℕ) (bytes : List ℕ) (n : ℕ) (rest : List ℕ) → id_at end least bytes ≡ Ok (n, rest) → (front : List ℕ) × (bytes ≡ front ++ rest) × ((e : ℕ) (more : List ℕ) → id_at e least (front ++ more) ≡ Ok (n, more))
unfolding id_at
id_front end least bytes n rest h =
    let first = bind_ok (number_at w32 (At end) bytes) _ (n, rest) h in
    let allowed = if_ok (ltb first.0.0 least) (here end bytes) (Ok first.0) (n, rest) first.2 in
    let same : first.0 ≡ (n, rest) = ok_same allowed.1 in
    let number = number_front w32 (At end) bytes n rest (first.1 ∙ ap Ok same) in
    let within : ltb n least ≡ false = ap (λ (x : ℕ × List ℕ). ltb x.0 least) (sym same) ∙ allowed.0 in
    (number.field, number.is, λ e more. rw (number_reads w32 bytes n rest number (At e) more, within) refl)

byte_front : (least greatest : ℕ) (fault : Fault) (end : ℕ) (bytes : List ℕ) (n : ℕ) (rest : List ℕ) → byte_in least greatest fault end bytes ≡ Ok (n, rest)
    → (bytes ≡ n ∷ rest) × ((f : Fault) (e : ℕ) (more : List ℕ) → byte_in least greatest f e (n ∷ more) ≡ Ok (n, more))
unfolding byte_in
byte_front least greatest fault end [] n rest h = absurd (cc h)
byte_front least greatest fault end (b ∷ bytes) n rest h =
    let allowed = if_ok (ltb b least || ltb greatest b) (here end (b ∷ bytes)) (Ok (b, bytes)) (n, rest) h in
    let same : (b, bytes) ≡ (n, rest) = ok_same allowed.1 in
    let head : b ≡ n = ap (λ (x : ℕ × List ℕ). x.0) same in
    let tail : bytes ≡ rest = ap (λ (x : ℕ × List ℕ). x.1) same in
    let within : (ltb n least || ltb greatest n) ≡ false = ap (λ x. ltb x least || ltb greatest x) (sym head) ∙ allowed.0 in
    (ap (λ (xs : List ℕ). b ∷ xs) tail ∙ ap (λ x. x ∷ rest) head, λ f e more. rw within refl)

column_front : (end least : ℕ) (bytes : List ℕ) (c : Column) (rest : List ℕ) → column_at end least bytes ≡ Ok (c, rest) → (front : List ℕ) × (bytes ≡ front ++ rest) × ((e : ℕ) (more : List ℕ) → column_at e least (front ++ more) ≡ Ok (c, more))
unfolding column_at
column_front end least bytes c rest h =
    let first = bind_ok (id_at end least bytes) _ (c, rest) h in
    let id = first.0.0 in
    let second = bind_ok (byte_in 1 3 (At end) end first.0.1) _ (c, rest) first.2 in
    let kind = second.0.0 in
    let one = id_front end least bytes id first.0.1 first.1 in
    let two = byte_front 1 3 (At end) end first.0.1 kind second.0.1 second.1 in
    let same : (record { id = id; kind = kind_of kind }, second.0.1) ≡ (c, rest) = ok_same second.2 in
    let is_c : record { id = id; kind = kind_of kind } ≡ c = ap (λ (x : Column × List ℕ). x.0) same in
    let is_rest : second.0.1 ≡ rest = ap (λ (x : Column × List ℕ). x.1) same in (
      one.0 ++ kind ∷ [],
      one.1 ∙ ap (λ (xs : List ℕ). one.0 ++ xs) (two.0 ∙ ap (λ (xs : List ℕ). kind ∷ xs) is_rest) ∙ sym (append_assoc one.0 (kind ∷ []) rest),
      λ e more.
          ap (column_at e least) (append_assoc one.0 (kind ∷ []) more)
          ∙ rw (one.2 e (kind ∷ more), two.1 (At e) e more) (ap (λ (x : Column). Ok (x, more)) is_c),
    )

columns_front : (end count least : ℕ) (bytes : List ℕ) (cs : List Column) (rest : List ℕ) → each_at (column_at end) above count least bytes ≡ Ok (cs, rest)
    → (front : List ℕ) × (bytes ≡ front ++ rest) × ((e : ℕ) (more : List ℕ) → each_at (column_at e) above count least (front ++ more) ≡ Ok (cs, more))
unfolding each_at
columns_front end zero least bytes cs rest h =
    let same : ([], bytes) ≡ (cs, rest) = ok_same h in
    ([], ap (λ (x : List Column × List ℕ). x.1) same, λ e more. ap (λ (x : List Column × List ℕ). Ok (x.0, more)) same)
columns_front end (suc count) least bytes cs rest h =
    let first = bind_ok (column_at end least bytes) _ (cs, rest) h in
    let c = first.0.0 in
    let second = bind_ok (each_at (column_at end) above count (above c) first.0.1) _ (cs, rest) first.2 in
    let one = column_front end least bytes c first.0.1 first.1 in
    let two = columns_front end count (above c) first.0.1 second.0.0 second.0.1 second.1 in
    let same : (c ∷ second.0.0, second.0.1) ≡ (cs, rest) = ok_same second.2 in
    let is_cs : c ∷ second.0.0 ≡ cs = ap (λ (x : List Column × List ℕ). x.0) same in
    let is_rest : second.0.1 ≡ rest = ap (λ (x : List Column × List ℕ). x.1) same in (
      one.0 ++ two.0,
      one.1 ∙ ap (λ (xs : List ℕ). one.0 ++ xs) (two.1 ∙ ap (λ (xs : List ℕ). two.0 ++ xs) is_rest) ∙ sym (append_assoc one.0 two.0 rest),
      λ e more.
          ap (each_at (column_at e) above (suc count) least) (append_assoc one.0 two.0 more)
          ∙ rw (one.2 e (two.0 ++ more), two.2 e more) (ap (λ (x : List Column). Ok (x, more)) is_cs),
    )

version_front : (end : ℕ) (bytes : List ℕ) (n : ℕ) (rest : List ℕ) → version_at end bytes ≡ Ok (n, rest) → (front : List ℕ) × (bytes ≡ front ++ rest) × ((e : ℕ) (more : List ℕ) → version_at e (front ++ more) ≡ Ok (n, more))
unfolding version_at
version_front end bytes n rest h =
    let first = bind_ok (number_at w16 (At end) bytes) _ (n, rest) h in
    let allowed = then_ok (eqb first.0.0 1) (Ok first.0) (Version first.0.0) (n, rest) first.2 in
    let same : first.0 ≡ (n, rest) = ok_same allowed.1 in
    let number = number_front w16 (At end) bytes n rest (first.1 ∙ ap Ok same) in
    let known : eqb n 1 ≡ true = ap (λ (x : ℕ × List ℕ). eqb x.0 1) (sym same) ∙ allowed.0 in
    (number.field, number.is, λ e more. rw (number_reads w16 bytes n rest number (At e) more, known) refl)

pub header_front : (end : ℕ) (bytes : List ℕ) (h : Header) (rest : List ℕ) → header_at end bytes ≡ Ok (h, rest) → (front : List ℕ) × (bytes ≡ front ++ rest) × IsHeader front h
unfolding header_at columns_at
header_front end bytes h rest read =
    let name = bind_ok (number_in w32 magic magic (At end) end bytes) _ (h, rest) read in
    let version = bind_ok (version_at end name.0.1) _ (h, rest) name.2 in
    let table = bind_ok (number_at w64 (At end) version.0.1) _ (h, rest) version.2 in
    let count = bind_ok (number_in w16 0 64 (At end) end table.0.1) _ (h, rest) table.2 in
    let columns = bind_ok (each_at (column_at end) above count.0.0 0 count.0.1) _ (h, rest) count.2 in
    let a = number_in_front w32 magic magic (At end) end bytes name.0.0 name.0.1 name.1 in
    let b = version_front end name.0.1 version.0.0 version.0.1 version.1 in
    let c = number_front w64 (At end) version.0.1 table.0.0 table.0.1 table.1 in
    let d = number_in_front w16 0 64 (At end) end table.0.1 count.0.0 count.0.1 count.1 in
    let f = columns_front end count.0.0 0 count.0.1 columns.0.0 columns.0.1 columns.1 in
    let same : (record { table = cast_signed w64 table.0.0; columns = columns.0.0 }, columns.0.1) ≡ (h, rest) = ok_same columns.2 in
    let is_h : record { table = cast_signed w64 table.0.0; columns = columns.0.0 } ≡ h = ap (λ (x : Header × List ℕ). x.0) same in
    let is_rest : columns.0.1 ≡ rest = ap (λ (x : Header × List ℕ). x.1) same in
    let joined : (xs : List ℕ) → a.0 ++ (b.0 ++ (c.field ++ (d.0 ++ f.0))) ++ xs ≡ a.0 ++ (b.0 ++ (c.field ++ (d.0 ++ (f.0 ++ xs)))) =
    λ xs. append_assoc a.0 (b.0 ++ (c.field ++ (d.0 ++ f.0))) xs ∙ ap (λ (l : List ℕ). a.0 ++ l) (append_assoc b.0 (c.field ++ (d.0 ++ f.0)) xs ∙ ap (λ (l : List ℕ). b.0 ++ l) (append_assoc c.field (d.0 ++ f.0) xs ∙ ap (λ (l : List ℕ). c.field ++ l) (append_assoc d.0 f.0 xs))) in (
      a.0 ++ (b.0 ++ (c.field ++ (d.0 ++ f.0))),
      a.1 ∙ ap (λ (l : List ℕ). a.0 ++ l) (b.1 ∙ ap (λ (l : List ℕ). b.0 ++ l) (c.is ∙ ap (λ (l : List ℕ). c.field ++ l) (d.1 ∙ ap (λ (l : List ℕ). d.0 ++ l) (f.1 ∙ ap (λ (l : List ℕ). f.0 ++ l) is_rest)))) ∙ sym (joined rest),
      λ e more.
          ap (header_at e) (joined more)
          ∙ rw (a.2 (At e) e (b.0 ++ (c.field ++ (d.0 ++ (f.0 ++ more)))), b.2 e (c.field ++ (d.0 ++ (f.0 ++ more))), number_reads w64 version.0.1 table.0.0 table.0.1 c (At e) (d.0 ++ (f.0 ++ more)), d.2 (At e) e (f.0 ++ more), f.2 e more)
          (ap (λ (x : Header). Ok (x, more)) is_h),
    )
