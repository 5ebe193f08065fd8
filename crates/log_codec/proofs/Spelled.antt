-- What is read is the one spelling of what it gives.
use Rattle.std.proofs.Common.{◌≡◌, ℕ, ℤ, zero, suc, ◌+◌, ◌-◌, ◌*◌, ◌^◌, ◌<◌, ◌≤◌, Bool, true, false, cond, eqb, ltb, List, [], ◌∷◌, ◌++◌, length, take, drop, get_or, Option, Some, None, Result, Ok, Err, refl, sym, ap, ◌∙◌, subst, append_assoc, arith, length-append, length-take}
use Rattle.std.specs.Prelude.{◌||◌, FitsSigned, IsTrue}
use Rattle.std.specs.List.{All, flat_map}
use Rattle.std.specs.Int.{Width, w16, w32, w64, byte_len, to_be_bytes, from_be_bytes, cast_signed, cast_unsigned}
use Rattle.std.proofs.lemmas.Bool.{ltb-false, eqb-true}
use Rattle.std.proofs.lemmas.Nat.{be_bytes_2, be_bytes_4, be_bytes_8}
use Rattle.std.proofs.lemmas.Int.{of_z-to_z}
use Rattle.std.proofs.Math.Facts.{sfits_to_z}
use Rattle.std.proofs.lemmas.List.Elements.{All-cons, All-nil}
use Rattle.std.proofs.lemmas.List.{take-append-drop, append-nil}
use Rattle.flash_list.specs.Steps.{◌>>=◌, each_at}
use Rattle.flash_list.specs.Fields.{number_at}
use Rattle.log_codec.specs.declared.fault.FrameError.{FrameError}
use Rattle.log_codec.specs.Fields.{passes, number_in, byte_in, bytes_at}
use Rattle.log_codec.specs.declared.op.Head.{Head}
use Rattle.log_codec.specs.declared.entry.Entry.{Entry}
use Rattle.log_codec.specs.declared.entry.Frame.{Frame}
use Rattle.log_codec.specs.declared.entry.Body.{Body}
use Rattle.log_codec.specs.declared.entry.Body.TheVariants as B
use Rattle.log_codec.specs.declared.entry.Op.{Op}
use Rattle.log_codec.specs.declared.entry.Family.{Family}
use Rattle.log_codec.specs.declared.fault.FrameError.TheVariants.{Short, Bad, Long}
use Rattle.log_codec.specs.declared.header.Header.{Header}
use Rattle.log_codec.specs.declared.header.ColumnSpec.{ColumnSpec}
use Rattle.log_codec.specs.Header as H
use Rattle.log_codec.specs.Frames as F
use Rattle.log_codec.specs.Spelling as S
use Rattle.log_codec.specs.Writable.{AreBytes, HandleFits, IsEpoch, IsPut, OpCanBeWritten, OpsCanBeWritten, InstallCanBeWritten, BodyCanBeWritten, BodyNumbersFit, CanBeWritten, NumbersFit, Rising, IsKind, HeaderCanBeWritten, HeaderNumbersFit}
use Rattle.log_codec.proofs.Found.{bind_ok, ok_is, guard_ok, IsNumber, number_found, number_in_found, byte_found, bytes_found, behind_is_dropped}
use Rattle.log_codec.proofs.Ops.{head_found}
use Rattle.log_codec.proofs.Written.{KindsFit}

-- ---- bytes

front_are : (xs ys : List ℕ) → AreBytes (xs ++ ys) → AreBytes xs
front_are [] ys all i = omega arith
front_are (x ∷ xs) ys all zero = all 0
front_are (x ∷ xs) ys all (suc i) = front_are xs ys (λ j. all (suc j)) i

behind_are : (xs ys : List ℕ) → AreBytes (xs ++ ys) → AreBytes ys
behind_are [] ys all = all
behind_are (x ∷ xs) ys all = behind_are xs ys (λ j. all (suc j))

-- ---- numbers

below_16 : (bs : List ℕ) → AreBytes bs → from_be_bytes w16 bs < 2 ^ 16
below_16 bs all = omega (arith, all 0, all 1)

below_32 : (bs : List ℕ) → AreBytes bs → from_be_bytes w32 bs < 2 ^ 32
below_32 bs all = omega (arith, all 0, all 1, all 2, all 3)

below_64 : (bs : List ℕ) → AreBytes bs → from_be_bytes w64 bs < 2 ^ 64
below_64 bs all = omega (arith, all 0, all 1, all 2, all 3, all 4, all 5, all 6, all 7)

-- these bytes are what is written, with the rest behind it, and it can be written
pub record Spells (bytes written rest : List ℕ) (Fits : Type 0) : Type 0 where
  pub is : bytes ≡ written ++ rest
  pub rest_are : AreBytes rest
  pub fits : Fits

chain : (a v b w c : List ℕ) (P Q : Type 0) → Spells a v b P → Spells b w c Q → Spells a (v ++ w) c (P × Q)
chain a v b w c P Q s t = record {
  is = s.is ∙ ap (λ (xs : List ℕ). v ++ xs) t.is ∙ sym (append_assoc v w c);
  rest_are = t.rest_are;
  fits = (s.fits, t.fits);
}

weaker : (a v b : List ℕ) (P Q : Type 0) → Spells a v b P → (P → Q) → Spells a v b Q
weaker a v b P Q s f = record { is = s.is; rest_are = s.rest_are; fits = f s.fits }

as_written : (a v w b : List ℕ) (P : Type 0) → Spells a v b P → v ≡ w → Spells a w b P
as_written a v w b P s e = subst (λ u. Spells a u b P) e s

sized_spelled : (width : Width) (bytes : List ℕ) (x : ℕ × List ℕ) (P : Type 0) → IsNumber width bytes x → AreBytes bytes → to_be_bytes width x.0 ≡ take (byte_len width) bytes → P → Spells bytes (to_be_bytes width x.0) x.1 P
sized_spelled width bytes x P n all written fits =
    let front = take (byte_len width) bytes in
    let behind = drop (byte_len width) bytes in
    let whole : front ++ behind ≡ bytes = take-append-drop (byte_len width) bytes in
    let rest : AreBytes behind = behind_are front behind (subst AreBytes (sym whole) all) in
    record {
      is = sym whole ∙ ap (λ (xs : List ℕ). xs ++ behind) (sym written) ∙ ap (λ (xs : List ℕ). to_be_bytes width x.0 ++ xs) (sym n.rest);
      rest_are = subst AreBytes (sym n.rest) rest;
      fits = fits;
    }

front_bytes : (k : ℕ) (bytes : List ℕ) → AreBytes bytes → AreBytes (take k bytes)
front_bytes k bytes all = front_are (take k bytes) (drop k bytes) (subst AreBytes (sym (take-append-drop k bytes)) all)

u16_spelled : (bytes : List ℕ) (x : ℕ × List ℕ) → IsNumber w16 bytes x → AreBytes bytes → Spells bytes (to_be_bytes w16 x.0) x.1 (x.0 < 2 ^ 16)
u16_spelled bytes x n all =
    let front = front_bytes 2 bytes all in
    let size : length (take 2 bytes) ≡ 2 = omega (arith, length-take 2 bytes, n.long) in
    sized_spelled w16 bytes x (x.0 < 2 ^ 16) n all (be_bytes_2 (take 2 bytes) x.0 size front n.number) (subst (λ m. m < 2 ^ 16) (sym n.number) (below_16 (take 2 bytes) front))

u32_spelled : (bytes : List ℕ) (x : ℕ × List ℕ) → IsNumber w32 bytes x → AreBytes bytes → Spells bytes (to_be_bytes w32 x.0) x.1 (x.0 < 2 ^ 32)
u32_spelled bytes x n all =
    let front = front_bytes 4 bytes all in
    let size : length (take 4 bytes) ≡ 4 = omega (arith, length-take 4 bytes, n.long) in
    sized_spelled w32 bytes x (x.0 < 2 ^ 32) n all (be_bytes_4 (take 4 bytes) x.0 size front n.number) (subst (λ m. m < 2 ^ 32) (sym n.number) (below_32 (take 4 bytes) front))

u64_spelled : (bytes : List ℕ) (x : ℕ × List ℕ) → IsNumber w64 bytes x → AreBytes bytes → Spells bytes (to_be_bytes w64 x.0) x.1 (x.0 < 2 ^ 64)
u64_spelled bytes x n all =
    let front = front_bytes 8 bytes all in
    let size : length (take 8 bytes) ≡ 8 = omega (arith, length-take 8 bytes, n.long) in
    sized_spelled w64 bytes x (x.0 < 2 ^ 64) n all (be_bytes_8 (take 8 bytes) x.0 size front n.number) (subst (λ m. m < 2 ^ 64) (sym n.number) (below_64 (take 8 bytes) front))

byte_spelled : (least greatest : ℕ) (fault : FrameError) (end : ℕ) (bytes : List ℕ) (x : ℕ × List ℕ) → byte_in least greatest fault end bytes ≡ Ok x → AreBytes bytes
    → Spells bytes (x.0 ∷ []) x.1 ((least ≤ x.0) × (x.0 ≤ greatest))
byte_spelled least greatest fault end bytes x e all =
    let b = byte_found least greatest fault end bytes x e in
    record { is = b.0; rest_are = behind_are (x.0 ∷ []) x.1 (subst AreBytes b.0 all); fits = b.1 }

bytes_spelled : (end len : ℕ) (bytes : List ℕ) (x : List ℕ × List ℕ) → bytes_at end len bytes ≡ Ok x → AreBytes bytes → Spells bytes x.0 x.1 (length x.0 ≡ len)
bytes_spelled end len bytes x e all =
    let b = bytes_found end len bytes x e in
    record { is = b.0; rest_are = behind_are x.0 x.1 (subst AreBytes b.0 all); fits = b.1 }

-- ---- ranges and epochs

handle_spelled : (end : ℕ) (bytes : List ℕ) (x : ℤ × List ℕ) → F.handle_at end bytes ≡ Ok x → AreBytes bytes → Spells bytes (S.handle x.0) x.1 (FitsSigned w64 x.0)
unfolding F.handle_at
handle_spelled end bytes x e all =
    let a = bind_ok (number_at w64 (passes end bytes) bytes) _ x e in
    let s = u64_spelled bytes a.0 (number_found w64 (passes end bytes) bytes a.0 a.1) all in
    let back : cast_unsigned w64 (cast_signed w64 a.0.0) ≡ a.0.0 = of_z-to_z w64 a.0.0 s.fits in
    let fits : FitsSigned w64 (cast_signed w64 a.0.0) = sfits_to_z {w = w64} {n = a.0.0} (record { fits = s.fits }) in
    let t = as_written bytes (to_be_bytes w64 a.0.0) (S.handle (cast_signed w64 a.0.0)) a.0.1 (a.0.0 < 2 ^ 64) s (ap (to_be_bytes w64) (sym back)) in
    let same = ok_is _ x a.2 in
    subst (λ y. Spells bytes (S.handle y.0) y.1 (FitsSigned w64 y.0)) same (weaker bytes _ a.0.1 _ _ t (λ _. fits))

high_spelled : (end : ℕ) (bytes : List ℕ) (x : Option ℤ × List ℕ) → F.high_at end bytes ≡ Ok x → AreBytes bytes → Spells bytes (S.high x.0) x.1 (HandleFits x.0)
unfolding F.high_at
high_spelled end bytes x e all =
    let a = bind_ok (byte_in 0 1 (passes end bytes) end bytes) _ x e in
    let f = byte_spelled 0 1 (passes end bytes) end bytes a.0 a.1 all in
    let by_flag : (flag : ℕ) → flag ≤ 1 → Spells bytes (flag ∷ []) a.0.1 ((0 ≤ flag) × (flag ≤ 1)) → cond (eqb flag 0) (Ok (None, a.0.1)) (F.handle_at end a.0.1 >>= (λ high. Ok (Some high.0, high.1))) ≡ Ok x → Spells bytes (S.high x.0) x.1 (HandleFits x.0) =
    elim [
      | zero ↦ λ le s h. subst (λ y. Spells bytes (S.high y.0) y.1 (HandleFits y.0)) (ok_is _ x h) (weaker bytes _ a.0.1 _ _ s (λ _. tt))
      | suc zero ↦ λ le s h.
          let b = bind_ok (F.handle_at end a.0.1) _ x h in
          let t = handle_spelled end a.0.1 b.0 b.1 s.rest_are in
          subst (λ y. Spells bytes (S.high y.0) y.1 (HandleFits y.0)) (ok_is _ x b.2) (weaker bytes _ b.0.1 _ _ (chain bytes (1 ∷ []) a.0.1 (S.handle b.0.0) b.0.1 _ _ s t) (λ p. p.1))
      | suc (suc n) ↦ λ le s h. absurd (omega (arith, le))
    ] in
    by_flag a.0.0 f.fits.1 f a.2

range_spelled : (end : ℕ) (bytes : List ℕ) (x : (ℤ × Option ℤ) × List ℕ) → F.range_at end bytes ≡ Ok x → AreBytes bytes → Spells bytes (S.range x.0.0 x.0.1) x.1 (FitsSigned w64 x.0.0 × HandleFits x.0.1)
unfolding F.range_at
range_spelled end bytes x e all =
    let a = bind_ok (F.handle_at end bytes) _ x e in
    let s = handle_spelled end bytes a.0 a.1 all in
    let b = bind_ok (F.high_at end a.0.1) _ x a.2 in
    let t = high_spelled end a.0.1 b.0 b.1 s.rest_are in
    subst (λ y. Spells bytes (S.range y.0.0 y.0.1) y.1 (FitsSigned w64 y.0.0 × HandleFits y.0.1)) (ok_is _ x b.2) (chain bytes (S.handle a.0.0) a.0.1 (S.high b.0.0) b.0.1 _ _ s t)

epoch_spelled : (end : ℕ) (bytes : List ℕ) (x : (ℕ × ℕ) × List ℕ) → F.epoch_at end bytes ≡ Ok x → AreBytes bytes → Spells bytes (S.epoch x.0.0 x.0.1) x.1 (IsEpoch x.0.0 x.0.1)
unfolding F.epoch_at
epoch_spelled end bytes x e all =
    let a = bind_ok (number_in w64 0 (2 ^ 62 - 1) (passes end bytes) end bytes) _ x e in
    let n = number_in_found w64 0 (2 ^ 62 - 1) (passes end bytes) end bytes a.0 a.1 in
    let s = u64_spelled bytes a.0 n.0 all in
    let b = bind_ok (number_in w64 0 (2 ^ 62 - 1) (passes end a.0.1) end a.0.1) _ x a.2 in
    let m = number_in_found w64 0 (2 ^ 62 - 1) (passes end a.0.1) end a.0.1 b.0 b.1 in
    let t = u64_spelled a.0.1 b.0 m.0 s.rest_are in
    let fits : IsEpoch a.0.0 b.0.0 = (omega (arith, n.1.1), omega (arith, m.1.1)) in
    subst (λ y. Spells bytes (S.epoch y.0.0 y.0.1) y.1 (IsEpoch y.0.0 y.0.1)) (ok_is _ x b.2) (weaker bytes _ b.0.1 _ _ (chain bytes (to_be_bytes w64 a.0.0) a.0.1 (to_be_bytes w64 b.0.0) b.0.1 _ _ s t) (λ _. fits))

-- ---- ops

put_spelled : (put : ℕ) → 1 ≤ put → put ≤ 2 → S.put_byte (eqb put 1) ≡ put
put_spelled zero le lt = absurd (omega (arith, le))
put_spelled (suc zero) le lt = refl
put_spelled (suc (suc zero)) le lt = refl
put_spelled (suc (suc (suc n))) le lt = absurd (omega (arith, lt))

family_spelled : (family : ℕ) → 1 ≤ family → family ≤ 3 → S.family_byte (F.family_of family) ≡ family
family_spelled zero le lt = absurd (omega (arith, le))
family_spelled (suc zero) le lt = refl
family_spelled (suc (suc zero)) le lt = refl
family_spelled (suc (suc (suc zero))) le lt = refl
family_spelled (suc (suc (suc (suc n)))) le lt = absurd (omega (arith, lt))

abbrev ValueFits : Bool → List ℕ → Type 0
ValueFits put value = (length value < 2 ^ 32) × (put ≡ false → value ≡ [])

value_spelled : (end : ℕ) (put : Bool) (bytes : List ℕ) (x : List ℕ × List ℕ) → cond put (number_at w32 (passes end bytes) bytes >>= (λ len. bytes_at end len.0 len.1)) (Ok ([], bytes)) ≡ Ok x → AreBytes bytes
    → Spells bytes (S.value put x.0) x.1 (ValueFits put x.0)
value_spelled end true bytes x e all =
    let a = bind_ok (number_at w32 (passes end bytes) bytes) _ x e in
    let s = u32_spelled bytes a.0 (number_found w32 (passes end bytes) bytes a.0 a.1) all in
    let t = bytes_spelled end a.0.0 a.0.1 x a.2 s.rest_are in
    let size : length x.0 < 2 ^ 32 = omega (arith, t.fits, s.fits) in
    let whole = chain bytes (to_be_bytes w32 a.0.0) a.0.1 x.0 x.1 _ _ s t in
    as_written bytes (to_be_bytes w32 a.0.0 ++ x.0) (S.value true x.0) x.1 (ValueFits true x.0) (weaker bytes _ x.1 _ _ whole (λ _. (size, λ no. absurd cc))) (ap (λ n. to_be_bytes w32 n ++ x.0) (sym t.fits))
value_spelled end false bytes x e all =
    let same = ok_is ([], bytes) x e in
    subst (λ y. Spells bytes (S.value false y.0) y.1 (ValueFits false y.0)) same (record { is = refl; rest_are = all; fits = (omega arith, λ no. refl) })

-- an op and what is known of it
abbrev OpFits : ℕ → Op → Type 0
OpFits most o = OpCanBeWritten o × (S.put_byte o.put ≤ most)

op_spelled : (end most : ℕ) (bytes : List ℕ) (x : Op × List ℕ) → most ≤ 2 → F.op_at end most (tt {0}) bytes ≡ Ok x → AreBytes bytes → Spells bytes (S.op x.0) x.1 (OpFits most x.0)
unfolding F.op_at F.value_at S.op
op_spelled end most bytes x few e all =
    let a = bind_ok (F.head_at end most bytes) _ x e in
    let put = a.0.0.put in
    let family = a.0.0.family in
    let h = head_found end most bytes a.0.0 a.0.1 a.1 in
    let two : put ≤ 2 = omega (arith, h.put.1, few) in
    let put_is = put_spelled put h.put.0 two in
    let family_is = family_spelled family h.family.0 h.family.1 in
    let front : Spells bytes (put ∷ family ∷ []) h.behind (Unit {0}) = record { is = h.bytes_are; rest_are = behind_are (put ∷ family ∷ []) h.behind (subst AreBytes h.bytes_are all); fits = tt } in
    let len = u16_spelled h.behind (a.0.0.key_len, a.0.1) h.key_len front.rest_are in
    let b = bind_ok (bytes_at end a.0.0.key_len a.0.1) _ x a.2 in
    let key = bytes_spelled end a.0.0.key_len a.0.1 b.0 b.1 len.rest_are in
    let c = bind_ok (cond (eqb put 1) (number_at w32 (passes end b.0.1) b.0.1 >>= (λ n. bytes_at end n.0 n.1)) (Ok ([], b.0.1))) _ x b.2 in
    let value = value_spelled end (eqb put 1) b.0.1 c.0 c.1 key.rest_are in
    let tail = chain a.0.1 b.0.0 b.0.1 (S.value (eqb put 1) c.0.0) c.0.1 _ _ key value in
    let more = chain h.behind (to_be_bytes w16 a.0.0.key_len) a.0.1 (b.0.0 ++ S.value (eqb put 1) c.0.0) c.0.1 _ _ len tail in
    let whole = chain bytes (put ∷ family ∷ []) h.behind (to_be_bytes w16 a.0.0.key_len ++ (b.0.0 ++ S.value (eqb put 1) c.0.0)) c.0.1 _ _ front more in
    let o : Op = record { put = eqb put 1; family = F.family_of family; key = b.0.0; value = c.0.0 } in
    let key_fits : length b.0.0 < 2 ^ 16 = omega (arith, key.fits, len.fits) in
    let can : OpCanBeWritten o = record { key = key_fits; value = value.fits.0; delete = value.fits.1 } in
    let kind : S.put_byte (eqb put 1) ≤ most = rw put_is h.put.1 in
    let one : put ∷ family ∷ (to_be_bytes w16 a.0.0.key_len ++ (b.0.0 ++ S.value (eqb put 1) c.0.0)) ≡ S.op o = rw (put_is, family_is, key.fits) refl in
    subst (λ y. Spells bytes (S.op y.0) y.1 (OpFits most y.0)) (ok_is (o, c.0.1) x c.2) (as_written bytes _ (S.op o) c.0.1 (OpFits most o) (weaker bytes _ c.0.1 _ _ whole (λ _. (can, kind))) one)

abbrev OpsFit : ℕ → ℕ → List Op → Type 0
OpsFit most count ops = (length ops ≡ count) × All (OpFits most) ops

each_spelled : (end most count : ℕ) (bytes : List ℕ) (x : List Op × List ℕ) → most ≤ 2 → each_at (F.op_at end most) (λ _. tt {0}) count (tt {0}) bytes ≡ Ok x → AreBytes bytes
    → Spells bytes (flat_map S.op x.0) x.1 (OpsFit most count x.0)
unfolding each_at
each_spelled end most zero bytes x few e all =
    subst (λ y. Spells bytes (flat_map S.op y.0) y.1 (OpsFit most 0 y.0)) (ok_is ([], bytes) x e) (record { is = refl; rest_are = all; fits = (refl, All-nil (OpFits most)) })
each_spelled end most (suc count) bytes x few e all =
    let a = bind_ok (F.op_at end most (tt {0}) bytes) _ x e in
    let s = op_spelled end most bytes a.0 few a.1 all in
    let b = bind_ok (each_at (F.op_at end most) (λ _. tt {0}) count (tt {0}) a.0.1) _ x a.2 in
    let t = each_spelled end most count a.0.1 b.0 few b.1 s.rest_are in
    let whole = chain bytes (S.op a.0.0) a.0.1 (flat_map S.op b.0.0) b.0.1 _ _ s t in
    subst (λ y. Spells bytes (flat_map S.op y.0) y.1 (OpsFit most (suc count) y.0)) (ok_is (a.0.0 ∷ b.0.0, b.0.1) x b.2)
    (weaker bytes _ b.0.1 _ _ whole (λ p. (ap suc p.1.0, All-cons (OpFits most) a.0.0 b.0.0 p.0 p.1.1)))

ops_spelled : (end most : ℕ) (bytes : List ℕ) (x : List Op × List ℕ) → most ≤ 2 → F.ops_at end most bytes ≡ Ok x → AreBytes bytes → Spells bytes (S.ops x.0) x.1 (OpsCanBeWritten x.0 × KindsFit most x.0)
unfolding F.ops_at F.each_op_at
ops_spelled end most bytes x few e all =
    let a = bind_ok (number_at w32 (passes end bytes) bytes) _ x e in
    let s = u32_spelled bytes a.0 (number_found w32 (passes end bytes) bytes a.0 a.1) all in
    let t = each_spelled end most a.0.0 a.0.1 x few a.2 s.rest_are in
    let whole = chain bytes (to_be_bytes w32 a.0.0) a.0.1 (flat_map S.op x.0) x.1 _ _ s t in
    let count : length x.0 < 2 ^ 32 = omega (arith, t.fits.0, s.fits) in
    let can : OpsCanBeWritten x.0 = record { count = count; each = λ k d lt. (t.fits.1 k d lt).0 } in
    as_written bytes _ (S.ops x.0) x.1 _ (weaker bytes _ x.1 _ _ whole (λ _. (can, λ k d lt. (t.fits.1 k d lt).1))) (ap (λ n. to_be_bytes w32 n ++ flat_map S.op x.0) (sym t.fits.0))

-- ---- bodies

abbrev BodyFits : Body → Type 0
BodyFits b = BodyCanBeWritten b × BodyNumbersFit b

-- a body of this kind, behind its kind byte, is spelled
abbrev KindSpelled : ℕ → List ℕ → Body × List ℕ → ℕ → Type 0
KindSpelled end bytes x kind = F.body_of end kind bytes ≡ Ok x → Spells (kind ∷ bytes) (S.body x.0) x.1 (BodyFits x.0)

kind_first : (kind : ℕ) (bytes written rest : List ℕ) (P : Type 0) → Spells bytes written rest P → Spells (kind ∷ bytes) (kind ∷ written) rest P
kind_first kind bytes written rest P s = record { is = ap (λ (xs : List ℕ). kind ∷ xs) s.is; rest_are = s.rest_are; fits = s.fits }

is_put : (b : Bool) → S.put_byte b ≤ 1 → IsTrue b
is_put true le = refl
is_put false le = absurd (omega (arith, le))

open_spelled : (end : ℕ) (bytes : List ℕ) (x : Body × List ℕ) → AreBytes bytes → KindSpelled end bytes x 1
unfolding F.open_at S.body
open_spelled end bytes x all e =
    let a = bind_ok (F.epoch_at end bytes) _ x e in
    let s = epoch_spelled end bytes a.0 a.1 all in
    let b = bind_ok (F.range_at end a.0.1) _ x a.2 in
    let t = range_spelled end a.0.1 b.0 b.1 s.rest_are in
    let whole = chain bytes (S.epoch a.0.0.0 a.0.0.1) a.0.1 (S.range b.0.0.0 b.0.0.1) b.0.1 _ _ s t in
    let body = B.Open a.0.0.0 a.0.0.1 b.0.0.0 b.0.0.1 in
    subst (λ y. Spells (1 ∷ bytes) (S.body y.0) y.1 (BodyFits y.0)) (ok_is (body, b.0.1) x b.2) (kind_first 1 bytes _ b.0.1 (BodyFits body) whole)

write_spelled : (end : ℕ) (bytes : List ℕ) (x : Body × List ℕ) → AreBytes bytes → KindSpelled end bytes x 2
unfolding F.write_at S.body
write_spelled end bytes x all e =
    let a = bind_ok (F.ops_at end 2 bytes) _ x e in
    let s = ops_spelled end 2 bytes a.0 (omega arith) a.1 all in
    let body = B.Write a.0.0 in
    subst (λ y. Spells (2 ∷ bytes) (S.body y.0) y.1 (BodyFits y.0)) (ok_is (body, a.0.1) x a.2) (kind_first 2 bytes _ a.0.1 (BodyFits body) (weaker bytes _ a.0.1 _ _ s (λ p. (p.0, tt))))

split_spelled : (end : ℕ) (bytes : List ℕ) (x : Body × List ℕ) → AreBytes bytes → KindSpelled end bytes x 3
unfolding F.split_at S.body
split_spelled end bytes x all e =
    let a = bind_ok (F.handle_at end bytes) _ x e in
    let s = handle_spelled end bytes a.0 a.1 all in
    let b = bind_ok (number_at w32 (passes end a.0.1) a.0.1) _ x a.2 in
    let t = u32_spelled a.0.1 b.0 (number_found w32 (passes end a.0.1) a.0.1 b.0 b.1) s.rest_are in
    let whole = chain bytes (S.handle a.0.0) a.0.1 (to_be_bytes w32 b.0.0) b.0.1 _ _ s t in
    let body = B.Split a.0.0 b.0.0 in
    subst (λ y. Spells (3 ∷ bytes) (S.body y.0) y.1 (BodyFits y.0)) (ok_is (body, b.0.1) x b.2) (kind_first 3 bytes _ b.0.1 (BodyFits body) (weaker bytes _ b.0.1 _ _ whole (λ p. (tt, p))))

prepare_spelled : (end : ℕ) (bytes : List ℕ) (x : Body × List ℕ) → AreBytes bytes → KindSpelled end bytes x 4
unfolding F.prepare_at S.body
prepare_spelled end bytes x all e =
    let a = bind_ok (number_at w32 (passes end bytes) bytes) _ x e in
    let s = u32_spelled bytes a.0 (number_found w32 (passes end bytes) bytes a.0 a.1) all in
    let body = B.Prepare a.0.0 in
    subst (λ y. Spells (4 ∷ bytes) (S.body y.0) y.1 (BodyFits y.0)) (ok_is (body, a.0.1) x a.2) (kind_first 4 bytes _ a.0.1 (BodyFits body) (weaker bytes _ a.0.1 _ _ s (λ p. (tt, p))))

commit_spelled : (end : ℕ) (bytes : List ℕ) (x : Body × List ℕ) → AreBytes bytes → KindSpelled end bytes x 5
unfolding F.commit_at S.body
commit_spelled end bytes x all e =
    let a = bind_ok (number_at w32 (passes end bytes) bytes) _ x e in
    let s = u32_spelled bytes a.0 (number_found w32 (passes end bytes) bytes a.0 a.1) all in
    let body = B.Commit a.0.0 in
    subst (λ y. Spells (5 ∷ bytes) (S.body y.0) y.1 (BodyFits y.0)) (ok_is (body, a.0.1) x a.2) (kind_first 5 bytes _ a.0.1 (BodyFits body) (weaker bytes _ a.0.1 _ _ s (λ p. (tt, p))))

remove_spelled : (end : ℕ) (bytes : List ℕ) (x : Body × List ℕ) → AreBytes bytes → KindSpelled end bytes x 6
unfolding S.body
remove_spelled end bytes x all e =
    subst (λ y. Spells (6 ∷ bytes) (S.body y.0) y.1 (BodyFits y.0)) (ok_is (B.Remove, bytes) x e) (record { is = refl; rest_are = all; fits = (tt, tt) })

install_spelled : (end : ℕ) (bytes : List ℕ) (x : Body × List ℕ) → AreBytes bytes → KindSpelled end bytes x 7
unfolding F.install_at S.body
install_spelled end bytes x all e =
    let a = bind_ok (F.epoch_at end bytes) _ x e in
    let s = epoch_spelled end bytes a.0 a.1 all in
    let b = bind_ok (F.range_at end a.0.1) _ x a.2 in
    let t = range_spelled end a.0.1 b.0 b.1 s.rest_are in
    let c = bind_ok (F.ops_at end 1 b.0.1) _ x b.2 in
    let u = ops_spelled end 1 b.0.1 c.0 (omega arith) c.1 t.rest_are in
    let tail = chain a.0.1 (S.range b.0.0.0 b.0.0.1) b.0.1 (S.ops c.0.0) c.0.1 _ _ t u in
    let whole = chain bytes (S.epoch a.0.0.0 a.0.0.1) a.0.1 (S.range b.0.0.0 b.0.0.1 ++ S.ops c.0.0) c.0.1 _ _ s tail in
    let body = B.Install a.0.0.0 a.0.0.1 b.0.0.0 b.0.0.1 c.0.0 in
    let can : InstallCanBeWritten a.0.0.0 a.0.0.1 c.0.0 = record { epoch = s.fits; list = u.fits.0; puts = λ k d lt. is_put (get_or c.0.0 k d).put (u.fits.1 k d lt) } in
    subst (λ y. Spells (7 ∷ bytes) (S.body y.0) y.1 (BodyFits y.0)) (ok_is (body, c.0.1) x c.2) (kind_first 7 bytes _ c.0.1 (BodyFits body) (weaker bytes _ c.0.1 _ _ whole (λ _. (can, t.fits))))

empty_spelled : (end : ℕ) (bytes : List ℕ) (x : Body × List ℕ) → AreBytes bytes → KindSpelled end bytes x 8
unfolding S.body
empty_spelled end bytes x all e =
    subst (λ y. Spells (8 ∷ bytes) (S.body y.0) y.1 (BodyFits y.0)) (ok_is (B.Empty, bytes) x e) (record { is = refl; rest_are = all; fits = (tt, tt) })

kind_spelled : (end : ℕ) (bytes : List ℕ) (x : Body × List ℕ) → AreBytes bytes → (kind : ℕ) → 1 ≤ kind → kind ≤ 8 → KindSpelled end bytes x kind
kind_spelled end bytes x all zero le lt = absurd (omega (arith, le))
kind_spelled end bytes x all (suc zero) le lt = open_spelled end bytes x all
kind_spelled end bytes x all (suc (suc zero)) le lt = write_spelled end bytes x all
kind_spelled end bytes x all (suc (suc (suc zero))) le lt = split_spelled end bytes x all
kind_spelled end bytes x all (suc (suc (suc (suc zero)))) le lt = prepare_spelled end bytes x all
kind_spelled end bytes x all (suc (suc (suc (suc (suc zero))))) le lt = commit_spelled end bytes x all
kind_spelled end bytes x all (suc (suc (suc (suc (suc (suc zero)))))) le lt = remove_spelled end bytes x all
kind_spelled end bytes x all (suc (suc (suc (suc (suc (suc (suc zero))))))) le lt = install_spelled end bytes x all
kind_spelled end bytes x all (suc (suc (suc (suc (suc (suc (suc (suc zero)))))))) le lt = empty_spelled end bytes x all
kind_spelled end bytes x all (suc (suc (suc (suc (suc (suc (suc (suc (suc n))))))))) le lt = absurd (omega (arith, lt))

body_spelled : (end : ℕ) (bytes : List ℕ) (x : Body × List ℕ) → F.body_at end bytes ≡ Ok x → AreBytes bytes → Spells bytes (S.body x.0) x.1 (BodyFits x.0)
unfolding F.body_at
body_spelled end bytes x e all =
    let a = bind_ok (byte_in 1 8 (passes end bytes) end bytes) _ x e in
    let k = byte_spelled 1 8 (passes end bytes) end bytes a.0 a.1 all in
    subst (λ (xs : List ℕ). Spells xs (S.body x.0) x.1 (BodyFits x.0)) (sym k.is) (kind_spelled end a.0.1 x k.rest_are a.0.0 k.fits.0 k.fits.1 a.2)

-- ---- entries and frames

-- what is known of an entry but for the length of its payload
abbrev EntryFits : Entry → Type 0
EntryFits e = ((1 ≤ e.index) × (e.index < 2 ^ 63)) × (BodyCanBeWritten e.body × NumbersFit e)

entry_spelled : (end : ℕ) (bytes : List ℕ) (x : Entry × List ℕ) → F.entry_at end bytes ≡ Ok x → AreBytes bytes → Spells bytes (S.payload x.0) x.1 (EntryFits x.0)
unfolding F.entry_at S.payload
entry_spelled end bytes x e all =
    let a = bind_ok (number_at w32 (passes end bytes) bytes) _ x e in
    let region = u32_spelled bytes a.0 (number_found w32 (passes end bytes) bytes a.0 a.1) all in
    let b = bind_ok (number_in w64 1 (2 ^ 63 - 1) (passes end a.0.1) end a.0.1) _ x a.2 in
    let n = number_in_found w64 1 (2 ^ 63 - 1) (passes end a.0.1) end a.0.1 b.0 b.1 in
    let index = u64_spelled a.0.1 b.0 n.0 region.rest_are in
    let c = bind_ok (F.body_at end b.0.1) _ x b.2 in
    let body = body_spelled end b.0.1 c.0 c.1 index.rest_are in
    let tail = chain a.0.1 (to_be_bytes w64 b.0.0) b.0.1 (S.body c.0.0) c.0.1 _ _ index body in
    let whole = chain bytes (to_be_bytes w32 a.0.0) a.0.1 (to_be_bytes w64 b.0.0 ++ S.body c.0.0) c.0.1 _ _ region tail in
    let entry : Entry = record { region = a.0.0; index = b.0.0; body = c.0.0 } in
    let numbers : NumbersFit entry = record { region = region.fits; body = body.fits.1 } in
    let high : b.0.0 < 2 ^ 63 = omega (arith, n.1.1) in
    subst (λ y. Spells bytes (S.payload y.0) y.1 (EntryFits y.0)) (ok_is (entry, c.0.1) x c.2) (weaker bytes _ c.0.1 _ _ whole (λ _. ((n.1.0, high), (body.fits.0, numbers))))

no_more : (xs : List ℕ) → eqb (length xs) 0 ≡ true → xs ≡ []
no_more [] e = refl
no_more (x ∷ xs) e = let none : length (x ∷ xs) ≡ 0 = eqb-true _ _ e in absurd (omega arith)

chosen_ok : {A E : Type 0} (b : Bool) (x : A) (d : E) (y : A) → cond b (Ok x) (Err d) ≡ Ok y → (b ≡ true) × (x ≡ y)
chosen_ok true x d y e = (refl, ok_is x y e)
chosen_ok false x d y e = absurd cc

payload_spelled : (end : ℕ) (bytes : List ℕ) (entry : Entry) → F.payload_of end bytes ≡ Ok entry → AreBytes bytes → (bytes ≡ S.payload entry) × EntryFits entry
unfolding F.payload_of
payload_spelled end bytes entry e all =
    let a = bind_ok (F.entry_at end bytes) _ entry e in
    let s = entry_spelled end bytes a.0 a.1 all in
    let g = chosen_ok (eqb (length a.0.1) 0) a.0.0 (Long (end - length a.0.1)) entry a.2 in
    let whole : bytes ≡ S.payload a.0.0 = s.is ∙ ap (λ (xs : List ℕ). S.payload a.0.0 ++ xs) (no_more a.0.1 g.0) ∙ append-nil (S.payload a.0.0) in
    subst (λ y. (bytes ≡ S.payload y) × EntryFits y) g.1 (whole, s.fits)

-- a frame that was read is the spelling of its entry, which can be written
pub record IsFrame (bytes : List ℕ) (entry : Entry) (rest : List ℕ) : Type 0 where
  pub is : bytes ≡ S.frame entry ++ rest
  pub can : CanBeWritten entry
  pub numbers : NumbersFit entry

pub frame_spelled : (end : ℕ) (bytes : List ℕ) (x : Entry × List ℕ) → F.frame_at end bytes ≡ Ok x → AreBytes bytes → IsFrame bytes x.0 x.1
unfolding F.frame_at F.sized_at S.frame
frame_spelled end bytes x e all =
    let a = bind_ok (number_in w32 0 16777216 (Short end) end bytes) _ x e in
    let n = number_in_found w32 0 16777216 (Short end) end bytes a.0 a.1 in
    let len = u32_spelled bytes a.0 n.0 all in
    let g = guard_ok (ltb (length a.0.1) a.0.0) (Short end) (F.payload_of (end - length a.0.1 + a.0.0) (take a.0.0 a.0.1) >>= (λ entry. Ok (entry, drop a.0.0 a.0.1))) x a.2 in
    let b = bind_ok (F.payload_of (end - length a.0.1 + a.0.0) (take a.0.0 a.0.1)) _ x g.1 in
    let p = payload_spelled (end - length a.0.1 + a.0.0) (take a.0.0 a.0.1) b.0 b.1 (front_bytes a.0.0 a.0.1 len.rest_are) in
    let long : a.0.0 ≤ length a.0.1 = ltb-false _ _ g.0 in
    let size : length (S.payload b.0) ≡ a.0.0 = omega (arith, ap length p.0, length-take a.0.0 a.0.1) in
    let parts : a.0.1 ≡ S.payload b.0 ++ drop a.0.0 a.0.1 = sym (take-append-drop a.0.0 a.0.1) ∙ ap (λ (xs : List ℕ). xs ++ drop a.0.0 a.0.1) p.0 in
    let one : bytes ≡ to_be_bytes w32 (length (S.payload b.0)) ++ (S.payload b.0 ++ drop a.0.0 a.0.1) = len.is ∙ ap (λ (xs : List ℕ). to_be_bytes w32 a.0.0 ++ xs) parts ∙ ap (λ k. to_be_bytes w32 k ++ (S.payload b.0 ++ drop a.0.0 a.0.1)) (sym size) in
    let whole : bytes ≡ S.frame b.0 ++ drop a.0.0 a.0.1 = one ∙ sym (append_assoc (to_be_bytes w32 (length (S.payload b.0))) (S.payload b.0) (drop a.0.0 a.0.1)) in
    let can : CanBeWritten b.0 = record { index = p.1.0; body = p.1.1.0; size = omega (arith, size, n.1.1) } in
    subst (λ y. IsFrame bytes y.0 y.1) (ok_is (b.0, drop a.0.0 a.0.1) x b.2) (record { is = whole; can = can; numbers = p.1.1.1 })

are_after : (at : ℕ) (bytes : List ℕ) → AreBytes bytes → AreBytes (drop at bytes)
are_after at bytes all = behind_are (take at bytes) (drop at bytes) (subst AreBytes (sym (take-append-drop at bytes)) all)

-- the frame at this place of a file
pub framed_spelled : (bytes : List ℕ) (at : ℕ) (frame : Frame) → AreBytes bytes → F.framed bytes at ≡ Ok frame → IsFrame (drop at bytes) frame.entry (drop frame.end bytes)
unfolding F.framed
framed_spelled bytes at frame all e =
    let a = bind_ok (F.frame_at (length bytes) (drop at bytes)) _ frame e in
    let f = frame_spelled (length bytes) (drop at bytes) a.0 a.1 (are_after at bytes all) in
    let front = take at bytes ++ S.frame a.0.0 in
    let whole : bytes ≡ front ++ a.0.1 = sym (take-append-drop at bytes) ∙ ap (λ (xs : List ℕ). take at bytes ++ xs) f.is ∙ sym (append_assoc (take at bytes) (S.frame a.0.0) a.0.1) in
    let behind : drop (length bytes - length a.0.1) bytes ≡ a.0.1 = behind_is_dropped bytes a.0.1 (front, whole) in
    let same = ok_is (record { entry = a.0.0; end = length bytes - length a.0.1 }) frame a.2 in
    subst (λ y. IsFrame (drop at bytes) y.entry (drop y.end bytes)) same (record { is = f.is ∙ ap (λ (xs : List ℕ). S.frame a.0.0 ++ xs) (sym behind); can = f.can; numbers = f.numbers })

-- ---- the header

id_spelled : (end least : ℕ) (bytes : List ℕ) (x : ℕ × List ℕ) → H.id_at end least bytes ≡ Ok x → AreBytes bytes → Spells bytes (to_be_bytes w32 x.0) x.1 ((x.0 < 2 ^ 32) × (least ≤ x.0))
unfolding H.id_at
id_spelled end least bytes x e all =
    let a = bind_ok (number_at w32 (Short end) bytes) _ x e in
    let s = u32_spelled bytes a.0 (number_found w32 (Short end) bytes a.0 a.1) all in
    let g = guard_ok (ltb a.0.0 least) (passes end bytes) (Ok a.0) x a.2 in
    let above : least ≤ a.0.0 = ltb-false _ _ g.0 in
    subst (λ y. Spells bytes (to_be_bytes w32 y.0) y.1 ((y.0 < 2 ^ 32) × (least ≤ y.0))) (ok_is a.0 x g.1) (weaker bytes _ a.0.1 _ _ s (λ p. (p, above)))

abbrev ColumnFits : ColumnSpec → Type 0
ColumnFits c = IsKind c × (c.id < 2 ^ 32)

column_spelled : (end least : ℕ) (bytes : List ℕ) (x : ColumnSpec × List ℕ) → H.column_at end least bytes ≡ Ok x → AreBytes bytes → Spells bytes (S.column x.0) x.1 ((least ≤ x.0.id) × ColumnFits x.0)
unfolding H.column_at
column_spelled end least bytes x e all =
    let a = bind_ok (H.id_at end least bytes) _ x e in
    let s = id_spelled end least bytes a.0 a.1 all in
    let b = bind_ok (byte_in 1 3 (Short end) end a.0.1) _ x a.2 in
    let t = byte_spelled 1 3 (Short end) end a.0.1 b.0 b.1 s.rest_are in
    let whole = chain bytes (to_be_bytes w32 a.0.0) a.0.1 (b.0.0 ∷ []) b.0.1 _ _ s t in
    subst (λ y. Spells bytes (S.column y.0) y.1 ((least ≤ y.0.id) × ColumnFits y.0)) (ok_is (record { id = a.0.0; kind = b.0.0 }, b.0.1) x b.2) (weaker bytes _ b.0.1 _ _ whole (λ p. (p.0.1, (p.1, p.0.0))))

abbrev ColumnsFit : ℕ → ℕ → List ColumnSpec → Type 0
ColumnsFit least count columns = (length columns ≡ count) × (Rising least columns × All ColumnFits columns)

columns_spelled : (end count least : ℕ) (bytes : List ℕ) (x : List ColumnSpec × List ℕ) → each_at (H.column_at end) H.above count least bytes ≡ Ok x → AreBytes bytes
    → Spells bytes (flat_map S.column x.0) x.1 (ColumnsFit least count x.0)
unfolding each_at
columns_spelled end zero least bytes x e all =
    subst (λ y. Spells bytes (flat_map S.column y.0) y.1 (ColumnsFit least 0 y.0)) (ok_is ([], bytes) x e) (record { is = refl; rest_are = all; fits = (refl, (tt, All-nil ColumnFits)) })
columns_spelled end (suc count) least bytes x e all =
    let a = bind_ok (H.column_at end least bytes) _ x e in
    let s = column_spelled end least bytes a.0 a.1 all in
    let b = bind_ok (each_at (H.column_at end) H.above count (H.above a.0.0) a.0.1) _ x a.2 in
    let t = columns_spelled end count (H.above a.0.0) a.0.1 b.0 b.1 s.rest_are in
    let whole = chain bytes (S.column a.0.0) a.0.1 (flat_map S.column b.0.0) b.0.1 _ _ s t in
    subst (λ y. Spells bytes (flat_map S.column y.0) y.1 (ColumnsFit least (suc count) y.0)) (ok_is (a.0.0 ∷ b.0.0, b.0.1) x b.2)
    (weaker bytes _ b.0.1 _ _ whole (λ p. (ap suc p.1.0, ((p.0.0, p.1.1.0), All-cons ColumnFits a.0.0 b.0.0 p.0.1 p.1.1.1))))

-- a header that was read is the spelling of what it gives, which can be written
pub record IsHeader (bytes : List ℕ) (header : Header) (rest : List ℕ) : Type 0 where
  pub is : bytes ≡ S.header header ++ rest
  pub can : HeaderCanBeWritten header
  pub numbers : HeaderNumbersFit header

only : (n m : ℕ) → m ≤ n → n ≤ m → n ≡ m
only n m le ge = omega (arith, le, ge)

pub header_spelled : (end : ℕ) (bytes : List ℕ) (x : Header × List ℕ) → H.header_at end bytes ≡ Ok x → AreBytes bytes → IsHeader bytes x.0 x.1
unfolding H.header_at H.columns_at S.header
header_spelled end bytes x e all =
    let a = bind_ok (number_in w64 H.magic H.magic (Short end) end bytes) _ x e in
    let n = number_in_found w64 H.magic H.magic (Short end) end bytes a.0 a.1 in
    let magic = u64_spelled bytes a.0 n.0 all in
    let b = bind_ok (number_in w16 1 1 (Short end) end a.0.1) _ x a.2 in
    let m = number_in_found w16 1 1 (Short end) end a.0.1 b.0 b.1 in
    let version = u16_spelled a.0.1 b.0 m.0 magic.rest_are in
    let c = bind_ok (number_at w64 (Short end) b.0.1) _ x b.2 in
    let table = u64_spelled b.0.1 c.0 (number_found w64 (Short end) b.0.1 c.0 c.1) version.rest_are in
    let d = bind_ok (number_in w16 0 64 (Short end) end c.0.1) _ x c.2 in
    let k = number_in_found w16 0 64 (Short end) end c.0.1 d.0 d.1 in
    let count = u16_spelled c.0.1 d.0 k.0 table.rest_are in
    let f = bind_ok (each_at (H.column_at end) H.above d.0.0 0 d.0.1) _ x d.2 in
    let columns = columns_spelled end d.0.0 0 d.0.1 f.0 f.1 count.rest_are in
    let four = chain c.0.1 (to_be_bytes w16 d.0.0) d.0.1 (flat_map S.column f.0.0) f.0.1 _ _ count columns in
    let three = chain b.0.1 (to_be_bytes w64 c.0.0) c.0.1 _ f.0.1 _ _ table four in
    let two = chain a.0.1 (to_be_bytes w16 b.0.0) b.0.1 _ f.0.1 _ _ version three in
    let one = chain bytes (to_be_bytes w64 a.0.0) a.0.1 _ f.0.1 _ _ magic two in
    let header : Header = record { table = cast_signed w64 c.0.0; columns = f.0.0 } in
    let back : c.0.0 ≡ cast_unsigned w64 (cast_signed w64 c.0.0) = sym (of_z-to_z w64 c.0.0 table.fits) in
    let magic_is : a.0.0 ≡ H.magic = only a.0.0 H.magic n.1.0 n.1.1 in
    let version_is : b.0.0 ≡ 1 = only b.0.0 1 m.1.0 m.1.1 in
    let written : to_be_bytes w64 a.0.0 ++ (to_be_bytes w16 b.0.0 ++ (to_be_bytes w64 c.0.0 ++ (to_be_bytes w16 d.0.0 ++ flat_map S.column f.0.0))) ≡ S.header header =
    ap (λ z. to_be_bytes w64 z ++ (to_be_bytes w16 b.0.0 ++ (to_be_bytes w64 c.0.0 ++ (to_be_bytes w16 d.0.0 ++ flat_map S.column f.0.0)))) magic_is
    ∙ ap (λ z. to_be_bytes w64 H.magic ++ (to_be_bytes w16 z ++ (to_be_bytes w64 c.0.0 ++ (to_be_bytes w16 d.0.0 ++ flat_map S.column f.0.0)))) version_is
    ∙ ap (λ z. to_be_bytes w64 H.magic ++ (to_be_bytes w16 1 ++ (to_be_bytes w64 z ++ (to_be_bytes w16 d.0.0 ++ flat_map S.column f.0.0)))) back
    ∙ ap (λ z. to_be_bytes w64 H.magic ++ (to_be_bytes w16 1 ++ (S.handle header.table ++ (to_be_bytes w16 z ++ flat_map S.column f.0.0)))) (sym columns.fits.0) in
    let few : length f.0.0 ≤ 64 = omega (arith, columns.fits.0, k.1.1) in
    let can : HeaderCanBeWritten header = record { count = few; ids = columns.fits.1.0; kinds = λ i g lt. (columns.fits.1.1 i g lt).0 } in
    let numbers : HeaderNumbersFit header = record { table = sfits_to_z {w = w64} {n = c.0.0} (record { fits = table.fits }); ids = λ i g lt. (columns.fits.1.1 i g lt).1 } in
    subst (λ y. IsHeader bytes y.0 y.1) (ok_is (header, f.0.1) x f.2) (record { is = one.is ∙ ap (λ (xs : List ℕ). xs ++ f.0.1) written; can = can; numbers = numbers })

-- the header at the front of a file
pub headed_spelled : (bytes : List ℕ) (x : Header × ℕ) → AreBytes bytes → H.headed bytes ≡ Ok x → IsHeader bytes x.0 (drop x.1 bytes)
unfolding H.headed
headed_spelled bytes x all e =
    let a = bind_ok (H.header_at (length bytes) bytes) _ x e in
    let h = header_spelled (length bytes) bytes a.0 a.1 all in
    let behind : drop (length bytes - length a.0.1) bytes ≡ a.0.1 = behind_is_dropped bytes a.0.1 (S.header a.0.0, h.is) in
    subst (λ y. IsHeader bytes y.0 (drop y.1 bytes)) (ok_is (a.0.0, length bytes - length a.0.1) x a.2) (record { is = h.is ∙ ap (λ (xs : List ℕ). S.header a.0.0 ++ xs) (sym behind); can = h.can; numbers = h.numbers })
