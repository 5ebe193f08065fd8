-- How far the reading of ops goes.
use Rattle.std.proofs.Common.{◌≡◌, ℕ, zero, suc, ◌+◌, ◌-◌, ◌<◌, ◌≤◌, Bool, true, false, cond, eqb, List, [], ◌∷◌, ◌++◌, length, drop, Result, Ok, Err, refl, sym, ap, subst, ◌∙◌, arith}
use Rattle.std.specs.Int.{w16, w32}
use Rattle.flash_list.specs.Steps.{◌>>=◌, each_at}
use Rattle.flash_list.specs.Fields.{number_at}
use Rattle.log_codec.specs.declared.op.Head.{Head}
use Rattle.log_codec.specs.declared.entry.Op.{Op}
use Rattle.log_codec.specs.declared.fault.FrameError.{FrameError}
use Rattle.log_codec.specs.Fields.{passes, byte_in, bytes_at}
use Rattle.log_codec.specs.Frames.{head_at, value_at, op_at, each_op_at, ops_at, family_of}
use Rattle.log_codec.proofs.Found.{bind_ok, ok_is, IsNumber, number_found, byte_found, bytes_found, Behind, behind_itself, further, behind_number, behind_is_dropped}

-- what stands before a key takes four bytes
pub record IsHead (most : ℕ) (bytes : List ℕ) (head : Head) (rest : List ℕ) : Type 0 where
  pub put : (1 ≤ head.put) × (head.put ≤ most)
  pub family : (1 ≤ head.family) × (head.family ≤ 3)
  pub behind : List ℕ
  pub bytes_are : bytes ≡ head.put ∷ head.family ∷ behind
  pub key_len : IsNumber w16 behind (head.key_len, rest)

pub head_found : (end most : ℕ) (bytes : List ℕ) (head : Head) (rest : List ℕ) → head_at end most bytes ≡ Ok (head, rest) → IsHead most bytes head rest
unfolding head_at
head_found end most bytes head rest e =
    let a = bind_ok (byte_in 1 most (passes end bytes) end bytes) _ (head, rest) e in
    let p = byte_found 1 most (passes end bytes) end bytes a.0 a.1 in
    let b = bind_ok (byte_in 1 3 (passes end a.0.1) end a.0.1) _ (head, rest) a.2 in
    let q = byte_found 1 3 (passes end a.0.1) end a.0.1 b.0 b.1 in
    let c = bind_ok (number_at w16 (passes end b.0.1) b.0.1) _ (head, rest) b.2 in
    let n = number_found w16 (passes end b.0.1) b.0.1 c.0 c.1 in
    let same : (record { put = a.0.0; family = b.0.0; key_len = c.0.0 }, c.0.1) ≡ (head, rest) = ok_is _ (head, rest) c.2 in
    let put : a.0.0 ≡ head.put = ap (λ x. x.0.put) same in
    let family : b.0.0 ≡ head.family = ap (λ x. x.0.family) same in
    let len : c.0 ≡ (head.key_len, rest) = ap (λ x. (x.0.key_len, x.1)) same in
    record {
      put = (rw (sym put) p.1.0, rw (sym put) p.1.1);
      family = (rw (sym family) q.1.0, rw (sym family) q.1.1);
      behind = b.0.1;
      bytes_are = p.0 ∙ ap (λ (xs : List ℕ). a.0.0 ∷ xs) q.0 ∙ ap (λ n. n ∷ b.0.0 ∷ b.0.1) put ∙ ap (λ n. head.put ∷ n ∷ b.0.1) family;
      key_len = rw (sym len) n;
    }

pub head_takes : (end most : ℕ) (bytes : List ℕ) (head : Head) (rest : List ℕ) → head_at end most bytes ≡ Ok (head, rest) → (4 ≤ length bytes) × (rest ≡ drop 4 bytes)
head_takes end most bytes head rest e =
    let h = head_found end most bytes head rest e in
    (omega (arith, ap length h.bytes_are, h.key_len.long), h.key_len.rest ∙ ap (drop 4) (sym h.bytes_are))

-- the steps of a reader that leaves out what stands behind
pub head_steps : (end most : ℕ) (bytes : List ℕ) (f1 f2 f3 : FrameError) (put : ℕ) (r1 : List ℕ) (family : ℕ) (r2 : List ℕ) (len : ℕ) (r3 : List ℕ)
    → f1 ≡ passes end bytes → Ok (put, r1) ≡ byte_in 1 most f1 end bytes → f2 ≡ passes end r1 → Ok (family, r2) ≡ byte_in 1 3 f2 end r1 → f3 ≡ passes end r2 → Ok (len, r3) ≡ number_at w16 f3 r2
    → (4 ≤ length bytes) × (Ok (record { put = put; family = family; key_len = len }, drop 4 bytes) ≡ head_at end most bytes)
unfolding head_at
head_steps end most bytes f1 f2 f3 put r1 family r2 len r3 p1 e1 p2 e2 p3 e3 =
    let read : head_at end most bytes ≡ Ok (record { put = put; family = family; key_len = len }, r3) = rw (sym p1, sym e1, sym p2, sym e2, sym p3, sym e3) refl in
    let t = head_takes end most bytes (record { put = put; family = family; key_len = len }) r3 read in
    (t.0, ap (λ (xs : List ℕ). Ok (record { put = put; family = family; key_len = len }, xs)) (sym t.1) ∙ sym read)

value_behind : (end put : ℕ) (bytes : List ℕ) (x : List ℕ × List ℕ) → value_at end put bytes ≡ Ok x → Behind bytes x.1
unfolding value_at
value_behind end put bytes x e =
    let with_len = number_at w32 (passes end bytes) bytes >>= (λ len. bytes_at end len.0 len.1) in
    let by_kind : (b : Bool) → cond b with_len (Ok ([], bytes)) ≡ Ok x → Behind bytes x.1 =
    elim [
      | true ↦ λ h.
          let a = bind_ok (number_at w32 (passes end bytes) bytes) _ x h in
          let n = number_found w32 (passes end bytes) bytes a.0 a.1 in
          let f = bytes_found end a.0.0 a.0.1 x a.2 in
          further bytes a.0.1 x.1 (behind_number w32 bytes a.0 n) (x.0, f.0)
      | false ↦ λ h. let same = ok_is ([], bytes) x h in ([], ap (λ p. p.1) same)
    ] in
    by_kind (eqb put 1) e

op_behind : (end most : ℕ) (bytes : List ℕ) (x : Op × List ℕ) → op_at end most (tt {0}) bytes ≡ Ok x → Behind bytes x.1
unfolding op_at
op_behind end most bytes x e =
    let a = bind_ok (head_at end most bytes) _ x e in
    let h = head_found end most bytes a.0.0 a.0.1 a.1 in
    let b = bind_ok (bytes_at end a.0.0.key_len a.0.1) _ x a.2 in
    let k = bytes_found end a.0.0.key_len a.0.1 b.0 b.1 in
    let c = bind_ok (value_at end a.0.0.put b.0.1) _ x b.2 in
    let v = value_behind end a.0.0.put b.0.1 c.0 c.1 in
    let same = ok_is _ x c.2 in
    let front : Behind bytes h.behind = (a.0.0.put ∷ a.0.0.family ∷ [], h.bytes_are) in
    let head = further bytes h.behind a.0.1 front (behind_number w16 h.behind (a.0.0.key_len, a.0.1) h.key_len) in
    let whole = further bytes b.0.1 c.0.1 (further bytes a.0.1 b.0.1 head (b.0.0, k.0)) v in
    subst (Behind bytes) (ap (λ p. p.1) same) whole

each_behind : (end most count : ℕ) (bytes : List ℕ) (x : List Op × List ℕ) → each_at (op_at end most) (λ _. tt {0}) count (tt {0}) bytes ≡ Ok x → Behind bytes x.1
unfolding each_at
each_behind end most zero bytes x e = let same = ok_is ([], bytes) x e in ([], ap (λ p. p.1) same)
each_behind end most (suc count) bytes x e =
    let a = bind_ok (op_at end most (tt {0}) bytes) _ x e in
    let b = bind_ok (each_at (op_at end most) (λ _. tt {0}) count (tt {0}) a.0.1) _ x a.2 in
    let same = ok_is _ x b.2 in
    let whole = further bytes a.0.1 b.0.1 (op_behind end most bytes a.0 a.1) (each_behind end most count a.0.1 b.0 b.1) in
    subst (Behind bytes) (ap (λ p. p.1) same) whole

-- the ops leave the bytes behind them
pub ops_leave : (end most count : ℕ) (bytes : List ℕ) (ops : List Op) (left : List ℕ) → each_op_at end most count bytes ≡ Ok (ops, left) → drop (length bytes - length left) bytes ≡ left
unfolding each_op_at
ops_leave end most count bytes ops left e = behind_is_dropped bytes left (each_behind end most count bytes (ops, left) e)

-- the steps of a reader that copies the ops' bytes
pub ops_steps : (end most : ℕ) (bytes : List ℕ) (fault : FrameError) (count : ℕ) (rest copied : List ℕ) (ops : List Op) (left : List ℕ) (at : ℕ) (tail : List ℕ)
    → fault ≡ passes end bytes → Ok (count, rest) ≡ number_at w32 fault bytes → copied ≡ rest → each_op_at end most count copied ≡ Ok (ops, left)
    → at ≡ length rest - length left → tail ≡ drop at rest → ops_at end most bytes ≡ Ok (ops, tail)
unfolding ops_at
ops_steps end most bytes fault count rest copied ops left at tail p e same each place is =
    let each' : each_op_at end most count rest ≡ Ok (ops, left) = ap (each_op_at end most count) (sym same) ∙ each in
    let tail_is : tail ≡ left = is ∙ ap (λ n. drop n rest) place ∙ ops_leave end most count rest ops left each' in
    rw (sym p, sym e, each') (ap (λ (xs : List ℕ). Ok (ops, xs)) (sym tail_is))
