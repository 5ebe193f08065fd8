use Rattle.std.proofs.Common.{◌≡◌, ◌∙◌, sym, ap, subst, ℕ, ℤ, pos, ◌+◌, ◌*◌, ◌/◌, ◌%◌, ◌^◌, Bool, true, false, cond, eqb, List, IfOk, arith, to_z, of_z, w64}
use Rattle.std.proofs.lemmas.Int.{to_z-of_z}
use Rattle.kv_codec.specs.Spelling.{write}
use Rattle.log_codec.specs.declared.entry.Op.{Op}
use Rattle.log_codec.specs.declared.entry.Family.TheVariants as family
use Rattle.generator.specs.Generated.{transaction, value, row_of, change}
use Rattle.generator.specs.Transactions.{Change, Delete, PutShort, PutLong, put, timed_key, write_op, write_kind_of, short_of}
use Rattle.generator.proofs.entries.record_op.Goals as goal

-- the write record of a transaction whose change is this
record_for : (h : ℤ) (s t start : ℕ) (c d : Change) → t ≡ 10 * s + 15 → start ≡ 10 * s + 10 → c ≡ d →
    put family.Write (timed_key (pos 1) h t) (write (record { kind = write_kind_of c; start = start; short = short_of c })) ≡ write_op (pos 1) (record { handle = h; start = 10 * s + 10; commit = 10 * s + 15; change = d })
record_for h s t start c d et es ec = λ i. put family.Write (timed_key (pos 1) h (et i)) (write (record { kind = write_kind_of (ec i); start = es i; short = short_of (ec i) }))

abbrev chosen : Bool → Bool → List ℕ → Change
chosen b c v = cond b Delete (cond c (PutLong v) (PutShort v))

is_record : (x i : ℕ) (h : ℤ) (t start : ℕ) (c : Change) → h ≡ pos (row_of x) → t ≡ 10 * i + 15 → start ≡ 10 * i + 10 → c ≡ change x i → put family.Write (timed_key (pos 1) h t) (write (record { kind = write_kind_of c; start = start; short = short_of c })) ≡ write_op (pos 1) (transaction x i)
is_record x i h t start c eh et es ec = record_for h i t start c (change x i) et es ec ∙ ap (λ z. write_op (pos 1) (record { handle = z; start = 10 * i + 10; commit = 10 * i + 15; change = change x i })) eh

deleted : (x i : ℕ) (b : Bool) → b ≡ (eqb (x / 2 ^ 20 % 8) 0) → b ≡ true → Delete ≡ change x i
deleted x i b is t = ap (λ z. chosen z (eqb (i % 4) 0) (value (row_of x) i)) (sym t ∙ is)

long : (x i : ℕ) (b d : Bool) → b ≡ (eqb (x / 2 ^ 20 % 8) 0) → b ≡ false → d ≡ (eqb (i % 4) 0) → d ≡ true → PutLong (value (row_of x) i) ≡ change x i
long x i b d is f dis t = λ j. chosen ((sym f ∙ is) j) ((sym t ∙ dis) j) (value (row_of x) i)

short : (x i : ℕ) (b d : Bool) → b ≡ (eqb (x / 2 ^ 20 % 8) 0) → b ≡ false → d ≡ (eqb (i % 4) 0) → d ≡ false → PutShort (value (row_of x) i) ≡ change x i
short x i b d is f dis g = λ j. chosen ((sym f ∙ is) j) ((sym g ∙ dis) j) (value (row_of x) i)

pub returns-then-is_delete : goal.returns-then-is_delete
returns-then-is_delete c =
    subst (λ (z : Op). IfOk c.write_op.result (λ op. op ≡ z))
    (is_record c.args.x c.args.i (to_z w64 (of_z w64 c.handle_of-handle.result)) (10 * c.args.i + 10 + 5) (10 * c.args.i + 10) Delete (to_z-of_z w64 c.handle_of-handle.result (record { sfits = c.handle_of-handle.type_inv }) ∙ c.handle_of-handle.ensures) (omega arith) (omega arith) (deleted c.args.x c.args.i c.is_delete.result c.is_delete.ensures c.if-is_delete.true))
    c.write_op.ensures

pub returns-then-is_long : goal.returns-then-is_long
returns-then-is_long c =
    subst (λ (z : Op). IfOk c.write_op-then-is_long.result (λ op. op ≡ z))
    (is_record c.args.x c.args.i (to_z w64 (of_z w64 c.handle_of-handle.result)) (10 * c.args.i + 10 + 5) (10 * c.args.i + 10) (PutLong (value (row_of c.args.x) c.args.i)) (to_z-of_z w64 c.handle_of-handle.result (record { sfits = c.handle_of-handle.type_inv }) ∙ c.handle_of-handle.ensures) (omega arith) (omega arith) (long c.args.x c.args.i c.is_delete.result c.is_long.result c.is_delete.ensures c.if-is_delete.false c.is_long.ensures c.if-is_long.true))
    c.write_op-then-is_long.ensures

pub returns : goal.returns
returns c =
    subst (λ (z : Op). IfOk c.write_op-2.result (λ op. op ≡ z))
    (is_record c.args.x c.args.i (to_z w64 (of_z w64 c.handle_of-handle.result)) (10 * c.args.i + 10 + 5) (10 * c.args.i + 10) (PutShort c.deref.result.now) (to_z-of_z w64 c.handle_of-handle.result (record { sfits = c.handle_of-handle.type_inv }) ∙ c.handle_of-handle.ensures) (omega arith) (omega arith) (ap PutShort (c.deref.ensures.value ∙ c.in_ok-value.ensures.value) ∙ short c.args.x c.args.i c.is_delete.result c.is_long.result c.is_delete.ensures c.if-is_delete.false c.is_long.ensures c.if-is_long.false))
    c.write_op-2.ensures
