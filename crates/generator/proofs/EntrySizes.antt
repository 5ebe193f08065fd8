-- The entries of the generated log can be written.
use Rattle.std.proofs.Common.{◌≡◌, refl, sym, ap, subst, ℕ, zero, suc, ◌+◌, ◌*◌, ◌/◌, ◌%◌, ◌^◌, ◌<◌, ◌≤◌, ℤ, Bool, true, false, cond, List, [], ◌∷◌, Option, Some, None, length, arith, nat_lt, length-append, true≢false}
use Rattle.std.specs.Int.{w32, to_be_bytes}
use Rattle.std.specs.List.{All, flat_map}
use Rattle.std.proofs.lemmas.List.Elements.{All-cons, All-nil}
use Rattle.kv_codec.specs.Records.{Write, LockRecord}
use Rattle.kv_codec.specs.Spelling as S
use Rattle.kv_codec.proofs.KeysAgain.{by_places}
use Rattle.log_codec.specs.Spelling.{op, body as body_bytes, payload, value as value_bytes}
use Rattle.log_codec.specs.Writable.{OpCanBeWritten}
use Rattle.log_codec.specs.declared.entry.Op.{Op}
use Rattle.log_codec.specs.declared.entry.Body.TheVariants as body
use Rattle.log_codec.specs.declared.entry.Family.TheVariants as family
use Rattle.committed_log.specs.Lawful.{IsWritable}
use Rattle.generator.specs.Transactions.{Transaction, Change, Delete, PutShort, PutLong, put, timed_key, lock_op, unlock_op, write_op, prewrite_of, commit, write_entry, lock_kind_of, write_kind_of, short_of}

-- ---- lengths

pub key_length : (table h : ℤ) → length (S.key table h) ≡ 27
key_length table h = ap length (sym (by_places table h))

timestamp_length : (ts : ℕ) → length (S.timestamp ts) ≡ 8
timestamp_length ts = refl

timed_length : (table h : ℤ) (ts : ℕ) → length (timed_key table h ts) ≡ 35
timed_length table h ts = omega (arith, length-append (S.key table h) (S.timestamp ts), key_length table h, timestamp_length ts)

number_length : (more n : ℕ) → length (S.number more n) ≤ more + 1
unfolding S.number
number_length zero n = omega arith
number_length (suc more) n = by (nat_lt n 128) (number_length more (n / 128))
  where
    by : (b : Bool) → length (S.number more (n / 128)) ≤ more + 1 → length (cond b (n ∷ []) ((128 + n % 128) ∷ S.number more (n / 128))) ≤ suc more + 1
    by true h = omega arith
    by false h = omega (arith, h)

lock_length : (l : LockRecord) → length (S.lock l) ≤ 31 + length l.primary
unfolding S.lock
lock_length l =
    let a = number_length 9 (2 * length l.primary) in
    let b = number_length 9 l.start in
    let c = number_length 9 l.ttl in
    simp length-append (omega (arith, a, b, c))

short_length : (v : Option (List ℕ)) (most : ℕ) → ((bytes : List ℕ) → v ≡ Some bytes → length bytes ≤ most) → length (S.short v) ≤ most + 2
short_length None most h = omega arith
short_length (Some bytes) most h = omega (arith, h bytes refl)

write_length : (w : Write) (most : ℕ) → ((bytes : List ℕ) → w.short ≡ Some bytes → length bytes ≤ most) → length (S.write w) ≤ most + 13
unfolding S.write
write_length w most h =
    let a = number_length 9 w.start in
    let b = short_length w.short most h in
    simp length-append (omega (arith, a, b))

-- ---- ops

-- an op with a short key and value, and no value where it is a delete
record IsSmall (o : Op) : Type 0 where
  key : length o.key ≤ 35
  value : length o.value ≤ 256
  deleted : o.put ≡ false → o.value ≡ []

value_size : (b : Bool) (bytes : List ℕ) → length (value_bytes b bytes) ≤ 4 + length bytes
value_size true bytes = omega (arith, length-append (to_be_bytes w32 (length bytes)) bytes)
value_size false bytes = omega arith

op_size : (o : Op) → IsSmall o → length (op o) ≤ 299
unfolding op
op_size o small = let v = value_size o.put o.value in simp length-append (omega (arith, v, small.key, small.value))

op_fits : (o : Op) → IsSmall o → OpCanBeWritten o
op_fits o small = record { key = omega (arith, small.key); value = omega (arith, small.value); delete = small.deleted }

body_size : (ops : List Op) → length (flat_map op ops) ≤ 900 → length (body_bytes (body.Write ops)) ≤ 905
unfolding body_bytes
body_size ops few = simp length-append (omega (arith, few))

payload_size : (r index : ℕ) (ops : List Op) → length (flat_map op ops) ≤ 900 → length (payload (write_entry r index ops)) ≤ 917
unfolding payload
payload_size r index ops few = let b = body_size ops few in simp length-append (omega (arith, b))

writes : (r index : ℕ) (ops : List Op) → r < 2 ^ 32 → index < 2 ^ 62 → 1 ≤ index → length ops < 4 → All OpCanBeWritten ops → length (flat_map op ops) ≤ 900 → IsWritable (write_entry r index ops)
writes r index ops region low first few each size =
    let p = payload_size r index ops size in
    record {
      form = record { index = (first, omega (arith, low)); body = record { count = omega (arith, few); each = each }; size = omega (arith, p) };
      numbers = record { region = region; body = tt };
    }

one_op : (r index : ℕ) (a : Op) → r < 2 ^ 32 → index < 2 ^ 62 → 1 ≤ index → IsSmall a → IsWritable (write_entry r index (a ∷ []))
one_op r index a region low first sa =
    let size = op_size a sa in
    writes r index (a ∷ []) region low first (omega arith) (All-cons OpCanBeWritten a [] (op_fits a sa) (All-nil OpCanBeWritten)) (simp length-append (omega (arith, size)))

two_ops : (r index : ℕ) (a b : Op) → r < 2 ^ 32 → index < 2 ^ 62 → 1 ≤ index → IsSmall a → IsSmall b → IsWritable (write_entry r index (a ∷ b ∷ []))
two_ops r index a b region low first sa sb =
    let size = op_size a sa in
    let size2 = op_size b sb in
    writes r index (a ∷ b ∷ []) region low first (omega arith) (All-cons OpCanBeWritten a (b ∷ []) (op_fits a sa) (All-cons OpCanBeWritten b [] (op_fits b sb) (All-nil OpCanBeWritten))) (simp length-append (omega (arith, size, size2)))

-- ---- the entries of a transaction

-- the bytes that a put has
abbrev pub has_few : ℕ → Change → Type 0
has_few most Delete = Unit {0}
has_few most (PutShort bytes) = length bytes ≤ most
has_few most (PutLong bytes) = length bytes ≤ most

module _ (table : ℤ) (t : Transaction) where
  lock_small : (ttl : ℕ) → IsSmall (lock_op table ttl t)
  lock_small ttl =
      let k = key_length table t.handle in
      let l = lock_length (record { kind = lock_kind_of t.change; primary = S.key table t.handle; start = t.start; ttl = ttl }) in
      record { key = omega (arith, k); value = omega (arith, k, l); deleted = λ e. absurd (true≢false e) }

  unlock_small : IsSmall (unlock_op table t)
  unlock_small = record { key = omega (arith, key_length table t.handle); value = omega arith; deleted = λ e. refl }

  put_small : (bytes : List ℕ) → length bytes ≤ 256 → IsSmall (put family.Default (timed_key table t.handle t.start) bytes)
  put_small bytes few = record { key = omega (arith, timed_length table t.handle t.start); value = few; deleted = λ e. absurd (true≢false e) }

  write_small : has_few 240 t.change → IsSmall (write_op table t)
  write_small few =
      let w = write_length (record { kind = write_kind_of t.change; start = t.start; short = short_of t.change }) 240 (short_few t.change few) in
      record { key = omega (arith, timed_length table t.handle t.commit); value = omega (arith, w); deleted = λ e. absurd (true≢false e) }
    where
      short_few : (c : Change) → has_few 240 c → (bytes : List ℕ) → short_of c ≡ Some bytes → length bytes ≤ 240
      short_few Delete h bytes e = cc
      short_few (PutShort v) h bytes e = let same : v ≡ bytes = cc in subst (λ (x : List ℕ). length x ≤ 240) same h
      short_few (PutLong v) h bytes e = cc

  module _ (r index : ℕ) (region : r < 2 ^ 32) (low : index < 2 ^ 62) (first : 1 ≤ index) where
    pub prewrite_writable : (ttl : ℕ) (c : Change) → has_few 240 c → IsWritable (write_entry r index (prewrite_of table ttl t c))
    prewrite_writable ttl Delete few = one_op r index (lock_op table ttl t) region low first (lock_small ttl)
    prewrite_writable ttl (PutShort bytes) few = one_op r index (lock_op table ttl t) region low first (lock_small ttl)
    prewrite_writable ttl (PutLong bytes) few = two_ops r index (put family.Default (timed_key table t.handle t.start) bytes) (lock_op table ttl t) region low first (put_small bytes (omega (arith, few))) (lock_small ttl)

    pub commit_writable : has_few 240 t.change → IsWritable (write_entry r index (commit table t))
    commit_writable few = two_ops r index (write_op table t) (unlock_op table t) region low first (write_small few) unlock_small
