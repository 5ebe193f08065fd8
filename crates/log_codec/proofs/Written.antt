-- Headers and frames that are written are read again, whatever follows.
use Rattle.std.proofs.Common.{◌≡◌, ℕ, ℤ, zero, suc, ◌+◌, ◌-◌, ◌^◌, ◌<◌, ◌≤◌, Bool, true, false, cond, eqb, ltb, List, [], ◌∷◌, ◌++◌, length, take, drop, get_or, Option, Some, None, Result, Ok, Err, refl, sym, ap, ◌∙◌, subst, append_assoc, arith, length-append}
use Rattle.std.specs.Prelude.{◌||◌, FitsSigned, IsTrue}
use Rattle.std.specs.List.{All, flat_map}
use Rattle.std.specs.Int.{Width, w16, w32, w64, byte_len, to_be_bytes, from_be_bytes, cast_signed, cast_unsigned}
use Rattle.std.proofs.lemmas.Bool.{ltb-false, le-ltb, lt-ltb}
use Rattle.std.proofs.lemmas.Int.{to_z-of_z}
use Rattle.std.proofs.Math.Facts.{Fits-of_z}
use Rattle.std.proofs.Math.Seq.{drop-append_seam}
use Rattle.std.proofs.lemmas.List.{take_at, append-nil}
use Rattle.flash_list.specs.Steps.{◌>>=◌, each_at}
use Rattle.flash_list.specs.Fields.{number_at}
use Rattle.log_codec.specs.declared.fault.FrameError.{FrameError}
use Rattle.log_codec.specs.declared.op.Head.{Head}
use Rattle.log_codec.specs.declared.entry.Op.{Op}
use Rattle.log_codec.specs.declared.entry.Entry.{Entry}
use Rattle.log_codec.specs.declared.entry.Frame.{Frame}
use Rattle.log_codec.specs.declared.entry.Body.{Body}
use Rattle.log_codec.specs.declared.entry.Body.TheVariants as B
use Rattle.log_codec.specs.declared.entry.Family.{Family}
use Rattle.log_codec.specs.declared.entry.Family.TheVariants.{Default, Lock, Write as WriteFamily}
use Rattle.log_codec.specs.Fields.{passes, number_in, byte_in, bytes_at}
use Rattle.log_codec.specs.declared.header.Header.{Header}
use Rattle.log_codec.specs.declared.header.ColumnSpec.{ColumnSpec}
use Rattle.log_codec.specs.Header as H
use Rattle.log_codec.specs.Frames as F
use Rattle.log_codec.specs.Spelling as S
use Rattle.log_codec.specs.Writable.{HandleFits, IsEpoch, IsPut, OpCanBeWritten, OpsCanBeWritten, BodyCanBeWritten, BodyNumbersFit, CanBeWritten, NumbersFit, Rising, IsKind, HeaderCanBeWritten, HeaderNumbersFit}
use Rattle.log_codec.proofs.Again.{u16_again, u32_again, u64_again, in_again, byte_again, bytes_again}

handle_again : (end : ℕ) (z : ℤ) (rest : List ℕ) → FitsSigned w64 z → F.handle_at end (S.handle z ++ rest) ≡ Ok (z, rest)
unfolding F.handle_at
handle_again end z rest fits =
    let back : cast_signed w64 (cast_unsigned w64 z) ≡ z = to_z-of_z w64 z fits in
    rw (u64_again _ (cast_unsigned w64 z) rest (Fits-of_z {w = w64} {z = z} fits).fits) (ap (λ x. Ok (x, rest)) back)

high_again : (end : ℕ) (high : Option ℤ) (rest : List ℕ) → HandleFits high → F.high_at end (S.high high ++ rest) ≡ Ok (high, rest)
unfolding F.high_at
high_again end None rest fits = rw (byte_again 0 1 _ end 0 rest (omega arith) (omega arith)) refl
high_again end (Some z) rest fits = rw (byte_again 0 1 _ end 1 (S.handle z ++ rest) (omega arith) (omega arith), handle_again end z rest fits) refl

range_again : (end : ℕ) (low : ℤ) (high : Option ℤ) (rest : List ℕ) → FitsSigned w64 low → HandleFits high → F.range_at end (S.range low high ++ rest) ≡ Ok ((low, high), rest)
unfolding F.range_at
range_again end low high rest fl fh =
    let parts : S.range low high ++ rest ≡ S.handle low ++ (S.high high ++ rest) = append_assoc (S.handle low) (S.high high) rest in
    ap (F.range_at end) parts ∙ rw (handle_again end low (S.high high ++ rest) fl, high_again end high rest fh) refl

epoch_again : (end conf_ver version : ℕ) (rest : List ℕ) → IsEpoch conf_ver version → F.epoch_at end (S.epoch conf_ver version ++ rest) ≡ Ok ((conf_ver, version), rest)
unfolding F.epoch_at
epoch_again end conf_ver version rest fits =
    let parts : S.epoch conf_ver version ++ rest ≡ to_be_bytes w64 conf_ver ++ (to_be_bytes w64 version ++ rest) = append_assoc (to_be_bytes w64 conf_ver) (to_be_bytes w64 version) rest in
    ap (F.epoch_at end) parts ∙ rw (in_again w64 0 (2 ^ 62 - 1) _ end _ conf_ver (to_be_bytes w64 version ++ rest) (u64_again _ conf_ver _ (omega (arith, fits.0))) (omega arith) (omega (arith, fits.0)), in_again w64 0 (2 ^ 62 - 1) _ end _ version rest (u64_again _ version rest (omega (arith, fits.1))) (omega arith) (omega (arith, fits.1))) refl

-- ---- ops

put_greatest : (b : Bool) → S.put_byte b ≤ 2
put_greatest true = omega arith
put_greatest false = omega arith

put_is_one : (b : Bool) → IsTrue b → S.put_byte b ≤ 1
put_is_one true t = omega arith
put_is_one false t = absurd cc

family_again : (f : Family) → F.family_of (S.family_byte f) ≡ f
family_again Default = refl
family_again Lock = refl
family_again WriteFamily = refl

family_least : (f : Family) → (1 ≤ S.family_byte f) × (S.family_byte f ≤ 3)
family_least Default = (omega arith, omega arith)
family_least Lock = (omega arith, omega arith)
family_least WriteFamily = (omega arith, omega arith)

put_again : (b : Bool) → eqb (S.put_byte b) 1 ≡ b
put_again true = refl
put_again false = refl

put_least : (b : Bool) → 1 ≤ S.put_byte b
put_least true = omega arith
put_least false = omega arith

pub head_again : (end most : ℕ) (o : Op) (rest : List ℕ) → length o.key < 2 ^ 16 → S.put_byte o.put ≤ most
    → F.head_at end most (S.put_byte o.put ∷ S.family_byte o.family ∷ (to_be_bytes w16 (length o.key) ++ rest)) ≡ Ok (record { put = S.put_byte o.put; family = S.family_byte o.family; key_len = length o.key }, rest)
unfolding F.head_at
head_again end most o rest key kind =
    let least : 1 ≤ S.put_byte o.put = put_least o.put in
    rw (byte_again 1 most _ end (S.put_byte o.put) (S.family_byte o.family ∷ (to_be_bytes w16 (length o.key) ++ rest)) least kind, byte_again 1 3 _ end (S.family_byte o.family) (to_be_bytes w16 (length o.key) ++ rest) (family_least o.family).0 (family_least o.family).1, u16_again _ (length o.key) rest key) refl

value_again : (end : ℕ) (put : Bool) (value rest : List ℕ) → length value < 2 ^ 32 → (put ≡ false → value ≡ []) → F.value_at end (S.put_byte put) (S.value put value ++ rest) ≡ Ok (value, rest)
unfolding F.value_at
value_again end true value rest size none =
    let parts : (to_be_bytes w32 (length value) ++ value) ++ rest ≡ to_be_bytes w32 (length value) ++ (value ++ rest) = append_assoc (to_be_bytes w32 (length value)) value rest in
    rw (parts, u32_again _ (length value) (value ++ rest) size) (bytes_again end value rest)
value_again end false value rest size none = ap (λ (xs : List ℕ). Ok (xs, rest)) (sym (none refl))

op_again : (end most : ℕ) (o : Op) (rest : List ℕ) → OpCanBeWritten o → S.put_byte o.put ≤ most → F.op_at end most (tt {0}) (S.op o ++ rest) ≡ Ok (o, rest)
unfolding F.op_at S.op
op_again end most o rest fits kind =
    let tail = S.value o.put o.value ++ rest in
    let one = append_assoc (to_be_bytes w16 (length o.key)) (o.key ++ S.value o.put o.value) rest in
    let two = append_assoc o.key (S.value o.put o.value) rest in
    let parts : S.op o ++ rest ≡ S.put_byte o.put ∷ S.family_byte o.family ∷ (to_be_bytes w16 (length o.key) ++ (o.key ++ tail)) =
    ap (λ (xs : List ℕ). S.put_byte o.put ∷ S.family_byte o.family ∷ xs) (one ∙ ap (λ (xs : List ℕ). to_be_bytes w16 (length o.key) ++ xs) two) in
    ap (F.op_at end most (tt {0})) parts ∙ rw (head_again end most o (o.key ++ tail) fits.key kind, bytes_again end o.key tail, value_again end o.put o.value rest fits.value fits.delete, put_again o.put, family_again o.family) refl

all_head : {X : Type 0} (P : X → Type 0) (x : X) (xs : List X) → All P (x ∷ xs) → P x
all_head P x xs all = all 0 x (omega arith)

all_tail : {X : Type 0} (P : X → Type 0) (x : X) (xs : List X) → All P (x ∷ xs) → All P xs
all_tail P x xs all = λ k d lt. all (suc k) d (omega (arith, lt))

abbrev pub KindsFit : ℕ → List Op → Type 0
KindsFit most ops = All (λ o. S.put_byte o.put ≤ most) ops

each_again : (end most : ℕ) (ops : List Op) (rest : List ℕ) → All OpCanBeWritten ops → KindsFit most ops → each_at (F.op_at end most) (λ _. tt {0}) (length ops) (tt {0}) (flat_map S.op ops ++ rest) ≡ Ok (ops, rest)
unfolding each_at
each_again end most [] rest fits kinds = refl
each_again end most (o ∷ ops) rest fits kinds =
    let parts : (S.op o ++ flat_map S.op ops) ++ rest ≡ S.op o ++ (flat_map S.op ops ++ rest) = append_assoc (S.op o) (flat_map S.op ops) rest in
    let first = op_again end most o (flat_map S.op ops ++ rest) (all_head OpCanBeWritten o ops fits) (all_head (λ o. S.put_byte o.put ≤ most) o ops kinds) in
    let others = each_again end most ops rest (all_tail OpCanBeWritten o ops fits) (all_tail (λ o. S.put_byte o.put ≤ most) o ops kinds) in
    rw (parts, first, others) refl

ops_again : (end most : ℕ) (ops : List Op) (rest : List ℕ) → OpsCanBeWritten ops → KindsFit most ops → F.ops_at end most (S.ops ops ++ rest) ≡ Ok (ops, rest)
unfolding F.ops_at F.each_op_at
ops_again end most ops rest fits kinds =
    let parts : S.ops ops ++ rest ≡ to_be_bytes w32 (length ops) ++ (flat_map S.op ops ++ rest) = append_assoc (to_be_bytes w32 (length ops)) (flat_map S.op ops) rest in
    ap (F.ops_at end most) parts ∙ rw (u32_again _ (length ops) (flat_map S.op ops ++ rest) fits.count) (each_again end most ops rest fits.each kinds)

both_kinds : (ops : List Op) → KindsFit 2 ops
both_kinds ops = λ k d lt. put_greatest (get_or ops k d).put

puts_alone : (ops : List Op) → All IsPut ops → KindsFit 1 ops
puts_alone ops all = λ k d lt. put_is_one (get_or ops k d).put (all k d lt)

-- ---- bodies

body_again : (end : ℕ) (b : Body) (rest : List ℕ) → BodyCanBeWritten b → BodyNumbersFit b → F.body_at end (S.body b ++ rest) ≡ Ok (b, rest)
unfolding F.body_at S.body F.open_at F.write_at F.split_at F.prepare_at F.commit_at F.install_at
body_again end (B.Open conf_ver version low high) rest can fits =
    let parts = append_assoc (S.epoch conf_ver version) (S.range low high) rest in
    rw (byte_again 1 8 _ end 1 _ (omega arith) (omega arith), parts, epoch_again end conf_ver version (S.range low high ++ rest) can, range_again end low high rest fits.0 fits.1) refl
body_again end (B.Write ops) rest can fits = rw (byte_again 1 8 _ end 2 _ (omega arith) (omega arith), ops_again end 2 ops rest can (both_kinds ops)) refl
body_again end (B.Split at child) rest can fits =
    let parts = append_assoc (S.handle at) (to_be_bytes w32 child) rest in
    rw (byte_again 1 8 _ end 3 _ (omega arith) (omega arith), parts, handle_again end at (to_be_bytes w32 child ++ rest) fits.0, u32_again _ child rest fits.1) refl
body_again end (B.Prepare target) rest can fits = rw (byte_again 1 8 _ end 4 _ (omega arith) (omega arith), u32_again _ target rest fits) refl
body_again end (B.Commit source) rest can fits = rw (byte_again 1 8 _ end 5 _ (omega arith) (omega arith), u32_again _ source rest fits) refl
body_again end B.Remove rest can fits = rw (byte_again 1 8 _ end 6 _ (omega arith) (omega arith)) refl
body_again end (B.Install conf_ver version low high ops) rest can fits =
    let one = append_assoc (S.epoch conf_ver version) (S.range low high ++ S.ops ops) rest in
    let two = append_assoc (S.range low high) (S.ops ops) rest in
    rw (byte_again 1 8 _ end 7 _ (omega arith) (omega arith), one, two, epoch_again end conf_ver version (S.range low high ++ (S.ops ops ++ rest)) can.epoch, range_again end low high (S.ops ops ++ rest) fits.0 fits.1, ops_again end 1 ops rest can.list (puts_alone ops can.puts)) refl
body_again end B.Empty rest can fits = rw (byte_again 1 8 _ end 8 _ (omega arith) (omega arith)) refl

-- ---- entries and frames

entry_again : (end : ℕ) (e : Entry) (rest : List ℕ) → CanBeWritten e → NumbersFit e → F.entry_at end (S.payload e ++ rest) ≡ Ok (e, rest)
unfolding F.entry_at S.payload
entry_again end e rest can fits =
    let one = append_assoc (to_be_bytes w32 e.region) (to_be_bytes w64 e.index ++ S.body e.body) rest in
    let two = append_assoc (to_be_bytes w64 e.index) (S.body e.body) rest in
    let parts : S.payload e ++ rest ≡ to_be_bytes w32 e.region ++ (to_be_bytes w64 e.index ++ (S.body e.body ++ rest)) = one ∙ ap (λ (xs : List ℕ). to_be_bytes w32 e.region ++ xs) two in
    let index : e.index ≤ 2 ^ 63 - 1 = omega (arith, can.index.1) in
    let index' : e.index < 2 ^ 64 = omega (arith, can.index.1) in
    ap (F.entry_at end) parts ∙ rw (u32_again _ e.region _ fits.region, in_again w64 1 (2 ^ 63 - 1) _ end _ e.index (S.body e.body ++ rest) (u64_again _ e.index _ index') can.index.0 index, body_again end e.body rest can.body fits.body) refl

payload_again : (end : ℕ) (e : Entry) → CanBeWritten e → NumbersFit e → F.payload_of end (S.payload e) ≡ Ok e
unfolding F.payload_of
payload_again end e can fits =
    let alone : F.entry_at end (S.payload e) ≡ Ok (e, []) = ap (F.entry_at end) (sym (append-nil (S.payload e))) ∙ entry_again end e [] can fits in
    rw alone refl

pub frame_again : (end : ℕ) (e : Entry) (rest : List ℕ) → CanBeWritten e → NumbersFit e → F.frame_at end (S.frame e ++ rest) ≡ Ok (e, rest)
unfolding F.frame_at F.sized_at S.frame
frame_again end e rest can fits =
    let len = length (S.payload e) in
    let parts = append_assoc (to_be_bytes w32 len) (S.payload e) rest in
    let size : len < 2 ^ 32 = omega (arith, can.size) in
    let long : ltb (length (S.payload e ++ rest)) len ≡ false = le-ltb _ _ (omega (arith, length-append (S.payload e) rest)) in
    rw (parts, in_again w32 0 16777216 _ end _ len (S.payload e ++ rest) (u32_again _ len _ size) (omega arith) can.size, long, take_at (S.payload e) rest len refl, drop-append_seam (S.payload e) rest, payload_again _ e can fits) refl

-- a frame stands where it was written, and ends where what follows begins
pub framed_again : (before : List ℕ) (e : Entry) (rest : List ℕ) → CanBeWritten e → NumbersFit e
    → F.framed (before ++ (S.frame e ++ rest)) (length before) ≡ Ok (record { entry = e; end = length before + length (S.frame e) })
unfolding F.framed
framed_again before e rest can fits =
    let whole = before ++ (S.frame e ++ rest) in
    let read : F.frame_at (length whole) (drop (length before) whole) ≡ Ok (e, rest) = ap (F.frame_at (length whole)) (drop-append_seam before (S.frame e ++ rest)) ∙ frame_again (length whole) e rest can fits in
    let end : length whole - length rest ≡ length before + length (S.frame e) = omega (arith, length-append before (S.frame e ++ rest), length-append (S.frame e) rest) in
    rw (read) (ap (λ n. Ok (record { entry = e; end = n })) end)

-- ---- the header

id_again : (end least id : ℕ) (rest : List ℕ) → least ≤ id → id < 2 ^ 32 → H.id_at end least (to_be_bytes w32 id ++ rest) ≡ Ok (id, rest)
unfolding H.id_at
id_again end least id rest le lt =
    let above : ltb id least ≡ false = le-ltb _ _ le in
    rw (u32_again _ id rest lt, above) refl

column_again : (end least : ℕ) (c : ColumnSpec) (rest : List ℕ) → least ≤ c.id → c.id < 2 ^ 32 → IsKind c → H.column_at end least (S.column c ++ rest) ≡ Ok (c, rest)
unfolding H.column_at
column_again end least c rest le lt kind =
    let parts = append_assoc (to_be_bytes w32 c.id) (c.kind ∷ []) rest in
    rw (parts, id_again end least c.id (c.kind ∷ rest) le lt, byte_again 1 3 _ end c.kind rest kind.0 kind.1) refl

columns_again : (end least : ℕ) (columns : List ColumnSpec) (rest : List ℕ) → Rising least columns → All IsKind columns → All (λ c. c.id < 2 ^ 32) columns
    → each_at (H.column_at end) H.above (length columns) least (flat_map S.column columns ++ rest) ≡ Ok (columns, rest)
unfolding each_at
columns_again end least [] rest rising kinds fits = refl
columns_again end least (c ∷ columns) rest rising kinds fits =
    let parts : (S.column c ++ flat_map S.column columns) ++ rest ≡ S.column c ++ (flat_map S.column columns ++ rest) = append_assoc (S.column c) (flat_map S.column columns) rest in
    let first = column_again end least c (flat_map S.column columns ++ rest) rising.0 (all_head (λ d. d.id < 2 ^ 32) c columns fits) (all_head IsKind c columns kinds) in
    let others = columns_again end (H.above c) columns rest rising.1 (all_tail IsKind c columns kinds) (all_tail (λ d. d.id < 2 ^ 32) c columns fits) in
    rw (parts, first, others) refl

pub header_again : (end : ℕ) (h : Header) (rest : List ℕ) → HeaderCanBeWritten h → HeaderNumbersFit h → H.header_at end (S.header h ++ rest) ≡ Ok (h, rest)
unfolding H.header_at S.header H.columns_at
header_again end h rest can fits =
    let count = length h.columns in
    let columns = flat_map S.column h.columns in
    let one = append_assoc (to_be_bytes w64 H.magic) (to_be_bytes w16 1 ++ (S.handle h.table ++ (to_be_bytes w16 count ++ columns))) rest in
    let two = append_assoc (to_be_bytes w16 1) (S.handle h.table ++ (to_be_bytes w16 count ++ columns)) rest in
    let three = append_assoc (S.handle h.table) (to_be_bytes w16 count ++ columns) rest in
    let four = append_assoc (to_be_bytes w16 count) columns rest in
    let table : cast_signed w64 (cast_unsigned w64 h.table) ≡ h.table = to_z-of_z w64 h.table fits.table in
    let counted : count < 2 ^ 16 = omega (arith, can.count) in
    rw (one, two, three, four, in_again w64 H.magic H.magic _ end _ H.magic _ (u64_again _ H.magic _ (omega arith)) (omega arith) (omega arith), in_again w16 1 1 _ end _ 1 _ (u16_again _ 1 _ (omega arith)) (omega arith) (omega arith), u64_again _ (cast_unsigned w64 h.table) _ (Fits-of_z {w = w64} {z = h.table} fits.table).fits, in_again w16 0 64 _ end _ count (columns ++ rest) (u16_again _ count _ counted) (omega arith) can.count, columns_again end 0 h.columns rest can.ids can.kinds fits.ids, table) refl

pub headed_again : (h : Header) (rest : List ℕ) → HeaderCanBeWritten h → HeaderNumbersFit h → H.headed (S.header h ++ rest) ≡ Ok (h, length (S.header h))
unfolding H.headed
headed_again h rest can fits =
    let whole = S.header h ++ rest in
    let end : length whole - length rest ≡ length (S.header h) = omega (arith, length-append (S.header h) rest) in
    rw (header_again (length whole) h rest can fits) (ap (λ n. Ok (h, n)) end)
