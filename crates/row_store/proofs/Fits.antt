-- Whether a log file can hold an entry, computed.
use Rattle.std.proofs.Common.{◌≡◌, ℕ, ℤ, ◌^◌, Bool, true, false, ◌&&◌, List, [], ◌∷◌, length, Option, Some, None, refl}
use Rattle.std.specs.Prelude.{FitsSigned, nat_lt, nat_le}
use Rattle.std.specs.Int.{w64}
use Rattle.std.specs.Int.Signed.{mag}
use Rattle.std.specs.List.{All, list_all}
use Rattle.std.proofs.lemmas.Bool.{ltb-true, leb-true, and_parts, true≢false, false≢true}
use Rattle.std.proofs.lemmas.List.Elements.{All-cons, All-nil}
use Rattle.log_codec.specs.Spelling.{payload}
use Rattle.log_codec.specs.Writable.{CanBeWritten, NumbersFit, OpCanBeWritten, OpsCanBeWritten, InstallCanBeWritten, BodyCanBeWritten, BodyNumbersFit, HandleFits, IsEpoch, IsPut}
use Rattle.log_codec.specs.declared.entry.Entry.{Entry}
use Rattle.log_codec.specs.declared.entry.Op.{Op}
use Rattle.log_codec.specs.declared.entry.Body.{Body}
use Rattle.log_codec.specs.declared.entry.Body.TheVariants as body
use Rattle.committed_log.specs.Lawful.{AllWritable}

abbrev signed : ℤ → Bool
signed z = nat_lt (mag z) (2 ^ 63)

signed-true : (z : ℤ) → signed z ≡ true → FitsSigned w64 z
signed-true z h = record { sfits = ltb-true (mag z) (2 ^ 63) h }

abbrev high_fits : Option ℤ → Bool
high_fits None = true
high_fits (Some z) = signed z

high-true : (z : Option ℤ) → high_fits z ≡ true → HandleFits z
high-true None h = tt
high-true (Some z) h = signed-true z h

-- ---- ops

abbrev delete_fits : Bool → List ℕ → Bool
delete_fits true value = true
delete_fits false [] = true
delete_fits false (b ∷ value) = false

delete-true : (put : Bool) (value : List ℕ) → delete_fits put value ≡ true → put ≡ false → value ≡ []
delete-true true value h e = absurd (true≢false e)
delete-true false [] h e = refl
delete-true false (b ∷ value) h e = absurd (false≢true h)

abbrev op_fits : Op → Bool
op_fits o = nat_lt (length o.key) (2 ^ 16) && (nat_lt (length o.value) (2 ^ 32) && delete_fits o.put o.value)

op-true : (o : Op) → op_fits o ≡ true → OpCanBeWritten o
op-true o h =
    let a = and_parts (nat_lt (length o.key) (2 ^ 16)) (nat_lt (length o.value) (2 ^ 32) && delete_fits o.put o.value) h in
    let b = and_parts (nat_lt (length o.value) (2 ^ 32)) (delete_fits o.put o.value) a.1 in
    record { key = ltb-true (length o.key) (2 ^ 16) a.0; value = ltb-true (length o.value) (2 ^ 32) b.0; delete = delete-true o.put o.value b.1 }

each-true : (ops : List Op) → list_all op_fits ops ≡ true → All OpCanBeWritten ops
each-true [] h = All-nil OpCanBeWritten
each-true (o ∷ ops) h =
    let a = and_parts (op_fits o) (list_all op_fits ops) h in
    All-cons OpCanBeWritten o ops (op-true o a.0) (each-true ops a.1)

puts-true : (ops : List Op) → list_all (λ (o : Op). o.put) ops ≡ true → All IsPut ops
puts-true [] h = All-nil IsPut
puts-true (o ∷ ops) h =
    let a = and_parts o.put (list_all (λ (o : Op). o.put) ops) h in
    All-cons IsPut o ops a.0 (puts-true ops a.1)

abbrev ops_fit : List Op → Bool
ops_fit ops = nat_lt (length ops) (2 ^ 32) && list_all op_fits ops

ops-true : (ops : List Op) → ops_fit ops ≡ true → OpsCanBeWritten ops
ops-true ops h =
    let a = and_parts (nat_lt (length ops) (2 ^ 32)) (list_all op_fits ops) h in
    record { count = ltb-true (length ops) (2 ^ 32) a.0; each = each-true ops a.1 }

-- ---- bodies

abbrev epoch_fits : ℕ → ℕ → Bool
epoch_fits conf_ver version = nat_lt conf_ver (2 ^ 62) && nat_lt version (2 ^ 62)

epoch-true : (conf_ver version : ℕ) → epoch_fits conf_ver version ≡ true → IsEpoch conf_ver version
epoch-true conf_ver version h =
    let a = and_parts (nat_lt conf_ver (2 ^ 62)) (nat_lt version (2 ^ 62)) h in
    (ltb-true conf_ver (2 ^ 62) a.0, ltb-true version (2 ^ 62) a.1)

abbrev install_fits : ℕ → ℕ → List Op → Bool
install_fits conf_ver version ops = epoch_fits conf_ver version && (ops_fit ops && list_all (λ (o : Op). o.put) ops)

install-true : (conf_ver version : ℕ) (ops : List Op) → install_fits conf_ver version ops ≡ true → InstallCanBeWritten conf_ver version ops
install-true conf_ver version ops h =
    let a = and_parts (epoch_fits conf_ver version) (ops_fit ops && list_all (λ (o : Op). o.put) ops) h in
    let b = and_parts (ops_fit ops) (list_all (λ (o : Op). o.put) ops) a.1 in
    record { epoch = epoch-true conf_ver version a.0; list = ops-true ops b.0; puts = puts-true ops b.1 }

abbrev body_fits : Body → Bool
body_fits (body.Open conf_ver version low high) = epoch_fits conf_ver version
body_fits (body.Write ops) = ops_fit ops
body_fits (body.Split at child) = true
body_fits (body.Prepare target) = true
body_fits (body.Commit source) = true
body_fits body.Remove = true
body_fits (body.Install conf_ver version low high ops) = install_fits conf_ver version ops
body_fits body.Empty = true

body-true : (b : Body) → body_fits b ≡ true → BodyCanBeWritten b
body-true (body.Open conf_ver version low high) h = epoch-true conf_ver version h
body-true (body.Write ops) h = ops-true ops h
body-true (body.Split at child) h = tt
body-true (body.Prepare target) h = tt
body-true (body.Commit source) h = tt
body-true body.Remove h = tt
body-true (body.Install conf_ver version low high ops) h = install-true conf_ver version ops h
body-true body.Empty h = tt

abbrev numbers_fit : Body → Bool
numbers_fit (body.Open conf_ver version low high) = signed low && high_fits high
numbers_fit (body.Write ops) = true
numbers_fit (body.Split at child) = signed at && nat_lt child (2 ^ 32)
numbers_fit (body.Prepare target) = nat_lt target (2 ^ 32)
numbers_fit (body.Commit source) = nat_lt source (2 ^ 32)
numbers_fit body.Remove = true
numbers_fit (body.Install conf_ver version low high ops) = signed low && high_fits high
numbers_fit body.Empty = true

range-true : (low : ℤ) (high : Option ℤ) → (signed low && high_fits high) ≡ true → FitsSigned w64 low × HandleFits high
range-true low high h = let a = and_parts (signed low) (high_fits high) h in (signed-true low a.0, high-true high a.1)

numbers-true : (b : Body) → numbers_fit b ≡ true → BodyNumbersFit b
numbers-true (body.Open conf_ver version low high) h = range-true low high h
numbers-true (body.Write ops) h = tt
numbers-true (body.Split at child) h = let a = and_parts (signed at) (nat_lt child (2 ^ 32)) h in (signed-true at a.0, ltb-true child (2 ^ 32) a.1)
numbers-true (body.Prepare target) h = ltb-true target (2 ^ 32) h
numbers-true (body.Commit source) h = ltb-true source (2 ^ 32) h
numbers-true body.Remove h = tt
numbers-true (body.Install conf_ver version low high ops) h = range-true low high h
numbers-true body.Empty h = tt

-- ---- entries

abbrev index_fits : ℕ → Bool
index_fits index = nat_le 1 index && nat_lt index (2 ^ 63)

abbrev form_fits : Entry → Bool
form_fits e = index_fits e.index && (body_fits e.body && nat_le (length (payload e)) 16777216)

form-true : (e : Entry) → form_fits e ≡ true → CanBeWritten e
form-true e h =
    let a = and_parts (index_fits e.index) (body_fits e.body && nat_le (length (payload e)) 16777216) h in
    let b = and_parts (body_fits e.body) (nat_le (length (payload e)) 16777216) a.1 in
    let c = and_parts (nat_le 1 e.index) (nat_lt e.index (2 ^ 63)) a.0 in
    record { index = (leb-true 1 e.index c.0, ltb-true e.index (2 ^ 63) c.1); body = body-true e.body b.0; size = leb-true (length (payload e)) 16777216 b.1 }

abbrev values_fit : Entry → Bool
values_fit e = nat_lt e.region (2 ^ 32) && numbers_fit e.body

values-true : (e : Entry) → values_fit e ≡ true → NumbersFit e
values-true e h =
    let a = and_parts (nat_lt e.region (2 ^ 32)) (numbers_fit e.body) h in
    record { region = ltb-true e.region (2 ^ 32) a.0; body = numbers-true e.body a.1 }

abbrev entry_fits : Entry → Bool
entry_fits e = form_fits e && values_fit e

abbrev pub all_fit : List Entry → Bool
all_fit entries = list_all entry_fits entries

pub all-true : (entries : List Entry) → all_fit entries ≡ true → AllWritable entries
all-true [] h = tt
all-true (e ∷ entries) h =
    let a = and_parts (entry_fits e) (list_all entry_fits entries) h in
    let b = and_parts (form_fits e) (values_fit e) a.0 in
    (record { form = form-true e b.0; numbers = values-true e b.1 }, all-true entries a.1)
