-- The short value of a write record lies where its place says.
use Rattle.std.proofs.Common.{◌≡◌, ℕ, zero, suc, ◌+◌, ◌-◌, ◌*◌, ◌≤◌, Bool, true, false, not, cond, ltb, eqb, List, [], ◌∷◌, length, Option, Some, None, Result, Ok, Err, refl, sym, ap, subst, ◌∙◌, arith, take, drop}
use Rattle.std.proofs.lemmas.Bool.{ltb-false}
use Rattle.std.proofs.lemmas.List.{drop-drop, length-drop, length-take-le}
use Rattle.std.proofs.lemmas.List.Sums.{prefix_len-le-length}
use Rattle.std.specs.List.{position_or_len}
use Rattle.std.specs.Prelude.{position}
use Rattle.kv_codec.specs.declared.records.RecordError.{RecordError}
use Rattle.kv_codec.specs.declared.records.RecordError.TheVariants.{Number, Short, Kind}
use Rattle.kv_codec.specs.declared.records.WriteKind.{WriteKind}
use Rattle.kv_codec.specs.declared.records.WriteKind.TheVariants.{Put, Delete, Lock, Rollback}
use Rattle.kv_codec.specs.Records.{Write, number_at, kind_at, sized_at, short_at, write_at}
use Rattle.flash_list.specs.Steps.{◌>>=◌}
use Rattle.committed_log.specs.Shorts.{number_len, short_place}

-- ---- numbers

abbrev low : ℕ → Bool
low b = ltb b 128

found : (k at len : ℕ) (t : Bool) → ltb at len ≡ t → cond t (Some at) None ≡ Some k → k ≡ at
found k at len true e h = cc h
found k at len false e h = absurd (cc h)

absent : (at len : ℕ) (t : Bool) → at ≤ len → ltb at len ≡ t → cond t (Some at) None ≡ None → len ≡ at
absent at len true most e h = absurd (cc h)
absent at len false most e h = omega (arith, ltb-false _ _ e, most)

-- the place of the first byte below 128, where there is one
pub place_found : (bytes : List ℕ) (k : ℕ) → position low bytes ≡ Some k → k + 1 ≡ number_len bytes
place_found bytes k h = ap (λ n. n + 1) (found k (position_or_len low bytes) (length bytes) _ refl h)

pub place_absent : (bytes : List ℕ) → position low bytes ≡ None → length bytes + 1 ≡ number_len bytes
place_absent bytes h = ap (λ n. n + 1) (absent (position_or_len low bytes) (length bytes) _ (prefix_len-le-length (λ b. not (low b)) bytes) refl h)

short_number : (b : ℕ) (rest : List ℕ) → ltb b 128 ≡ true → rest ≡ drop (number_len (b ∷ rest)) (b ∷ rest)
short_number b rest e = rw e refl

long_number : (b : ℕ) (rest : List ℕ) → ltb b 128 ≡ false → drop (number_len rest) rest ≡ drop (number_len (b ∷ rest)) (b ∷ rest)
long_number b rest e = rw e (ap (λ n. drop n (b ∷ rest)) (more (position_or_len low rest)))
  where
    more : (n : ℕ) → suc (n + 1) ≡ 1 + n + 1
    more n = omega arith

last_byte : (at b : ℕ) (rest : List ℕ) (n : ℕ × List ℕ) (wide small : Bool) → ltb 1 b ≡ wide → ltb b 128 ≡ small
    → cond wide (Err (Number at)) (Ok (b, rest)) ≡ Ok n → n.1 ≡ drop (number_len (b ∷ rest)) (b ∷ rest)
last_byte at b rest n true small e f h = absurd (cc h)
last_byte at b rest n false true e f h = let is : (b, rest) ≡ n = cc h in ap (λ (m : ℕ × List ℕ). m.1) (sym is) ∙ short_number b rest f
last_byte at b rest n false false e f h = absurd (omega (arith, ltb-false _ _ e, ltb-false _ _ f))

behind : (b : ℕ) (rest : List ℕ) (r : Result (ℕ × List ℕ) RecordError) (n : ℕ × List ℕ) → ltb b 128 ≡ false → ((m : ℕ × List ℕ) → r ≡ Ok m → m.1 ≡ drop (number_len rest) rest)
    → (r >>= λ high. Ok (b - 128 + 128 * high.0, high.1)) ≡ Ok n → n.1 ≡ drop (number_len (b ∷ rest)) (b ∷ rest)
behind b rest (Err e) n big inner h = absurd (cc h)
behind b rest (Ok m) n big inner h = let is : (b - 128 + 128 * m.0, m.1) ≡ n = cc h in ap (λ (x : ℕ × List ℕ). x.1) (sym is) ∙ inner m refl ∙ long_number b rest big

one_byte : (b : ℕ) (rest : List ℕ) (r : Result (ℕ × List ℕ) RecordError) (n : ℕ × List ℕ) (small : Bool) → ltb b 128 ≡ small → ((m : ℕ × List ℕ) → r ≡ Ok m → m.1 ≡ drop (number_len rest) rest)
    → cond small (Ok (b, rest)) (r >>= λ high. Ok (b - 128 + 128 * high.0, high.1)) ≡ Ok n → n.1 ≡ drop (number_len (b ∷ rest)) (b ∷ rest)
one_byte b rest r n true e inner h = let is : (b, rest) ≡ n = cc h in ap (λ (m : ℕ × List ℕ). m.1) (sym is) ∙ short_number b rest e
one_byte b rest r n false e inner h = behind b rest r n e inner h

-- what stands behind a number
pub number_rest : (more at : ℕ) (bytes : List ℕ) (n : ℕ × List ℕ) → number_at more at bytes ≡ Ok n → n.1 ≡ drop (number_len bytes) bytes
unfolding number_at
number_rest more at [] n h = absurd (cc h)
number_rest zero at (b ∷ rest) n h = last_byte at b rest n _ _ refl refl h
number_rest (suc more) at (b ∷ rest) n h = one_byte b rest (number_at more (at + 1) rest) n _ refl (λ m is. number_rest more (at + 1) rest m is) h

-- ---- short values

-- the value lies at this place of the bytes
abbrev pub LiesAt : List ℕ → ℕ → List ℕ → Type 0
LiesAt bytes place value = (place + length value ≤ length bytes) × (take (length value) (drop place bytes) ≡ value)

sized : (size : ℕ) (rest s : List ℕ) (t : Bool) (len : ℕ) → ltb (length rest) size ≡ t → cond t (Err (Short len)) (Ok (Some (take size rest))) ≡ Ok (Some s) → (length s ≤ length rest) × (take (length s) rest ≡ s)
sized size rest s true len e h = absurd (cc h)
sized size rest s false len e h =
    let is : take size rest ≡ s = cc h in
    let most : size ≤ length rest = ltb-false _ _ e in
    let long : length s ≡ size = ap length (sym is) ∙ length-take-le size rest most in
    (omega (arith, long, most), ap (λ n. take n rest) long ∙ is)

marked : (len mark : ℕ) (rest s : List ℕ) (t : Bool) → cond t (sized_at len rest) (Ok None) ≡ Ok (Some s) → LiesAt (mark ∷ rest) 2 s
unfolding sized_at
marked len mark rest s false h = absurd (cc h)
marked len mark [] s true h = absurd (cc h)
marked len mark (size ∷ rest) s true h = let got = sized size rest s _ len refl h in (omega (arith, got.0), got.1)

short_lies : (len : ℕ) (bytes s : List ℕ) → short_at len bytes ≡ Ok (Some s) → LiesAt bytes 2 s
unfolding short_at
short_lies len [] s h = absurd (cc h)
short_lies len (mark ∷ rest) s h = marked len mark rest s _ h

moved : (bytes : List ℕ) (n : ℕ) (s : List ℕ) → n ≤ length bytes → LiesAt (drop n bytes) 2 s → LiesAt bytes (n + 2) s
moved bytes n s most lies = (omega (arith, lies.0, length-drop n bytes, most), ap (take (length s)) (sym (drop-drop 2 n bytes)) ∙ lies.1)

-- ---- write records

any_kind : (b : ℕ) (rest : List ℕ) (k : WriteKind × List ℕ) (p d l r : Bool)
    → cond p (Ok (Put, rest)) (cond d (Ok (Delete, rest)) (cond l (Ok (Lock, rest)) (cond r (Ok (Rollback, rest)) (Err (Kind b))))) ≡ Ok k → k.1 ≡ rest
any_kind b rest k true d l r h = let is : (Put, rest) ≡ k = cc h in ap (λ (x : WriteKind × List ℕ). x.1) (sym is)
any_kind b rest k false true l r h = let is : (Delete, rest) ≡ k = cc h in ap (λ (x : WriteKind × List ℕ). x.1) (sym is)
any_kind b rest k false false true r h = let is : (Lock, rest) ≡ k = cc h in ap (λ (x : WriteKind × List ℕ). x.1) (sym is)
any_kind b rest k false false false true h = let is : (Rollback, rest) ≡ k = cc h in ap (λ (x : WriteKind × List ℕ). x.1) (sym is)
any_kind b rest k false false false false h = absurd (cc h)

kind_rest : (bytes : List ℕ) (k : WriteKind × List ℕ) → kind_at bytes ≡ Ok k → (1 ≤ length bytes) × (k.1 ≡ drop 1 bytes)
unfolding kind_at
kind_rest [] k h = absurd (cc h)
kind_rest (b ∷ rest) k h = (omega arith, any_kind b rest k (eqb b 80) (eqb b 68) (eqb b 76) (eqb b 82) h)

record_short : (kind : WriteKind) (start : ℕ) (r : Result (Option (List ℕ)) RecordError) (w : Write) (s : List ℕ)
    → (r >>= λ short. Ok (record { kind = kind; start = start; short = short })) ≡ Ok w → w.short ≡ Some s → r ≡ Ok (Some s)
record_short kind start (Err e) w s h is = absurd (cc h)
record_short kind start (Ok short) w s h is = let w_is : record { kind = kind; start = start; short = short } ≡ w = cc h in ap Ok (ap (λ (x : Write). x.short) w_is ∙ is)

from_start : (len : ℕ) (rest : List ℕ) (kind : WriteKind) (r : Result (ℕ × List ℕ) RecordError) (w : Write) (s : List ℕ) → ((n : ℕ × List ℕ) → r ≡ Ok n → n.1 ≡ drop (number_len rest) rest)
    → (r >>= λ start. short_at len start.1 >>= λ short. Ok (record { kind = kind; start = start.0; short = short })) ≡ Ok w → w.short ≡ Some s → LiesAt (drop (number_len rest) rest) 2 s
from_start len rest kind (Err e) w s inner h is = absurd (cc h)
from_start len rest kind (Ok n) w s inner h is = let got : short_at len n.1 ≡ Ok (Some s) = record_short kind n.0 (short_at len n.1) w s h is in short_lies len _ s (subst (λ bytes. short_at len bytes ≡ Ok (Some s)) (inner n refl) got)

within : (rest : List ℕ) (n : ℕ) (s : List ℕ) → LiesAt (drop n rest) 2 s → LiesAt rest (n + 2) s
within rest n s lies = moved rest n s (omega (arith, lies.0, length-drop n rest)) lies

from_kind : (bytes : List ℕ) (r : Result (WriteKind × List ℕ) RecordError) (w : Write) (s : List ℕ) → kind_at bytes ≡ r
    → (r >>= λ kind. number_at 9 1 kind.1 >>= λ start. short_at (length bytes) start.1 >>= λ short. Ok (record { kind = kind.0; start = start.0; short = short })) ≡ Ok w → w.short ≡ Some s → LiesAt bytes (short_place bytes) s
from_kind bytes (Err e) w s k h is = absurd (cc h)
from_kind bytes (Ok kind) w s k h is =
    let front = kind_rest bytes kind k in
    let lies : LiesAt (drop (number_len kind.1) kind.1) 2 s = from_start (length bytes) kind.1 kind.0 (number_at 9 1 kind.1) w s (λ n. number_rest 9 1 kind.1 n) h is in
    let tail : LiesAt (drop 1 bytes) (number_len (drop 1 bytes) + 2) s = subst (λ rest. LiesAt rest (number_len rest + 2) s) front.1 (within kind.1 (number_len kind.1) s lies) in
    (omega (arith, tail.0, front.0, length-drop 1 bytes), ap (take (length s)) (ap (λ n. drop n bytes) (regrouped (number_len (drop 1 bytes))) ∙ sym (drop-drop (number_len (drop 1 bytes) + 2) 1 bytes)) ∙ tail.1)
  where
    regrouped : (n : ℕ) → 1 + n + 2 ≡ 1 + (n + 2)
    regrouped n = omega arith

-- the short value of a write record
pub short_lies_at : (bytes : List ℕ) (w : Write) (s : List ℕ) → write_at bytes ≡ Ok w → w.short ≡ Some s → LiesAt bytes (short_place bytes) s
unfolding write_at
short_lies_at bytes w s h is = from_kind bytes (kind_at bytes) w s refl h is

pub number_within : (bytes : List ℕ) → number_len bytes ≤ length bytes + 1
number_within bytes = omega (arith, prefix_len-le-length (λ b. not (low b)) bytes)

pub three_at_least : (bytes : List ℕ) (s : List ℕ) → LiesAt bytes (short_place bytes) s → 1 ≤ length bytes
three_at_least bytes s lies = omega (arith, lies.0)
