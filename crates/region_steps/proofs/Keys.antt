-- A key that names a row names one of the handles that there are, and a change is of a handle of the range that it was looked for in.
use Rattle.std.proofs.Common.{◌≡◌, ◌∙◌, refl, ap, subst, ℕ, ◌-◌, ◌^◌, ◌+◌, ℤ, pos, negsuc, Bool, true, false, cond, not, List, [], ◌∷◌, length, Option, Some, None, Result, Ok, Err, int_le, nat_lt, arith}
use Rattle.std.specs.Prelude.{◌==◌}
use Rattle.std.specs.Int.{w64, from_be_bytes}
use Rattle.std.proofs.lemmas.Int.{ints}
use Rattle.flash_types.specs.Ranges.{holds}
use Rattle.flash_types.specs.declared.range.HandleRange.{HandleRange}
use Rattle.kv_codec.specs.Keys.{record_at, parts_at, text_at, handle_of, unflipped, flipped}
use Rattle.kv_codec.specs.Records.{write_at, lock_at}
use Rattle.kv_codec.specs.declared.keys.KeyError.{KeyError}
use Rattle.kv_codec.specs.declared.records.WriteKind.{WriteKind}
use Rattle.kv_codec.specs.declared.records.WriteKind.TheVariants as kind
use Rattle.log_codec.specs.declared.entry.Family.{Family}
use Rattle.log_codec.specs.declared.entry.Family.TheVariants as family
use Rattle.log_codec.specs.declared.entry.Op.{Op}
use Rattle.committed_log.specs.Changes.{change_of, key_at, put_of, delete_of, commit_of}
use Rattle.committed_log.specs.declared.op.FamilyOp.{FamilyOp}
use Rattle.committed_log.specs.declared.op.FamilyOp.TheVariants as change
use Rattle.committed_log.specs.declared.op.OpFault.{OpFault}
use Rattle.committed_log.specs.declared.op.OpFault.TheVariants.{BadKey, BadRecord}
use Rattle.flash_list.specs.Steps.{◌>>=◌}
use Rattle.raft_apply.specs.Entries.{every_handle, change_in}
use Rattle.region_state.specs.Folding.{lies_in}

-- ---- handles of keys

least : (n : ℕ) → int_le (negsuc (2 ^ 63 - 1)) (unflipped n) ≡ true
least n = by (nat_lt n (2 ^ 63)) refl
  where
    low : (n : ℕ) → nat_lt n 9223372036854775808 ≡ true → int_le (negsuc 9223372036854775807) (negsuc (9223372036854775808 - (n + 1))) ≡ true
    low n less = grind (arith, ints)

    by : (b : Bool) → nat_lt n (2 ^ 63) ≡ b → int_le (negsuc (2 ^ 63 - 1)) (cond b (negsuc (2 ^ 63 - (n + 1))) (pos (n - 2 ^ 63))) ≡ true
    by true less = low n less
    by false less = refl

-- a handle, if there is one, is not below the least
abbrev IsThere : Option ℤ → Type 0
IsThere None = Unit {0}
IsThere (Some h) = holds every_handle h ≡ true

unless_there : (b : Bool) (o : Option ℤ) → IsThere o → IsThere (cond b None o)
unless_there true o there = tt
unless_there false o there = there

if_there : (b : Bool) (o : Option ℤ) → IsThere o → IsThere (cond b o None)
if_there true o there = there
if_there false o there = tt

number_there : (n : ℕ) → holds every_handle (unflipped n) ≡ true
number_there n = grind (arith, least n)

text_there : (table : ℤ) (text : List ℕ) → IsThere (handle_of table text)
unfolding handle_of
text_there table [] = tt
text_there table (a1 ∷ []) = tt
text_there table (a1 ∷ a2 ∷ []) = tt
text_there table (a1 ∷ a2 ∷ a3 ∷ []) = tt
text_there table (a1 ∷ a2 ∷ a3 ∷ a4 ∷ []) = tt
text_there table (a1 ∷ a2 ∷ a3 ∷ a4 ∷ a5 ∷ []) = tt
text_there table (a1 ∷ a2 ∷ a3 ∷ a4 ∷ a5 ∷ a6 ∷ []) = tt
text_there table (a1 ∷ a2 ∷ a3 ∷ a4 ∷ a5 ∷ a6 ∷ a7 ∷ []) = tt
text_there table (a1 ∷ a2 ∷ a3 ∷ a4 ∷ a5 ∷ a6 ∷ a7 ∷ a8 ∷ []) = tt
text_there table (a1 ∷ a2 ∷ a3 ∷ a4 ∷ a5 ∷ a6 ∷ a7 ∷ a8 ∷ a9 ∷ []) = tt
text_there table (a1 ∷ a2 ∷ a3 ∷ a4 ∷ a5 ∷ a6 ∷ a7 ∷ a8 ∷ a9 ∷ line ∷ []) = tt
text_there table (t ∷ a ∷ b ∷ c ∷ d ∷ e ∷ f ∷ g ∷ h ∷ line ∷ r ∷ handle) =
    unless_there (not (t == 116)) _ (unless_there (not (from_be_bytes w64 (a ∷ b ∷ c ∷ d ∷ e ∷ f ∷ g ∷ h ∷ []) == flipped table)) _ (unless_there (not (line == 95)) _ (unless_there (not (r == 114)) _ (if_there (length handle == 8) (Some (unflipped (from_be_bytes w64 handle))) (number_there (from_be_bytes w64 handle))))))

abbrev KeyIsThere : Result (Option (ℤ × ℕ)) KeyError → Type 0
KeyIsThere (Err e) = Unit {0}
KeyIsThere (Ok None) = Unit {0}
KeyIsThere (Ok (Some k)) = holds every_handle k.0 ≡ true

abbrev RecordIsThere : Result (Option ℤ) KeyError → Type 0
RecordIsThere (Err e) = Unit {0}
RecordIsThere (Ok o) = IsThere o

record_there : (table : ℤ) (key : List ℕ) → RecordIsThere (record_at table key)
unfolding record_at
record_there table key = by (text_at 0 key)
  where
    by : (text : Result (List ℕ) KeyError) → RecordIsThere (text >>= λ text. Ok (handle_of table text))
    by (Ok text) = text_there table text
    by (Err e) = tt

named_there : (at : ℕ) (o : Option ℤ) → IsThere o → KeyIsThere (Ok (elim o [ None ↦ None | Some h ↦ Some (h, at) ]))
named_there at None there = tt
named_there at (Some h) there = there

of_record : (at : ℕ) (r : Result (Option ℤ) KeyError) → RecordIsThere r → KeyIsThere (r >>= λ handle. Ok (elim handle [ None ↦ None | Some h ↦ Some (h, at) ]))
of_record at (Ok o) there = named_there at o there
of_record at (Err e) there = tt

of_parts : (table : ℤ) (parts : Result (List ℕ × ℕ) KeyError) → KeyIsThere (parts >>= λ parts. (record_at table parts.0 >>= λ handle. Ok (elim handle [ None ↦ None | Some h ↦ Some (h, parts.1) ])))
of_parts table (Ok parts) = of_record parts.1 (record_at table parts.0) (record_there table parts.0)
of_parts table (Err e) = tt

key_there : (table : ℤ) (f : Family) (key : List ℕ) → KeyIsThere (key_at table f key)
key_there table family.Default key = of_parts table (parts_at key)
key_there table family.Write key = of_parts table (parts_at key)
key_there table family.Lock key = of_record 0 (record_at table key) (record_there table key)

-- ---- changes

abbrev of_key : HandleRange → Op → Result (Option (ℤ × ℕ)) KeyError → Result (Option FamilyOp) OpFault
of_key range op key = elim key [
  | Err e ↦ Err BadKey
  | Ok named ↦ elim named [ None ↦ Ok None | Some k ↦ cond (holds range k.0) (cond op.put (put_of op.family k.0 k.1 op.value) (Ok (delete_of op.family k.0 k.1))) (Err BadKey) ]
]

-- a change that is found in a range is found among all handles
every : (range : HandleRange) (op : Op) (key : Result (Option (ℤ × ℕ)) KeyError) (found : Option FamilyOp) → KeyIsThere key → of_key range op key ≡ Ok found → of_key every_handle op key ≡ Ok found
every range op (Err e) found there is = cc is
every range op (Ok None) found there is = is
every range op (Ok (Some k)) found there is = by (holds range k.0) is
  where
    by : (b : Bool) → cond b (cond op.put (put_of op.family k.0 k.1 op.value) (Ok (delete_of op.family k.0 k.1))) (Err BadKey) ≡ Ok found → cond (holds every_handle k.0) (cond op.put (put_of op.family k.0 k.1 op.value) (Ok (delete_of op.family k.0 k.1))) (Err BadKey) ≡ Ok found
    by true is = ap (λ b. cond b (cond op.put (put_of op.family k.0 k.1 op.value) (Ok (delete_of op.family k.0 k.1))) (Err BadKey)) there ∙ is
    by false is = cc is

pub change_every : (table : ℤ) (range : HandleRange) (op : Op) (found : Option FamilyOp) → change_of table range op ≡ Ok found → change_in table op ≡ found
change_every table range op found is = ap (λ (r : Result (Option FamilyOp) OpFault). elim r [ Err fault ↦ None | Ok found ↦ found ]) (every range op (key_at table op.family op.key) found (key_there table op.family op.key) is)

-- ---- a change is of a handle of the range

abbrev Lies : HandleRange → Result (Option FamilyOp) OpFault → Type 0
Lies range (Err fault) = Unit {0}
Lies range (Ok None) = Unit {0}
Lies range (Ok (Some c)) = lies_in range c ≡ true

commit_lies : (range : HandleRange) (h : ℤ) (ts start : ℕ) (k : WriteKind) (short : Option (List ℕ)) → holds range h ≡ true → Lies range (Ok (commit_of h ts (record { kind = k; start = start; short = short })))
commit_lies range h ts start kind.Put short here = here
commit_lies range h ts start kind.Delete short here = here
commit_lies range h ts start kind.Lock short here = tt
commit_lies range h ts start kind.Rollback short here = tt

put_lies : (range : HandleRange) (f : Family) (h : ℤ) (ts : ℕ) (bytes : List ℕ) → holds range h ≡ true → Lies range (put_of f h ts bytes)
put_lies range family.Default h ts bytes here = here
put_lies range family.Lock h ts bytes here = elim (lock_at bytes) as (λ l. Lies range (elim l [ Err e ↦ Err BadRecord | Ok l ↦ Ok (Some (change.Lock h l.kind l.start)) ])) [ Err e ↦ tt | Ok l ↦ here ]
put_lies range family.Write h ts bytes here = elim (write_at bytes) as (λ w. Lies range (elim w [ Err e ↦ Err BadRecord | Ok w ↦ Ok (commit_of h ts w) ])) [ Err e ↦ tt | Ok w ↦ commit_lies range h ts w.start w.kind w.short here ]

delete_lies : (range : HandleRange) (f : Family) (h : ℤ) (ts : ℕ) → holds range h ≡ true → Lies range (Ok (delete_of f h ts))
delete_lies range family.Default h ts here = here
delete_lies range family.Lock h ts here = here
delete_lies range family.Write h ts here = tt

key_lies : (range : HandleRange) (op : Op) (key : Result (Option (ℤ × ℕ)) KeyError) → Lies range (of_key range op key)
key_lies range op (Err e) = tt
key_lies range op (Ok None) = tt
key_lies range op (Ok (Some k)) = by (holds range k.0) refl
  where
    made : (put : Bool) → holds range k.0 ≡ true → Lies range (cond put (put_of op.family k.0 k.1 op.value) (Ok (delete_of op.family k.0 k.1)))
    made true here = put_lies range op.family k.0 k.1 op.value here
    made false here = delete_lies range op.family k.0 k.1 here

    by : (b : Bool) → holds range k.0 ≡ b → Lies range (cond b (cond op.put (put_of op.family k.0 k.1 op.value) (Ok (delete_of op.family k.0 k.1))) (Err BadKey))
    by true here = made op.put here
    by false here = tt

pub change_lies : (table : ℤ) (range : HandleRange) (op : Op) (c : FamilyOp) → change_of table range op ≡ Ok (Some c) → lies_in range c ≡ true
change_lies table range op c is = subst (Lies range) is (key_lies range op (key_at table op.family op.key))
