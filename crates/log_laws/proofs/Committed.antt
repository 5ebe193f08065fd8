-- What a lawful log commits are rows of its table.
use Rattle.std.proofs.Common.{◌≡◌, refl, subst, ℕ, suc, ℤ, Bool, true, false, cond, not, List, [], ◌∷◌, ◌++◌, Option, Some, None, Result, Ok, Err, option_map}
use Rattle.std.proofs.lemmas.List.Elements.{All-append, All-cons, All-contains, All-filter, All-nil}
use Rattle.std.specs.List.{All, Contains}
use Rattle.std.specs.Option.{option_or}
use Rattle.flash_types.specs.Ranges.{holds}
use Rattle.flash_types.specs.declared.range.HandleRange.{HandleRange}
use Rattle.column_block.specs.declared.column.Column.{Column}
use Rattle.log_codec.specs.declared.entry.Body.{Body}
use Rattle.log_codec.specs.declared.entry.Body.TheVariants as body
use Rattle.log_codec.specs.declared.entry.Entry.{Entry}
use Rattle.log_codec.specs.declared.entry.Op.{Op}
use Rattle.committed_log.specs.Admission.{backdated_fault, change_fault, of_row, op_fault, ops_fault, ops_fault_from, row_fault_of, value_fault}
use Rattle.committed_log.specs.Changes.{change_of}
use Rattle.committed_log.specs.declared.op.OpFault.TheVariants.{BadKey, BadRecord}
use Rattle.committed_log.specs.declared.op.FamilyOp.{FamilyOp}
use Rattle.committed_log.specs.declared.op.FamilyOp.TheVariants as change
use Rattle.committed_log.specs.declared.op.OpFault.{OpFault}
use Rattle.committed_log.specs.declared.store.Commit.{Commit}
use Rattle.committed_log.specs.declared.unlawful.RowFault.{RowFault}
use Rattle.committed_log.specs.declared.unlawful.Unlawful.{Unlawful}
use Rattle.committed_log.specs.declared.unlawful.Unlawful.TheVariants as unlawful
use Rattle.committed_log.specs.Lawful.{IsLawful}
use Rattle.committed_log.specs.Log.{Log, at}
use Rattle.committed_log.specs.Regions.{region, range_of}
use Rattle.committed_log.specs.Store.{Store, after_change, after_entry, after_op, after_ops, cleared, committed_value, families_after, is_repeated, last_commit, value}
use Rattle.committed_log.proofs.Entries.{by_entries, ops_next}
use Rattle.committed_log.proofs.Faults.{both_none}

-- a value, where there is one, is a row
abbrev IsRow : List Column → Option (List ℕ) → Type 0
IsRow schema None = Unit {0}
IsRow schema (Some value) = row_fault_of schema value ≡ None

abbrev AreRows : List Column → List Commit → Type 0
AreRows schema cs = All (λ (c : Commit). IsRow schema c.value) cs

value_is_row : (schema : List Column) (o : Option (List ℕ)) (k : ℕ) → value_fault schema o k ≡ None → IsRow schema o
value_is_row schema None k e = tt {0}
value_is_row schema (Some value) k e = by (row_fault_of schema value) e
  where
    by : (o : Option RowFault) → option_map (of_row k) o ≡ None → o ≡ None
    by None h = refl
    by (Some f) h = cc h

-- the store after what an op means
abbrev made : ℕ → Store → Result (Option FamilyOp) OpFault → Store
made p s c = elim c [ Err fault ↦ s | Ok found ↦ elim found [ None ↦ s | Some c ↦ after_change p s c ] ]

module _ (schema : List Column) (p : ℕ) (s : Store) (k : ℕ) (old : AreRows schema s.commits) where
  put_is_row : (gone : Bool) (short long : Option (List ℕ)) → cond gone None (value_fault schema (committed_value gone short long) k) ≡ None → IsRow schema (committed_value gone short long)
  put_is_row true short long e = tt {0}
  put_is_row false short long e = value_is_row schema (committed_value false short long) k e

  more : (c : Commit) → IsRow schema c.value → AreRows schema (s.commits ++ c ∷ [])
  more c is = All-append (λ (c : Commit). IsRow schema c.value) s.commits (c ∷ []) old (All-cons (λ (c : Commit). IsRow schema c.value) c [] is (All-nil (λ (c : Commit). IsRow schema c.value)))

  after_is : (c : FamilyOp) → change_fault schema (last_commit s.commits) s.values k c ≡ None → AreRows schema (after_change p s c).commits
  after_is (change.Value h start bytes) e = old
  after_is (change.DropValue h start) e = old
  after_is (change.Lock h kind start) e = old
  after_is (change.Unlock h) e = old
  after_is (change.Write h ts start gone short) e = by (is_repeated (last_commit s.commits h) ts start gone) e
    where
      by : (b : Bool) → cond b None (option_or (backdated_fault (last_commit s.commits h) ts k) (cond gone None (value_fault schema (committed_value gone short (value s.values h start)) k))) ≡ None →
          AreRows schema (cond {A = Store} b s (record s { commits = s.commits ++ record { handle = h; ts = ts; start = start; value = committed_value gone short (value s.values h start); position = p } ∷ [] })).commits
      by true e = old
      by false e = more (record { handle = h; ts = ts; start = start; value = committed_value gone short (value s.values h start); position = p })
          (put_is_row gone short (value s.values h start) (both_none (backdated_fault (last_commit s.commits h) ts k) (cond gone None (value_fault schema (committed_value gone short (value s.values h start)) k)) e).1)

  abbrev fault_of : Result (Option FamilyOp) OpFault → Option Unlawful
  fault_of r = elim r [
    | Err fault ↦ elim fault [ BadKey ↦ Some (unlawful.Key k) | BadRecord ↦ Some (unlawful.Record k) ]
    | Ok found ↦ elim found [ None ↦ None | Some c ↦ change_fault schema (last_commit s.commits) s.values k c ]
  ]

  made_is : (c : Result (Option FamilyOp) OpFault) → fault_of c ≡ None → AreRows schema (made p s c).commits
  made_is (Err fault) e = old
  made_is (Ok None) e = old
  made_is (Ok (Some c)) e = after_is c e

ops_are : (table : ℤ) (schema : List Column) (range : HandleRange) (p : ℕ) (s : Store) (k : ℕ) (ops : List Op) → ops_fault_from table schema range p s k ops ≡ None → AreRows schema s.commits → AreRows schema (after_ops table range p s ops).commits
ops_are table schema range p s k [] e old = old
ops_are table schema range p s k (op ∷ ops) e old =
    let parts = both_none (op_fault table schema range s k op) (ops_fault_from table schema range p (after_op table range p s op) (suc k) ops) e in
    ops_are table schema range p (after_op table range p s op) (suc k) ops parts.1 (made_is schema p s k old (change_of table range op) parts.0)

cleared_are : (schema : List Column) (range : HandleRange) (s : Store) → AreRows schema s.commits → AreRows schema (cleared range s).commits
cleared_are schema range s old = All-filter (λ (c : Commit). not (holds range c.handle)) (λ (c : Commit). IsRow schema c.value) s.commits old

module _ (table : ℤ) (schema : List Column) (p : ℕ) (s : Store) (old : AreRows schema s.commits) where
  abbrev fault_in : Body → Option HandleRange → Option Unlawful
  fault_in (body.Write ops) there = elim there [ None ↦ None | Some range ↦ ops_fault_from table schema range p s 0 ops ]
  fault_in (body.Install conf_ver version low high ops) there = let range : HandleRange = record { low = low; high = high } in ops_fault_from table schema range p (cleared range s) 0 ops
  fault_in _ there = None

  installed : (range : HandleRange) (ops : List Op) → ops_fault_from table schema range p (cleared range s) 0 ops ≡ None → AreRows schema (after_ops table range p (cleared range s) ops).commits
  installed range ops e = ops_are table schema range p (cleared range s) 0 ops e (cleared_are schema range s old)

  families_are : (there : Option HandleRange) (b : Body) → fault_in b there ≡ None → AreRows schema (families_after table p there b s).commits
  families_are (Some range) (body.Write ops) e = ops_are table schema range p s 0 ops e old
  families_are (Some range) body.Remove e = cleared_are schema range s old
  families_are (Some range) (body.Install conf_ver version low high ops) e = installed (record { low = low; high = high }) ops e
  families_are None (body.Install conf_ver version low high ops) e = installed (record { low = low; high = high }) ops e
  families_are (Some range) (body.Open conf_ver version low high) e = old
  families_are (Some range) (body.Split middle child) e = old
  families_are (Some range) (body.Prepare target) e = old
  families_are (Some range) (body.Commit source) e = old
  families_are (Some range) body.Empty e = old
  families_are None (body.Open conf_ver version low high) e = old
  families_are None (body.Write ops) e = old
  families_are None (body.Split middle child) e = old
  families_are None (body.Prepare target) e = old
  families_are None (body.Commit source) e = old
  families_are None body.Remove e = old
  families_are None body.Empty e = old

  fault_is : (r : ℕ) (b : Body) → ops_fault table schema p s r b ≡ None → fault_in b (range_of (region s.regions r)) ≡ None
  fault_is r (body.Write ops) e = e
  fault_is r (body.Install conf_ver version low high ops) e = e
  fault_is r body.Remove e = refl
  fault_is r (body.Open conf_ver version low high) e = refl
  fault_is r (body.Split middle child) e = refl
  fault_is r (body.Prepare target) e = refl
  fault_is r (body.Commit source) e = refl
  fault_is r body.Empty e = refl

  entry_is : (e : Entry) → ops_fault table schema p s e.region e.body ≡ None → AreRows schema (after_entry table p s e).commits
  entry_is e fine = families_are (range_of (region s.regions e.region)) e.body (fault_is e.region e.body fine)

are_rows_at : (log : Log) → IsLawful log → (p : ℕ) → AreRows log.schema (at log p).commits
are_rows_at log lawful p = by_entries log (λ p s. AreRows log.schema s.commits) (All-nil (λ (c : Commit). IsRow log.schema c.value)) (λ p e is old. entry_is log.table log.schema p (at log p) old e (ops_next log p e is lawful)) (λ p s old. old) p

pub committed_is_row : (log : Log) → IsLawful log → (p : ℕ) (c : Commit) → Contains (at log p).commits c → (value : List ℕ) → c.value ≡ Some value → row_fault_of log.schema value ≡ None
committed_is_row log lawful p c there value is = subst (IsRow log.schema) is (All-contains (λ (c : Commit). IsRow log.schema c.value) (at log p).commits c (are_rows_at log lawful p) there)
