-- One entry more.
use Rattle.std.proofs.Common.{◌≡◌, ◌∙◌, sym, ap, subst, ℕ, ℤ, suc, ◌+◌, ◌≤◌, ◌^◌, List, [], ◌∷◌, ◌++◌, Some, None, length, arith, add-zero, slice_get, nat_lt, true}
use Rattle.std.proofs.lemmas.List.{take_all}
use Rattle.column_block.specs.declared.column.Column.{Column}
use Rattle.log_codec.specs.declared.entry.Entry.{Entry}
use Rattle.committed_log.specs.Admission.{fault_at}
use Rattle.committed_log.specs.Lawful.{AllAdmitted, AllWritable, IsLawful, IsWritable}
use Rattle.committed_log.specs.Laws.{AreBelow}
use Rattle.committed_log.specs.Log.{Log, at, end}
use Rattle.committed_log.specs.Numbers.{IsRoomy, AreRoomy}
use Rattle.committed_log.specs.Regions.{Region, Unborn, Live, Prepared, Gone, region}
use Rattle.committed_log.specs.Store.{Store, empty, after_entry, after_from, store_of}
use Rattle.committed_log.specs.Tables.{Follows}
use Rattle.committed_log.specs.declared.tables.Tables.{Tables}
use Rattle.committed_log.proofs.Bounds.{below_at}
use Rattle.committed_log.proofs.Entries.{head_next}

one_on : (p n : ℕ) → suc p + n ≡ p + suc n
one_on p n = omega arith

after_from_push : (table : ℤ) (p : ℕ) (s : Store) (es : List Entry) (e : Entry) → after_from table p s (es ++ e ∷ []) ≡ after_entry table (p + length es) (after_from table p s es) e
after_from_push table p s [] e = ap (λ q. after_entry table q s e) (sym (add-zero p))
after_from_push table p s (x ∷ es) e = after_from_push table (suc p) (after_entry table p s x) es e ∙ ap (λ q. after_entry table q (after_from table (suc p) (after_entry table p s x) es) e) (one_on p (length es))

admitted_push : (table : ℤ) (schema : List Column) (p : ℕ) (s : Store) (es : List Entry) (e : Entry) → AllAdmitted table schema p s es → fault_at table schema (p + length es) (after_from table p s es) e ≡ None → AllAdmitted table schema p s (es ++ e ∷ [])
admitted_push table schema p s [] e all h = (ap (λ q. fault_at table schema q s e) (sym (add-zero p)) ∙ h, tt)
admitted_push table schema p s (x ∷ es) e all h =
    (all.0, admitted_push table schema (suc p) (after_entry table p s x) es e all.1 (ap (λ q. fault_at table schema q (after_from table (suc p) (after_entry table p s x) es) e) (one_on p (length es)) ∙ h))

writable_push : (es : List Entry) (e : Entry) → AllWritable es → IsWritable e → AllWritable (es ++ e ∷ [])
writable_push [] e all h = (h, tt)
writable_push (x ∷ es) e all h = (all.0, writable_push es e all.1 h)

zero_plus : (n : ℕ) → 0 + n ≡ n
zero_plus n = omega arith

module _ (table : ℤ) (schema : List Column) (es : List Entry) (e : Entry) where
  pub store_push : store_of table (es ++ e ∷ []) ≡ after_entry table (length es) (store_of table es) e
  store_push = after_from_push table 0 empty es e ∙ ap (λ q. after_entry table q (store_of table es) e) (zero_plus (length es))

  pub lawful_push : IsLawful (record { table = table; schema = schema; entries = es }) → IsWritable e → fault_at table schema (length es) (store_of table es) e ≡ None → IsLawful (record { table = table; schema = schema; entries = es ++ e ∷ [] })
  lawful_push lawful form none = record {
    schema = lawful.schema;
    writable = writable_push es e lawful.writable form;
    admitted = admitted_push table schema 0 empty es e lawful.admitted (ap (λ q. fault_at table schema q (store_of table es) e) (zero_plus (length es)) ∙ none);
  }

-- ---- the numbers of the regions at the log's end

is_roomy : (n : ℕ) (s : Region) → n ≤ 2 ^ 20 → AreBelow (2 ^ 63) (2 ^ 62 + n) s → IsRoomy s
is_roomy n Unborn few h = tt
is_roomy n (Live d) few h = record { index = h.0; conf_ver = omega (arith, few, h.1.conf_ver); version = omega (arith, few, h.1.version) }
is_roomy n (Prepared d target) few h = record { index = h.0; conf_ver = omega (arith, few, h.1.conf_ver); version = omega (arith, few, h.1.version) }
is_roomy n (Gone index) few h = h

pub at_end : (log : Log) → at log (length log.entries) ≡ end log
at_end log = ap (store_of log.table) (take_all (length log.entries) log.entries (omega arith))

pub roomy_end : (log : Log) → IsLawful log → length log.entries ≤ 2 ^ 20 → AreRoomy (end log).regions
roomy_end log lawful few r = is_roomy (length log.entries) (region (end log).regions r) few (subst (λ (s : Store). AreBelow (2 ^ 63) (2 ^ 62 + length log.entries) (region s.regions r)) (at_end log) (below_at log lawful (length log.entries) r))

-- before each entry of a lawful log the numbers of all regions can be raised
pub roomy_at : (log : Log) → IsLawful log → (p : ℕ) (e : Entry) → slice_get log.entries p ≡ Some e → AreRoomy (at log p).regions
roomy_at log lawful p e is r = is_roomy p (region (at log p).regions r) (few p (head_next log p e is lawful).count) (below_at log lawful p r)
  where
    few : (n : ℕ) → nat_lt n (2 ^ 20) ≡ true → n ≤ 2 ^ 20
    few n h = grind (arith, h)

-- what a log and its look-up tables are, after an entry more
pub indexed_push : (table t : ℤ) (schema : List Column) (es earlier new : List Entry) (e : Entry) (tables : Tables) → t ≡ table → earlier ≡ es → new ≡ es ++ e ∷ [] →
    IsLawful (record { table = table; schema = schema; entries = es }) → IsWritable e → fault_at t schema (length earlier) (store_of t earlier) e ≡ None → Follows tables (after_entry t (length earlier) (store_of t earlier) e) →
    IsLawful (record { table = table; schema = schema; entries = new }) × Follows tables (store_of table new)
indexed_push table t schema es earlier new e tables et ee en lawful form none follows = (
  subst (λ (x : List Entry). IsLawful (record { table = table; schema = schema; entries = x })) (sym en)
      (lawful_push table schema es e lawful form (sym (λ i. fault_at (et i) schema (length (ee i)) (store_of (et i) (ee i)) e) ∙ none)),
  subst (λ (s : Store). Follows tables s) ((λ i. after_entry (et i) (length (ee i)) (store_of (et i) (ee i)) e) ∙ sym (store_push table schema es e) ∙ ap (store_of table) (sym en)) follows,
)
