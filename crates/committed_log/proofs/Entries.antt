-- The entry at a position takes the store there to the next one, and in a lawful log it has no fault.
use Rattle.std.proofs.Common.{◌≡◌, ◌∙◌, refl, sym, ap, subst, ℕ, zero, suc, ◌+◌, ℤ, List, [], ◌∷◌, Option, Some, None, take, slice_get, arith}
use Rattle.column_block.specs.declared.column.Column.{Column}
use Rattle.log_codec.specs.declared.entry.Entry.{Entry}
use Rattle.committed_log.specs.Admission.{fault_at, head_fault, ops_fault}
use Rattle.committed_log.specs.Lawful.{IsLawful, IsWritable, AllAdmitted, AllWritable}
use Rattle.committed_log.specs.Log.{Log, at}
use Rattle.committed_log.specs.Regions.{regions_after}
use Rattle.committed_log.specs.Store.{Store, empty, after_entry, after_from}
use Rattle.committed_log.proofs.Faults.{both_none, IsFine, head_is_fine}

pub none_of_nil : {X : Type 0} (p : ℕ) → slice_get {X = X} [] p ≡ None
none_of_nil zero = refl
none_of_nil (suc p) = refl

take_nil : {X : Type 0} (p : ℕ) → take {A = X} p [] ≡ []
take_nil zero = refl
take_nil (suc p) = refl

one_on : (q p : ℕ) → suc q + p ≡ q + suc p
one_on q p = omega arith

one_off : (q : ℕ) → q ≡ q + 0
one_off q = omega arith

some_is : {x y : Entry} → Some x ≡ Some y → x ≡ y
some_is e = cc e

after_next : (table : ℤ) (q : ℕ) (s : Store) (es : List Entry) (p : ℕ) (e : Entry) → slice_get es p ≡ Some e → after_from table q s (take (suc p) es) ≡ after_entry table (q + p) (after_from table q s (take p es)) e
after_next table q s [] p e is = cc (sym (none_of_nil p) ∙ is)
after_next table q s (x ∷ es) zero e is = (λ i. after_entry table (one_off q i) s (some_is is i))
after_next table q s (x ∷ es) (suc p) e is = after_next table (suc q) (after_entry table q s x) es p e is ∙ ap (λ n. after_entry table n (after_from table (suc q) (after_entry table q s x) (take p es)) e) (one_on q p)

after_past : {X : Type 0} (es : List X) (p : ℕ) → slice_get es p ≡ None → take (suc p) es ≡ take p es
after_past [] p is = sym (take_nil p)
after_past (x ∷ es) zero is = cc is
after_past (x ∷ es) (suc p) is = ap (λ rest. x ∷ rest) (after_past es p is)

admitted_next : (table : ℤ) (schema : List Column) (q : ℕ) (s : Store) (es : List Entry) (p : ℕ) (e : Entry) → AllAdmitted table schema q s es → slice_get es p ≡ Some e → fault_at table schema (q + p) (after_from table q s (take p es)) e ≡ None
admitted_next table schema q s [] p e all is = cc (sym (none_of_nil p) ∙ is)
admitted_next table schema q s (x ∷ es) zero e all is = (λ i. fault_at table schema (sym (one_off q) i) s (sym (some_is is) i)) ∙ all.0
admitted_next table schema q s (x ∷ es) (suc p) e all is = ap (λ n. fault_at table schema n (after_from table (suc q) (after_entry table q s x) (take p es)) e) (sym (one_on q p)) ∙ admitted_next table schema (suc q) (after_entry table q s x) es p e all.1 is

writable_next : (es : List Entry) (p : ℕ) (e : Entry) → AllWritable es → slice_get es p ≡ Some e → IsWritable e
writable_next [] p e all is = cc (sym (none_of_nil p) ∙ is)
writable_next (x ∷ es) zero e all is = subst IsWritable (some_is is) all.0
writable_next (x ∷ es) (suc p) e all is = writable_next es p e all.1 is

module _ (log : Log) (p : ℕ) where
  zero_on : 0 + p ≡ p
  zero_on = omega arith

  -- past the end nothing changes
  pub at_past : slice_get log.entries p ≡ None → at log (suc p) ≡ at log p
  at_past is = ap (after_from log.table 0 empty) (after_past log.entries p is)

  module _ (e : Entry) (is : slice_get log.entries p ≡ Some e) where
    pub at_next : at log (suc p) ≡ after_entry log.table p (at log p) e
    at_next = after_next log.table 0 empty log.entries p e is ∙ ap (λ n. after_entry log.table n (at log p) e) zero_on

    pub regions_next : (at log (suc p)).regions ≡ regions_after (at log p).regions e
    regions_next = ap (λ (s : Store). s.regions) at_next

    module _ (lawful : IsLawful log) where
      pub fault_next : fault_at log.table log.schema p (at log p) e ≡ None
      fault_next = ap (λ n. fault_at log.table log.schema n (at log p) e) (sym zero_on) ∙ admitted_next log.table log.schema 0 empty log.entries p e lawful.admitted is

      pub head_next : IsFine p (at log p).regions e
      head_next = head_is_fine p (at log p).regions e (both_none (head_fault p (at log p).regions e) (ops_fault log.table log.schema p (at log p) e.region e.body) fault_next).0

      pub ops_next : ops_fault log.table log.schema p (at log p) e.region e.body ≡ None
      ops_next = (both_none (head_fault p (at log p).regions e) (ops_fault log.table log.schema p (at log p) e.region e.body) fault_next).1

      pub form_next : IsWritable e
      form_next = writable_next log.entries p e lawful.writable is

-- what holds of the store at each position: at the first, and then by each entry
pub by_entries : (log : Log) (P : ℕ → Store → Type 0) → P 0 empty → ((p : ℕ) (e : Entry) → slice_get log.entries p ≡ Some e → P p (at log p) → P (suc p) (after_entry log.table p (at log p) e)) → ((p : ℕ) (s : Store) → P p s → P (suc p) s) → (p : ℕ) → P p (at log p)
by_entries log P first next past zero = first
by_entries log P first next past (suc p) = by (slice_get log.entries p) refl (by_entries log P first next past p)
  where
    by : (o : Option Entry) → slice_get log.entries p ≡ o → P p (at log p) → P (suc p) (at log (suc p))
    by None is rest = subst (P (suc p)) (sym (at_past log p is)) (past p (at log p) rest)
    by (Some e) is rest = subst (P (suc p)) (sym (at_next log p e is)) (next p e is rest)
