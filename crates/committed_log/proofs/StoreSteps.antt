-- What a store looks up after a change.
use Rattle.std.proofs.Common.{◌≡◌, ◌∙◌, refl, sym, ap, subst, ℕ, ℤ, Bool, true, false, cond, List, [], ◌∷◌, ◌++◌, Option, Some, None, is_none}
use Rattle.std.specs.Ordering.{int_eq, is_eq}
use Rattle.std.specs.BTreeMap.{get, insert_entry, is_at}
use Rattle.std.specs.Map.{remove_entry, keys_of}
use Rattle.std.proofs.lemmas.Cmp.{eq_by_cmp_equiv}
use Rattle.std.proofs.lemmas.Map.{lookup-remove_entry}
use Rattle.std.proofs.lemmas.Map.Keys.{IsDistinct-from_sorted}
use Rattle.committed_log.specs.Admission.{backdated_fault}
use Rattle.committed_log.specs.Families.{Holds, PutsValue, PutsLast, held}
use Rattle.committed_log.specs.Store.{Store, Commit, value, value_cmp, last_commit, after_change, is_repeated, committed_value}
use Rattle.committed_log.specs.declared.families.Families.{Families}
use Rattle.committed_log.specs.declared.op.LastCommit.{LastCommit}
use Rattle.committed_log.specs.declared.op.FamilyOp.{FamilyOp}
use Rattle.committed_log.specs.declared.op.FamilyOp.TheVariants as change
use Rattle.committed_log.proofs.LastCommits.{last_commit_push}
use Rattle.committed_log.proofs.FamilySteps.{value_exact, holds_value, holds_last}
use Rattle.committed_log.proofs.Maps.{Rise, Rise-insert_entry, Rise-remove_entry, lookup-insert_entry}
use Rattle.committed_log.proofs.Sorted.{value_cmp_total}
use Rattle.committed_log.proofs.Undo.{equal_is, turned_eq}

-- which key is asked makes no difference
turned : (a b : ℤ × ℕ) → is_at (value_cmp a) b ≡ is_at (value_cmp b) a
turned a b = ap is_eq (value_cmp_total.antisymm a b) ∙ turned_eq (value_cmp b a)

pub value_put : (values : List ((ℤ × ℕ) × List ℕ)) (k : ℤ × ℕ) (bytes : List ℕ) (h : ℤ) (start : ℕ) → value (insert_entry value_cmp values k bytes) h start ≡ cond (is_at (value_cmp k) (h, start)) (Some bytes) (value values h start)
value_put values k bytes h start = lookup-insert_entry value_cmp_total values k bytes (h, start) ∙ ap (λ b. cond b (Some bytes) (value values h start)) (turned (h, start) k)

pub value_taken : (s : Store) → Rise value_cmp s.values → (k : ℤ × ℕ) (h : ℤ) (start : ℕ) → value (remove_entry (is_at (value_cmp k)) s.values) h start ≡ cond (is_at (value_cmp k) (h, start)) None (value s.values h start)
value_taken s sorted k h start = lookup-remove_entry (eq_by_cmp_equiv value_cmp_total) (is_at (value_cmp k)) (λ x y t. ap is_eq (value_cmp_total.congr k x y (equal_is (value_cmp k x) t))) (h, start) s.values (IsDistinct-from_sorted value_cmp (keys_of s.values) sorted)

-- where there is none
pub value_absent : (s : Store) → Rise value_cmp s.values → (k : ℤ × ℕ) → value s.values k.0 k.1 ≡ None → (h : ℤ) (start : ℕ) → value (remove_entry (is_at (value_cmp k)) s.values) h start ≡ value s.values h start
value_absent s sorted k none h start = value_taken s sorted k h start ∙ elim (is_at (value_cmp k) (h, start)) as (λ b. is_at (value_cmp k) (h, start) ≡ b → cond b None (value s.values h start) ≡ value s.values h start) [
  | true ↦ λ is. sym none ∙ ap (λ q. value s.values q.0 q.1) (value_exact k (h, start) (equal_is (value_cmp k (h, start)) is))
  | false ↦ λ is. refl
] refl

-- whether a change is of the lock family, which admission doesn't look at
abbrev pub is_of_lock : FamilyOp → Bool
is_of_lock (change.Lock h kind start) = true
is_of_lock (change.Unlock h) = true
is_of_lock _ = false

module _ (f g : Families) (s : Store) (holds : Holds f s) where
  pub holds_lock : (c : FamilyOp) → is_of_lock c ≡ true → (p : ℕ) → Holds f (after_change p s c)
  holds_lock (change.Lock h kind start) e p = record { values = holds.values; last = holds.last; ordered = holds.ordered }
  holds_lock (change.Unlock h) e p = record { values = holds.values; last = holds.last; ordered = holds.ordered }
  holds_lock (change.Value h start bytes) e p = cc e
  holds_lock (change.DropValue h start) e p = cc e
  holds_lock (change.Write h ts start gone short) e p = cc e

  pub holds_put : (h : ℤ) (start : ℕ) (bytes : List ℕ) → PutsValue f g (h, start) (Some bytes) → (p : ℕ) → Holds g (after_change p s (change.Value h start bytes))
  holds_put h start bytes puts p = holds_value f g s (h, start) (Some bytes) puts s (after_change p s (change.Value h start bytes)) holds (Rise-insert_entry value_cmp_total s.values (h, start) bytes holds.ordered) refl (value_put s.values (h, start) bytes)

  pub holds_taken : (h : ℤ) (start : ℕ) → PutsValue f g (h, start) None → (p : ℕ) → Holds g (after_change p s (change.DropValue h start))
  holds_taken h start puts p = holds_value f g s (h, start) None puts s (after_change p s (change.DropValue h start)) holds (Rise-remove_entry value_cmp (is_at (value_cmp (h, start))) s.values holds.ordered) refl (value_taken s holds.ordered (h, start))

  pub holds_absent : (h : ℤ) (start : ℕ) → held (get value_cmp f.values (h, start)) ≡ None → (p : ℕ) → Holds f (after_change p s (change.DropValue h start))
  holds_absent h start none p = record {
    values = λ q at. holds.values q at ∙ sym (value_absent s holds.ordered (h, start) (sym (holds.values h start) ∙ none) q at);
    last = holds.last;
    ordered = Rise-remove_entry value_cmp (is_at (value_cmp (h, start))) s.values holds.ordered;
  }

  -- a commit that isn't backdated and says nothing again
  pub holds_commit : (h : ℤ) (c : LastCommit) (short : Option (List ℕ)) (k : ℕ) → PutsLast f g h c → is_repeated (last_commit s.commits h) c.ts c.start c.gone ≡ false → backdated_fault (last_commit s.commits h) c.ts k ≡ None
      → is_none (committed_value c.gone short (value s.values h c.start)) ≡ c.gone → (p : ℕ) → Holds g (after_change p s (change.Write h c.ts c.start c.gone short))
  holds_commit h c short k puts fresh newer valued p =
      subst (λ (t : Store). Holds g t) (sym (ap (λ b. cond b s more) fresh))
      (holds_last f g s h c puts s more holds holds.ordered refl
      (λ q. last_commit_push s.commits new k newer q ∙ ap (λ gone. cond (int_eq h q) (Some (record { ts = c.ts; start = c.start; gone = gone })) (last_commit s.commits q)) valued))
    where
      new : Commit
      new = record { handle = h; ts = c.ts; start = c.start; value = committed_value c.gone short (value s.values h c.start); position = p }

      more : Store
      more = record s { commits = s.commits ++ new ∷ [] }

  -- one that says again what the last one says
  pub holds_repeated : (h : ℤ) (ts start : ℕ) (gone : Bool) (short : Option (List ℕ)) → is_repeated (last_commit s.commits h) ts start gone ≡ true → (p : ℕ) → Holds f (after_change p s (change.Write h ts start gone short))
  holds_repeated h ts start gone short same p = subst (λ (t : Store). Holds f t) (sym (ap (λ b. cond b s (record s { commits = s.commits ++ record { handle = h; ts = ts; start = start; value = committed_value gone short (value s.values h start); position = p } ∷ [] })) same)) holds
