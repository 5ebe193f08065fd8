-- The look-up tables stay those of the store, change by change, and can be taken back.
use Rattle.std.proofs.Common.{◌≡◌, ◌∙◌, refl, sym, ap, subst, ℕ, ℤ, Bool, true, false, cond, List, Option, Some}
use Rattle.std.specs.Cmp.{int_cmp_total}
use Rattle.std.specs.Ordering.{int_cmp, nat_cmp}
use Rattle.std.specs.BTreeMap.{get, is_at}
use Rattle.std.specs.Map.{lookup}
use Rattle.std.proofs.lemmas.Map.Lookups.{CmpEqualImpliesEq, exact_pairs, exact_signed, exact_unsigned}
use Rattle.committed_log.specs.Families.{Holds, Returns, PutsValue, PutsLast, IsSameBut, IsSettled, held, undone, undo_one, CanUndo}
use Rattle.committed_log.specs.Store.{Store, value, value_cmp, last_commit}
use Rattle.committed_log.specs.declared.families.Families.{Families}
use Rattle.committed_log.specs.declared.op.LastCommit.{LastCommit}
use Rattle.committed_log.proofs.Maps.{Rise}
use Rattle.committed_log.proofs.Sorted.{value_cmp_total}
use Rattle.committed_log.proofs.Undo.{undone-push, can_push, is_there, back_one}

pub value_exact : CmpEqualImpliesEq value_cmp
value_exact = exact_pairs int_cmp nat_cmp exact_signed exact_unsigned

pub held_cond : (b : Bool) (v : Option (List ℕ)) (o : Option (Option (List ℕ))) → held (cond b (Some v) o) ≡ cond b v (held o)
held_cond true v o = refl
held_cond false v o = refl

-- nothing is to be taken back
pub returns_settled : (f : Families) (s : Store) → IsSettled f → Holds f s → Returns f s
returns_settled f s settled holds = record {
  can_values = subst (λ us. CanUndo value_cmp us (get value_cmp f.values)) (sym settled.values) tt;
  can_last = subst (λ us. CanUndo int_cmp us (get int_cmp f.last)) (sym settled.last) tt;
  values = λ h start. ap (λ us. held (undone value_cmp us (get value_cmp f.values) (h, start))) settled.values ∙ holds.values h start;
  last = λ h. ap (λ us. undone int_cmp us (get int_cmp f.last) h) settled.last ∙ holds.last h;
  ordered = holds.ordered;
}

-- all was taken back
pub holds_returned : (f : Families) (s : Store) → IsSettled f → Returns f s → Holds f s
holds_returned f s settled returns = record {
  values = λ h start. ap (λ us. held (undone value_cmp us (get value_cmp f.values) (h, start))) (sym settled.values) ∙ returns.values h start;
  last = λ h. ap (λ us. undone int_cmp us (get int_cmp f.last) h) (sym settled.last) ∙ returns.last h;
  ordered = returns.ordered;
}

module _ (f g : Families) (w : Store) where
  pub returns_same : IsSameBut f g → Returns f w → Returns g w
  returns_same same returns = record {
    can_values = subst (λ es. CanUndo value_cmp g.values_undo.items (λ q. lookup (is_at (value_cmp q)) es)) (sym same.values) (subst (λ us. CanUndo value_cmp us (get value_cmp f.values)) (sym same.values_undo) returns.can_values);
    can_last = subst (λ es. CanUndo int_cmp g.last_undo.items (λ q. lookup (is_at (int_cmp q)) es)) (sym same.last) (subst (λ us. CanUndo int_cmp us (get int_cmp f.last)) (sym same.last_undo) returns.can_last);
    values = λ h start. (λ i. held (undone value_cmp (same.values_undo i) (λ q. lookup (is_at (value_cmp q)) (same.values i)) (h, start))) ∙ returns.values h start;
    last = λ h. (λ i. undone int_cmp (same.last_undo i) (λ q. lookup (is_at (int_cmp q)) (same.last i)) h) ∙ returns.last h;
    ordered = returns.ordered;
  }

  module _ (k : ℤ × ℕ) (v : Option (List ℕ)) (puts : PutsValue f g k v) where
    value_back : undo_one value_cmp (k, get value_cmp f.values k) (get value_cmp g.values) ≡ get value_cmp f.values
    value_back = back_one value_cmp value_cmp_total value_exact (get value_cmp f.values) (get value_cmp g.values) k v puts.values

    pub returns_value : Returns f w → Returns g w
    returns_value returns = record {
      can_values = subst (λ us. CanUndo value_cmp us (get value_cmp g.values)) (sym puts.values_undo)
          (can_push value_cmp f.values_undo.items (k, get value_cmp f.values k) (get value_cmp g.values) (is_there value_cmp value_cmp_total value_exact (get value_cmp f.values) (get value_cmp g.values) k v puts.values)
          (subst (λ m. CanUndo value_cmp f.values_undo.items m) (sym value_back) returns.can_values));
      can_last = subst (λ es. CanUndo int_cmp g.last_undo.items (λ q. lookup (is_at (int_cmp q)) es)) (sym puts.last) (subst (λ us. CanUndo int_cmp us (get int_cmp f.last)) (sym puts.last_undo) returns.can_last);
      values = λ h start. ap held (ap (λ us. undone value_cmp us (get value_cmp g.values) (h, start)) puts.values_undo
          ∙ ap (λ m. m (h, start)) (undone-push value_cmp f.values_undo.items (k, get value_cmp f.values k) (get value_cmp g.values))
          ∙ ap (λ m. undone value_cmp f.values_undo.items m (h, start)) value_back) ∙ returns.values h start;
      last = λ h. (λ i. undone int_cmp (puts.last_undo i) (λ q. lookup (is_at (int_cmp q)) (puts.last i)) h) ∙ returns.last h;
      ordered = returns.ordered;
    }

    -- the store after it has the value at the place, and else what it had
    pub holds_value : (s t : Store) → Holds f s → Rise value_cmp t.values → t.commits ≡ s.commits → ((h : ℤ) (start : ℕ) → value t.values h start ≡ cond (is_at (value_cmp k) (h, start)) v (value s.values h start)) → Holds g t
    holds_value s t holds sorted commits is = record {
      values = λ h start. ap held (puts.values (h, start)) ∙ held_cond (is_at (value_cmp k) (h, start)) v (get value_cmp f.values (h, start)) ∙ ap (cond (is_at (value_cmp k) (h, start)) v) (holds.values h start) ∙ sym (is h start);
      last = λ h. ap (λ es. lookup (is_at (int_cmp h)) es) puts.last ∙ holds.last h ∙ ap (λ cs. last_commit cs h) (sym commits);
      ordered = sorted;
    }

  module _ (k : ℤ) (c : LastCommit) (puts : PutsLast f g k c) where
    last_back : undo_one int_cmp (k, get int_cmp f.last k) (get int_cmp g.last) ≡ get int_cmp f.last
    last_back = back_one int_cmp int_cmp_total exact_signed (get int_cmp f.last) (get int_cmp g.last) k c puts.last

    pub returns_last : Returns f w → Returns g w
    returns_last returns = record {
      can_last = subst (λ us. CanUndo int_cmp us (get int_cmp g.last)) (sym puts.last_undo)
          (can_push int_cmp f.last_undo.items (k, get int_cmp f.last k) (get int_cmp g.last) (is_there int_cmp int_cmp_total exact_signed (get int_cmp f.last) (get int_cmp g.last) k c puts.last)
          (subst (λ m. CanUndo int_cmp f.last_undo.items m) (sym last_back) returns.can_last));
      can_values = subst (λ es. CanUndo value_cmp g.values_undo.items (λ q. lookup (is_at (value_cmp q)) es)) (sym puts.values) (subst (λ us. CanUndo value_cmp us (get value_cmp f.values)) (sym puts.values_undo) returns.can_values);
      last = λ h. ap (λ us. undone int_cmp us (get int_cmp g.last) h) puts.last_undo
          ∙ ap (λ m. m h) (undone-push int_cmp f.last_undo.items (k, get int_cmp f.last k) (get int_cmp g.last))
          ∙ ap (λ m. undone int_cmp f.last_undo.items m h) last_back ∙ returns.last h;
      values = λ h start. (λ i. held (undone value_cmp (puts.values_undo i) (λ q. lookup (is_at (value_cmp q)) (puts.values i)) (h, start))) ∙ returns.values h start;
      ordered = returns.ordered;
    }

    pub holds_last : (s t : Store) → Holds f s → Rise value_cmp t.values → t.values ≡ s.values → ((h : ℤ) → last_commit t.commits h ≡ cond (is_at (int_cmp k) h) (Some c) (last_commit s.commits h)) → Holds g t
    holds_last s t holds sorted values is = record {
      values = λ h start. ap (λ es. held (lookup (is_at (value_cmp (h, start))) es)) puts.values ∙ holds.values h start ∙ ap (λ vs. value vs h start) (sym values);
      last = λ h. puts.last h ∙ ap (cond (is_at (int_cmp k) h) (Some c)) (holds.last h) ∙ sym (is h);
      ordered = sorted;
    }
