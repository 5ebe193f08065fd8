-- Puts in a map that are taken back leave it as it was.
use Rattle.std.proofs.Common.{◌≡◌, ◌∙◌, refl, sym, ap, subst, ℕ, ℤ, ◌<◌, ◌≤◌, ◌+◌, Bool, true, false, true≢false, cond, if◌then◌else◌, List, [], ◌∷◌, ◌++◌, length, take, drop, get_or, Option, Some, None, is_some}
use Rattle.std.specs.Cmp.{IsTotalOrder}
use Rattle.std.specs.declared.cmp.Ordering.{Ordering}
use Rattle.std.specs.BTreeMap.{insert_entry, is_at}
use Rattle.std.specs.List.{list_all}
use Rattle.std.specs.Map.{lookup}
use Rattle.std.proofs.lemmas.List.{take-append-drop}
use Rattle.std.proofs.lemmas.List.Folds.{list_all_at}
use Rattle.std.proofs.lemmas.List.Sums.{fold-append}
use Rattle.std.proofs.lemmas.Map.Lookups.{CmpEqualImpliesEq}
use Rattle.committed_log.proofs.Maps.{Rise, Rise-insert_entry, lookup-insert_entry}
use Rattle.committed_log.proofs.Undo.{equal_is}
use Rattle.committed_log.specs.Store.{Store}
use Rattle.committed_log.specs.declared.op.FamilyOp.{FamilyOp}
use Rattle.committed_log.specs.declared.store.Lock.{Lock}
use Rattle.region_state.specs.Folding.{after_one, after_all}
use Rattle.region_state.specs.Standing.{AreOf}
use Rattle.region_state.specs.Settling.{CanSettle, settle_step}
use Rattle.region_state.specs.Undoing.{undone, CanUndo, LeadsBack}
use Rattle.region_state.proofs.Folds.{same_lists}
use Rattle.region_state.proofs.Planning.{all_more, all_done}
use Rattle.region_state.proofs.Settling.{step_look, step_rise, itself}

-- ---- puts one after the other: the last are taken back first

module _ {K X : Type 0} (R : K → K → Ordering) (es : List (K × X)) (later : List (K × Option X)) where
  pub undone_append : (puts : List (K × Option X)) → undone R es (puts ++ later) ≡ undone R (undone R es later) puts
  undone_append [] = refl
  undone_append (e ∷ puts) = ap (λ fs. settle_step R fs e) (undone_append puts)

  pub can_append : (puts : List (K × Option X)) → CanUndo R es later → CanUndo R (undone R es later) puts → CanUndo R es (puts ++ later)
  can_append [] last can = last
  can_append (e ∷ puts) last can = (subst (λ fs. CanSettle R fs e) (sym (undone_append puts)) can.0, can_append puts last can.1)

  pub can_first : (puts : List (K × Option X)) → CanUndo R es (puts ++ later) → CanUndo R (undone R es later) puts
  can_first [] can = tt
  can_first (e ∷ puts) can = (subst (λ fs. CanSettle R fs e) (undone_append puts) can.0, can_first puts can.1)

  pub can_last : (puts : List (K × Option X)) → CanUndo R es (puts ++ later) → CanUndo R es later
  can_last [] can = can
  can_last (e ∷ puts) can = can_last puts can.1

-- ---- one put

module _ {K X : Type 0} {R : K → K → Ordering} (o : IsTotalOrder R) (exact : CmpEqualImpliesEq R) where
  abbrev look : List (K × X) → K → Option X
  look es q = lookup (is_at (R q)) es

  module _ (es : List (K × X)) (k : K) (v : X) (rise : Rise R es) where
    abbrev after : List (K × X)
    after = insert_entry R es k v

    same_look : (q : K) (b : Bool) → is_at (R q) k ≡ b → cond b (look es k) (cond b (Some v) (look es q)) ≡ look es q
    same_look q true is = ap (look es) (sym (exact q k (equal_is (R q k) is)))
    same_look q false is = refl

    put_back : settle_step R after (k, look es k) ≡ es
    put_back = same_lists o exact (settle_step R after (k, look es k)) es (step_rise o after k (look es k) (Rise-insert_entry o es k v rise)) rise
        (λ q. step_look o after k (look es k) q (Rise-insert_entry o es k v rise) ∙ ap (cond (is_at (R q) k) (look es k)) (lookup-insert_entry o es k v q) ∙ same_look q (is_at (R q) k) refl)

    can_put_back : (u : Option X) → CanSettle R after (k, u)
    can_put_back None = tt
    can_put_back (Some w) = ap is_some (lookup-insert_entry o es k v k ∙ ap (λ b. cond b (Some v) (look es k)) (itself o k))

    pub put_leads_back : (was : List (K × X)) (puts : List (K × Option X)) → LeadsBack K X R es was puts → LeadsBack K X R after was (puts ++ (k, look es k) ∷ [])
    put_leads_back was puts back = record {
      can = can_append R after ((k, look es k) ∷ []) puts (can_put_back (look es k), tt) (subst (λ fs. CanUndo R fs puts) (sym put_back) back.can);
      undone = undone_append R after ((k, look es k) ∷ []) puts ∙ ap (λ fs. undone R fs puts) put_back ∙ back.undone;
    }

    pub leads_back : (now was : List (K × X)) (puts noted : List (K × Option X)) → now ≡ insert_entry R es k v → noted ≡ puts ++ (k, look es k) ∷ [] → LeadsBack K X R es was puts → LeadsBack K X R now was noted
    leads_back now was puts noted is notes back = subst (λ ps. LeadsBack K X R now was ps) (sym notes) (subst (λ fs. LeadsBack K X R fs was (puts ++ (k, look es k) ∷ [])) (sym is) (put_leads_back was puts back))

-- ---- lists of changes

pub each_passes : {X : Type 0} (p : X → Bool) (xs : List X) (i : ℕ) (x : X) → list_all p xs ≡ true → i < length xs → x ≡ get_or xs i x → p x ≡ true
each_passes p xs i x all here is = by (p x) refl
  where
    by : (b : Bool) → p x ≡ b → p x ≡ true
    by true passes = passes
    by false fails = absurd (true≢false (sym all ∙ list_all_at p xs i x here (sym (ap p is) ∙ fails)))

module _ (s : Store) (ops : List FamilyOp) where
  -- the changes from one on, after those before it
  pub rest_after : (k : ℕ) → after_all (after_all s (take k ops)) (drop k ops) ≡ after_all s ops
  rest_after k = sym (fold-append after_one s (take k ops) (drop k ops)) ∙ ap (after_all s) (take-append-drop k ops)

  module _ (values : List ((ℤ × ℕ) × List ℕ)) (locks : List (ℤ × Lock)) where
    pub are_more : (k : ℕ) (op : FamilyOp) → k < length ops → op ≡ get_or ops k op → AreOf (after_one (after_all s (take k ops)) op) values locks → AreOf (after_all s (take (k + 1) ops)) values locks
    are_more k op here item are = subst (λ (t : Store). AreOf t values locks) (sym (all_more s ops k op here item)) are

    pub are_done : (k : ℕ) → length ops ≤ k → AreOf (after_all s (take k ops)) values locks → AreOf (after_all s ops) values locks
    are_done k done are = subst (λ (t : Store). AreOf t values locks) (all_done s ops k done) are

module _ (s t : Store) (values : List ((ℤ × ℕ) × List ℕ)) (locks : List (ℤ × Lock)) where
  pub are_made : (b : Bool) → b ≡ true → AreOf (if b then s else t) values locks → AreOf s values locks
  are_made b is = subst (λ c. AreOf (if c then s else t) values locks) is

  pub are_not_made : (b : Bool) → b ≡ false → AreOf (if b then s else t) values locks → AreOf t values locks
  are_not_made b is = subst (λ c. AreOf (if c then s else t) values locks) is
