-- The families after all changes.
use Rattle.std.proofs.Common.{◌≡◌, ◌∙◌, refl, sym, ap, ℕ, ℤ, Bool, true, false, cond, List, [], ◌∷◌, Option, Some, None, unwrap_or}
use Rattle.std.specs.Cmp.{int_cmp_total}
use Rattle.std.specs.Ordering.{int_cmp, is_eq, ordering_reverse}
use Rattle.std.specs.BTreeMap.{BTreeMap, insert_entry, is_at, get}
use Rattle.std.specs.List.{list_all}
use Rattle.std.specs.List.Sorted.{IsStrictlySortedBy}
use Rattle.std.specs.Map.{lookup, remove_entry, keys_of}
use Rattle.flash_types.specs.Ranges.{holds}
use Rattle.flash_types.specs.declared.range.HandleRange.{HandleRange}
use Rattle.committed_log.specs.Store.{Store, value_cmp}
use Rattle.committed_log.specs.declared.op.FamilyOp.{FamilyOp}
use Rattle.committed_log.specs.declared.op.FamilyOp.TheVariants as change
use Rattle.committed_log.specs.declared.store.Lock.{Lock}
use Rattle.committed_log.proofs.Faults.{both_true}
use Rattle.committed_log.proofs.Maps.{Rise, Rise-insert_entry, Rise-remove_entry, lookup-insert_entry}
use Rattle.region_state.specs.Folding.{after_one, after_all, lies_in}
use Rattle.region_state.specs.Settling.{lock_change, lock_changes}
use Rattle.region_state.specs.Standing.{seen, Stands}
use Rattle.std.specs.Cmp.{IsTotalOrder}
use Rattle.std.specs.declared.cmp.Ordering.{Ordering}
use Rattle.std.specs.declared.cmp.Ordering.TheVariants.{Less, Equal, Greater}
use Rattle.std.proofs.lemmas.Cmp.{eq_by_cmp_equiv, tied_itself}
use Rattle.std.proofs.lemmas.Map.{lookup-none}
use Rattle.std.proofs.lemmas.Map.Entries.{lookup_head, lookup_tail, none_past_head, none_below_head}
use Rattle.std.proofs.lemmas.Map.Keys.{IsDistinct-from_sorted}
use Rattle.std.proofs.lemmas.Map.Lookups.{CmpEqualImpliesEq, exact_signed}
use Rattle.committed_log.proofs.FamilySteps.{value_exact}
use Rattle.committed_log.proofs.Sorted.{value_cmp_total}
use Rattle.region_state.specs.State.{IsWithin}
use Rattle.region_state.proofs.Lying.{kept_insert, kept_remove}
use Rattle.region_state.proofs.Settling.{step_look}

-- ---- locks

record Seen (base : List (ℤ × Lock)) (cs : List (ℤ × Option Lock)) (s : Store) : Type 0 where
  found : (h : ℤ) → lookup (is_at (int_cmp h)) s.locks ≡ seen (lookup (is_at (int_cmp h)) cs) (lookup (is_at (int_cmp h)) base)
  rise : Rise int_cmp s.locks

seen_cond : {X : Type 0} (b : Bool) (c : Option X) (o : Option (Option X)) (there : Option X) → cond b c (seen o there) ≡ seen (cond b (Some c) o) there
seen_cond true c o there = refl
seen_cond false c o there = refl

module _ (base : List (ℤ × Lock)) where
  noted : (cs : List (ℤ × Option Lock)) (s t : Store) (k : ℤ) (c : Option Lock) → Seen base cs s → ((h : ℤ) → lookup (is_at (int_cmp h)) t.locks ≡ cond (is_at (int_cmp h) k) c (lookup (is_at (int_cmp h)) s.locks)) → Rise int_cmp t.locks → Seen base (insert_entry int_cmp cs k c) t
  noted cs s t k c before is rise = record {
    found = λ h. is h ∙ ap (cond (is_at (int_cmp h) k) c) (before.found h) ∙ seen_cond (is_at (int_cmp h) k) c (lookup (is_at (int_cmp h)) cs) (lookup (is_at (int_cmp h)) base)
        ∙ sym (ap (λ o. seen o (lookup (is_at (int_cmp h)) base)) (lookup-insert_entry int_cmp_total cs k c h));
    rise = rise;
  }

  one_seen : (cs : List (ℤ × Option Lock)) (s : Store) (op : FamilyOp) → Seen base cs s → Seen base (lock_change cs op) (after_one s op)
  one_seen cs s (change.Lock h kind start) before = noted cs s _ h (Some (record { kind = kind; start = start })) before (λ q. step_look int_cmp_total s.locks h (Some (record { kind = kind; start = start })) q before.rise) (Rise-insert_entry int_cmp_total s.locks h _ before.rise)
  one_seen cs s (change.Unlock h) before = noted cs s _ h None before (λ q. step_look int_cmp_total s.locks h None q before.rise) (Rise-remove_entry int_cmp _ s.locks before.rise)
  one_seen cs s (change.Value h start bytes) before = record { found = before.found; rise = before.rise }
  one_seen cs s (change.DropValue h start) before = record { found = before.found; rise = before.rise }
  one_seen cs s (change.Write h ts start gone short) before = record { found = before.found; rise = before.rise }

  all_seen : (cs : List (ℤ × Option Lock)) (s : Store) (ops : List FamilyOp) → Seen base cs s → Seen base (Rattle.std.specs.List.fold lock_change cs ops) (after_all s ops)
  all_seen cs s [] before = before
  all_seen cs s (op ∷ ops) before = all_seen (lock_change cs op) (after_one s op) ops (one_seen cs s op before)

first_seen : (s : Store) → Rise int_cmp s.locks → Seen s.locks [] s
first_seen s rise = record { found = λ h. refl; rise = rise }

pub locks_found : (s : Store) (ops : List FamilyOp) → Rise int_cmp s.locks → (h : ℤ) → lookup (is_at (int_cmp h)) (after_all s ops).locks ≡ seen (lookup (is_at (int_cmp h)) (lock_changes ops)) (lookup (is_at (int_cmp h)) s.locks)
locks_found s ops rise = (all_seen s.locks [] s ops (first_seen s rise)).found

pub locks_rise : (s : Store) (ops : List FamilyOp) → Rise int_cmp s.locks → Rise int_cmp (after_all s ops).locks
locks_rise s ops rise = (all_seen s.locks [] s ops (first_seen s rise)).rise

-- ---- the range

module _ (range : HandleRange) where
  abbrev has : (ℤ × ℕ) → Bool
  has k = holds range k.0

  one_within : (s : Store) (op : FamilyOp) → lies_in range op ≡ true → IsWithin range s.values s.locks → IsWithin range (after_one s op).values (after_one s op).locks
  one_within s (change.Value h start bytes) lies w = record { all_values = kept_insert has value_cmp s.values (h, start) bytes lies w.all_values; all_locks = w.all_locks }
  one_within s (change.DropValue h start) lies w = record { all_values = kept_remove has (is_at (value_cmp (h, start))) s.values w.all_values; all_locks = w.all_locks }
  one_within s (change.Lock h kind start) lies w = record { all_values = w.all_values; all_locks = kept_insert (holds range) int_cmp s.locks h _ lies w.all_locks }
  one_within s (change.Unlock h) lies w = record { all_values = w.all_values; all_locks = kept_remove (holds range) (is_at (int_cmp h)) s.locks w.all_locks }
  one_within s (change.Write h ts start gone short) lies w = record { all_values = w.all_values; all_locks = w.all_locks }

  pub all_within : (s : Store) (ops : List FamilyOp) → list_all (lies_in range) ops ≡ true → IsWithin range s.values s.locks → IsWithin range (after_all s ops).values (after_all s ops).locks
  all_within s [] lie w = w
  all_within s (op ∷ ops) lie w = let both = both_true (lies_in range op) (list_all (lies_in range) ops) lie in all_within (after_one s op) ops both.1 (one_within s op both.0 w)

-- ---- the maps at the end

module _ {K X : Type 0} {R : K → K → Ordering} (o : IsTotalOrder R) (exact : CmpEqualImpliesEq R) where
  abbrev look : List (K × X) → K → Option X
  look es q = lookup (is_at (R q)) es

  at_head : (x : K × X) (xs : List (K × X)) → look (x ∷ xs) x.0 ≡ Some x.1
  at_head x xs = lookup_head (is_at (R x.0)) x xs (ap is_eq (tied_itself o x.0))

  past_head : (q : K) (x : K × X) (xs : List (K × X)) → Rise R (x ∷ xs) → is_at (R q) x.0 ≡ true → look xs q ≡ None
  past_head q x xs s is = lookup-none (is_at (R q)) xs (none_past_head (eq_by_cmp_equiv o) q x xs (IsDistinct-from_sorted R (keys_of (x ∷ xs)) s) is)

  rest_rises : (x : K × X) (xs : List (K × X)) → Rise R (x ∷ xs) → Rise R xs
  unfolding IsStrictlySortedBy
  rest_rises x xs s = s.1

  module _ (x y : K × X) (xs ys : List (K × X)) (s : Rise R (x ∷ xs)) (t : Rise R (y ∷ ys)) (h : (q : K) → look (x ∷ xs) q ≡ look (y ∷ ys) q) where
    by_heads : (r : Ordering) → R x.0 y.0 ≡ r → x.0 ≡ y.0
    by_heads Less p = absurd (cc (sym (at_head x xs) ∙ h x.0 ∙ lookup-none _ (y ∷ ys) (none_below_head o x.0 y ys t p)))
    by_heads Equal p = exact x.0 y.0 p
    by_heads Greater p = absurd (cc (sym (at_head y ys) ∙ sym (h y.0) ∙ lookup-none _ (x ∷ xs) (none_below_head o y.0 x xs s (o.antisymm y.0 x.0 ∙ ap ordering_reverse p))))

    heads : x.0 ≡ y.0
    heads = by_heads (R x.0 y.0) refl

    values : x.1 ≡ y.1
    values = ap (λ u. unwrap_or u x.1) (sym (at_head x xs) ∙ h x.0 ∙ ap (look (y ∷ ys)) heads ∙ at_head y ys)

    tails : (q : K) → look xs q ≡ look ys q
    tails q = by (is_at (R q) x.0) refl
      where
        by : (b : Bool) → is_at (R q) x.0 ≡ b → look xs q ≡ look ys q
        by true is = past_head q x xs s is ∙ sym (past_head q y ys t (sym (ap (is_at (R q)) heads) ∙ is))
        by false is = sym (lookup_tail (is_at (R q)) x xs is) ∙ h q ∙ lookup_tail (is_at (R q)) y ys (sym (ap (is_at (R q)) heads) ∙ is)

  pub same_lists : (es fs : List (K × X)) → Rise R es → Rise R fs → ((q : K) → look es q ≡ look fs q) → es ≡ fs
  same_lists [] [] s t h = refl
  same_lists [] (y ∷ ys) s t h = absurd (cc (h y.0 ∙ at_head y ys))
  same_lists (x ∷ xs) [] s t h = absurd (cc (sym (at_head x xs) ∙ h x.0))
  same_lists (x ∷ xs) (y ∷ ys) s t h =
      let rest = same_lists xs ys (rest_rises x xs s) (rest_rises y ys t) (tails x y xs ys s t h) in
      λ i. (heads x y xs ys s t h i, values x y xs ys s t h i) ∷ rest i

module _ (s : Store) (ops : List FamilyOp) where
  pub values_done : (changes : BTreeMap (ℤ × ℕ) (Option (List ℕ))) (m : BTreeMap (ℤ × ℕ) (List ℕ)) → Stands s.values changes (after_all s ops) → Rise value_cmp m.entries
      → ((q : ℤ × ℕ) → lookup (is_at (value_cmp q)) m.entries ≡ seen (get value_cmp changes q) (lookup (is_at (value_cmp q)) s.values)) → m.entries ≡ (after_all s ops).values
  values_done changes m stands rise found = same_lists value_cmp_total value_exact m.entries (after_all s ops).values rise stands.ordered (λ q. found q ∙ stands.found q.0 q.1)

  pub locks_done : (changes : BTreeMap ℤ (Option Lock)) (m : BTreeMap ℤ Lock) → changes.entries ≡ lock_changes ops → Rise int_cmp s.locks → Rise int_cmp m.entries
      → ((q : ℤ) → lookup (is_at (int_cmp q)) m.entries ≡ seen (get int_cmp changes q) (lookup (is_at (int_cmp q)) s.locks)) → m.entries ≡ (after_all s ops).locks
  locks_done changes m are sorted rise found = same_lists int_cmp_total exact_signed m.entries (after_all s ops).locks rise (locks_rise s ops sorted)
      (λ q. found q ∙ ap (λ cs. seen (lookup (is_at (int_cmp q)) cs) (lookup (is_at (int_cmp q)) s.locks)) are ∙ sym (locks_found s ops sorted q))
