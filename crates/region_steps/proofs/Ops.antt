-- What the ops of an entry do to the row store their changes do to a region.
use Rattle.std.proofs.Common.{◌≡◌, ◌∙◌, refl, sym, ap, ℕ, ℤ, Bool, true, false, true≢false, cond, List, [], ◌∷◌, ◌++◌, map, append_assoc}
use Rattle.std.proofs.lemmas.List.{append-nil, map-append}
use Rattle.std.proofs.lemmas.Map.Lookups.{exact_signed}
use Rattle.std.specs.BTreeMap.{insert_entry, is_at}
use Rattle.std.specs.Map.{remove_entry}
use Rattle.std.specs.Cmp.{int_cmp_total}
use Rattle.std.specs.Ordering.{int_cmp, is_eq}
use Rattle.std.specs.declared.cmp.Ordering.{Ordering}
use Rattle.std.specs.declared.cmp.Ordering.TheVariants.{Less, Equal, Greater}
use Rattle.flash_types.specs.Ranges.{holds}
use Rattle.flash_types.specs.declared.range.HandleRange.{HandleRange}
use Rattle.committed_log.specs.Laws.{IsSorted}
use Rattle.committed_log.specs.Repeats.{repeats_change}
use Rattle.committed_log.specs.Store.{Store, value, value_cmp, after_change, committed_value}
use Rattle.committed_log.specs.declared.op.FamilyOp.{FamilyOp}
use Rattle.committed_log.specs.declared.op.FamilyOp.TheVariants as change
use Rattle.committed_log.specs.declared.store.Commit.{Commit}
use Rattle.committed_log.specs.declared.store.Lock.{Lock}
use Rattle.committed_log.proofs.Cleared.{value_kept}
use Rattle.committed_log.proofs.FamilySteps.{value_exact}
use Rattle.committed_log.proofs.Sorted.{value_cmp_total, sorted_change}
use Rattle.region_state.specs.Folding.{after_one, lies_in}
use Rattle.region_state.specs.State.{values_in, locks_in}
use Rattle.region_steps.proofs.Inside.{inside_insert, inside_remove}

-- a commit at a position
abbrev pub placed : ℕ → Commit → Commit
placed p c = record c { position = p }

-- The store t has the part of the store s that lies in a range; of its commits, those that came after the ones given, with the position of their entry.
pub record IsPart (range : HandleRange) (p : ℕ) (before : List Commit) (s t : Store) : Type 0 where
  pub values : values_in range s.values ≡ t.values
  pub locks : locks_in range s.locks ≡ t.locks
  pub commits : s.commits ≡ before ++ map (placed p) t.commits
  pub sorted : IsSorted s

module _ (range : HandleRange) (p : ℕ) (before : List Commit) where
  same_handle : (x y : ℤ) → int_cmp x y ≡ Equal → holds range x ≡ holds range y
  same_handle x y e = ap (holds range) (exact_signed x y e)

  same_key : (x y : ℤ × ℕ) → value_cmp x y ≡ Equal → holds range x.0 ≡ holds range y.0
  same_key x y e = ap (λ (k : ℤ × ℕ). holds range k.0) (value_exact x y e)

  is_equal : (o : Ordering) → is_eq o ≡ true → o ≡ Equal
  is_equal Less e = absurd (true≢false (sym e))
  is_equal Equal e = refl
  is_equal Greater e = absurd (true≢false (sym e))

  none_more : (cs : List Commit) → map (placed p) cs ≡ map (placed p) (cs ++ [])
  none_more cs = ap (map (placed p)) (sym (append-nil cs))

  module _ (s t : Store) (part : IsPart range p before s t) where
    unchanged : s.commits ≡ before ++ map (placed p) (t.commits ++ [])
    unchanged = part.commits ∙ ap (λ (cs : List Commit). before ++ cs) (none_more t.commits)

    pub one : (c : FamilyOp) → lies_in range c ≡ true → repeats_change s c ≡ false → IsPart range p before (after_change p s c) (after_one t c)
    one (change.Value h start bytes) here new = record {
      values = inside_insert value_cmp_total (λ (k : ℤ × ℕ). holds range k.0) same_key s.values (h, start) bytes part.sorted.values here ∙ ap (λ vs. insert_entry value_cmp vs (h, start) bytes) part.values;
      locks = part.locks;
      commits = unchanged;
      sorted = sorted_change p s (change.Value h start bytes) part.sorted;
    }
    one (change.DropValue h start) here new = record {
      values = inside_remove (λ (k : ℤ × ℕ). holds range k.0) (is_at (value_cmp (h, start))) (λ k is. sym (same_key (h, start) k (is_equal (value_cmp (h, start) k) is)) ∙ here) s.values ∙ ap (remove_entry (is_at (value_cmp (h, start)))) part.values;
      locks = part.locks;
      commits = unchanged;
      sorted = sorted_change p s (change.DropValue h start) part.sorted;
    }
    one (change.Lock h kind start) here new = record {
      values = part.values;
      locks = inside_insert int_cmp_total (holds range) same_handle s.locks h (record { kind = kind; start = start }) part.sorted.locks here ∙ ap (λ (ls : List (ℤ × Lock)). insert_entry int_cmp ls h (record { kind = kind; start = start })) part.locks;
      commits = unchanged;
      sorted = sorted_change p s (change.Lock h kind start) part.sorted;
    }
    one (change.Unlock h) here new = record {
      values = part.values;
      locks = inside_remove (holds range) (is_at (int_cmp h)) (λ k is. sym (same_handle h k (is_equal (int_cmp h k) is)) ∙ here) s.locks ∙ ap (remove_entry (is_at (int_cmp h))) part.locks;
      commits = unchanged;
      sorted = sorted_change p s (change.Unlock h) part.sorted;
    }
    one (change.Write h ts start gone short) here new = record {
      values = ap (λ b. values_in range (either b).values) new ∙ part.values;
      locks = ap (λ b. locks_in range (either b).locks) new ∙ part.locks;
      commits = ap (λ b. (either b).commits) new ∙ more;
      sorted = sorted_change p s (change.Write h ts start gone short) part.sorted;
    }
      where
        either : Bool → Store
        either b = cond b s (record s { commits = s.commits ++ record { handle = h; ts = ts; start = start; value = committed_value gone short (value s.values h start); position = p } ∷ [] })

        same_value : value s.values h start ≡ value t.values h start
        same_value = sym (value_kept (holds range) s.values h start true here) ∙ ap (λ vs. value vs h start) part.values

        more : s.commits ++ record { handle = h; ts = ts; start = start; value = committed_value gone short (value s.values h start); position = p } ∷ []
            ≡ before ++ map (placed p) (t.commits ++ record { handle = h; ts = ts; start = start; value = committed_value gone short (value t.values h start); position = 0 } ∷ [])
        more = (λ i. part.commits i ++ record { handle = h; ts = ts; start = start; value = committed_value gone short (same_value i); position = p } ∷ [])
            ∙ append_assoc before (map (placed p) t.commits) _
            ∙ ap (λ (cs : List Commit). before ++ cs) (sym (map-append (placed p) t.commits (record { handle = h; ts = ts; start = start; value = committed_value gone short (value t.values h start); position = 0 } ∷ [])))
