-- Changes over the values of a region, one more.
use Rattle.std.proofs.Common.{◌≡◌, ◌∙◌, refl, sym, ap, subst, ℕ, ℤ, Bool, true, false, true≢false, cond, List, [], ◌∷◌, ◌++◌, Option, Some, None, ◌<◌, ◌≤◌, ◌+◌, length, take, get_or, map}
use Rattle.std.specs.BTreeMap.{BTreeMap, get, is_at}
use Rattle.std.specs.List.{list_all}
use Rattle.std.specs.List.Sorted.{IsStrictlySortedBy}
use Rattle.std.specs.Map.{lookup, keys_of}
use Rattle.std.proofs.lemmas.List.{take_more, take_all, map-append, append-nil}
use Rattle.column_block.specs.declared.column.Column.{Column}
use Rattle.column_block.specs.declared.cell.Version.{Version}
use Rattle.committed_log.specs.Store.{Store, value, value_cmp}
use Rattle.committed_log.specs.declared.op.FamilyOp.{FamilyOp}
use Rattle.committed_log.specs.declared.op.FamilyOp.TheVariants as change
use Rattle.committed_log.proofs.Faults.{both_true}
use Rattle.committed_log.proofs.Maps.{Rise, Rise-insert_entry, Rise-remove_entry}
use Rattle.committed_log.proofs.Positions.{fold_push}
use Rattle.committed_log.proofs.Sorted.{value_cmp_total}
use Rattle.committed_log.proofs.StoreSteps.{value_put, value_taken}
use Rattle.region_state.specs.Folding.{version_of, committed, commits_nothing, after_one, after_all}
use Rattle.region_state.specs.Standing.{seen, Stands}

seen_cond : {X : Type 0} (b : Bool) (v : Option X) (o : Option (Option X)) (there : Option X) → seen (cond b (Some v) o) there ≡ cond b v (seen o there)
seen_cond true v o there = refl
seen_cond false v o there = refl

module _ (values : List ((ℤ × ℕ) × List ℕ)) (old new : BTreeMap (ℤ × ℕ) (Option (List ℕ))) (s : Store) where
  noted : (h : ℤ) (start : ℕ) (v : Option (List ℕ)) (t : Store) → ((q : ℤ × ℕ) → get value_cmp new q ≡ cond (is_at (value_cmp (h, start)) q) (Some v) (get value_cmp old q)) → Stands values old s
      → ((g : ℤ) (at : ℕ) → value t.values g at ≡ cond (is_at (value_cmp (h, start)) (g, at)) v (value s.values g at)) → Rise value_cmp t.values → Stands values new t
  noted h start v t updates stands is rise = record {
    found = λ g at. ap (λ o. seen o (value values g at)) (updates (g, at)) ∙ seen_cond (is_at (value_cmp (h, start)) (g, at)) v (get value_cmp old (g, at)) (value values g at) ∙ ap (cond (is_at (value_cmp (h, start)) (g, at)) v) (stands.found g at) ∙ sym (is g at);
    ordered = rise;
  }

  pub stands_put : (h : ℤ) (start : ℕ) (bytes : List ℕ) → ((q : ℤ × ℕ) → get value_cmp new q ≡ cond (is_at (value_cmp (h, start)) q) (Some (Some bytes)) (get value_cmp old q)) → Stands values old s → Stands values new (after_one s (change.Value h start bytes))
  stands_put h start bytes updates stands = noted h start (Some bytes) _ updates stands (value_put s.values (h, start) bytes) (Rise-insert_entry value_cmp_total s.values (h, start) bytes stands.ordered)

  pub stands_taken : (h : ℤ) (start : ℕ) → ((q : ℤ × ℕ) → get value_cmp new q ≡ cond (is_at (value_cmp (h, start)) q) (Some None) (get value_cmp old q)) → Stands values old s → Stands values new (after_one s (change.DropValue h start))
  stands_taken h start updates stands = noted h start None _ updates stands (value_taken s stands.ordered (h, start)) (Rise-remove_entry value_cmp (is_at (value_cmp (h, start))) s.values stands.ordered)

-- nothing has changed yet
pub stands_first : (values : List ((ℤ × ℕ) × List ℕ)) (changes : BTreeMap (ℤ × ℕ) (Option (List ℕ))) (s : Store) → changes.entries ≡ [] → IsStrictlySortedBy value_cmp (keys_of values) → s.values ≡ values → Stands values changes s
stands_first values changes s none rise same = record {
  found = λ h start. ap (λ es. seen (lookup (is_at (value_cmp (h, start))) es) (value values h start)) none ∙ ap (λ vs. value vs h start) (sym same);
  ordered = subst (λ (vs : List ((ℤ × ℕ) × List ℕ)). IsStrictlySortedBy value_cmp (keys_of vs)) (sym same) rise;
}

module _ (s : Store) (ops : List FamilyOp) (k : ℕ) (op : FamilyOp) (here : k < length ops) (item : op ≡ get_or ops k op) where
  pub all_more : after_all s (take (k + 1) ops) ≡ after_one (after_all s (take k ops)) op
  all_more = ap (after_all s) (take_more ops k op here) ∙ fold_push after_one s (take k ops) (get_or ops k op) ∙ ap (after_one (after_all s (take k ops))) (sym item)

  pub versions_more : (schema : List Column) (old new : List Version) → old ≡ map (version_of schema) (after_all s (take k ops)).commits → new ≡ old ++ map (version_of schema) (committed (after_all s (take k ops)) op) → new ≡ map (version_of schema) (after_all s (take (k + 1) ops)).commits
  versions_more schema old new before is =
      is ∙ ap (λ vs. vs ++ map (version_of schema) (committed (after_all s (take k ops)) op)) before
      ∙ sym (map-append (version_of schema) (after_all s (take k ops)).commits (committed (after_all s (take k ops)) op))
      ∙ ap (λ (t : Store). map (version_of schema) t.commits) (sym all_more)

pub all_done : (s : Store) (ops : List FamilyOp) (k : ℕ) → length ops ≤ k → after_all s (take k ops) ≡ after_all s ops
all_done s ops k done = ap (after_all s) (take_all k ops done)

-- changes that commit nothing add no commit
one_adds_none : (s : Store) (op : FamilyOp) → commits_nothing op ≡ true → (after_one s op).commits ≡ s.commits
one_adds_none s (change.Value h start bytes) none = append-nil s.commits
one_adds_none s (change.DropValue h start) none = append-nil s.commits
one_adds_none s (change.Lock h kind start) none = append-nil s.commits
one_adds_none s (change.Unlock h) none = append-nil s.commits
one_adds_none s (change.Write h ts start gone short) none = absurd (true≢false (sym none))

pub all_add_none : (s : Store) (ops : List FamilyOp) → list_all commits_nothing ops ≡ true → (after_all s ops).commits ≡ s.commits
all_add_none s [] none = refl
all_add_none s (op ∷ ops) none =
    let both = both_true (commits_nothing op) (list_all commits_nothing ops) none in
    all_add_none (after_one s op) ops both.1 ∙ one_adds_none s op both.0
