-- A row's last commit, as commits are added.
use Rattle.std.proofs.Common.{◌≡◌, ◌∙◌, refl, sym, ap, subst, ℕ, ℤ, Bool, true, false, cond, List, [], ◌∷◌, ◌++◌, Option, Some, None, map, fold, option_map, nat_lt, ◌&&◌, arith, is_none}
use Rattle.std.specs.Option.{option_or}
use Rattle.std.specs.Ordering.{int_eq}
use Rattle.std.proofs.lemmas.Int.{ints}
use Rattle.std.proofs.lemmas.List.{map_push}
use Rattle.column_block.specs.declared.column.Column.{Column}
use Rattle.committed_log.specs.declared.op.LastCommit.{LastCommit}
use Rattle.committed_log.specs.declared.unlawful.Unlawful.TheVariants as unlawful
use Rattle.committed_log.specs.Admission.{backdated_fault, value_fault, commit_fault, unless}
use Rattle.committed_log.specs.Store.{Commit, newer, candidate, newest, last_commit, is_delete, is_repeated, committed_value}
use Rattle.committed_log.proofs.Faults.{both_none}
use Rattle.committed_log.proofs.Positions.{fold_push}

int_eq_is : (a b : ℤ) → int_eq a b ≡ true → a ≡ b
int_eq_is a b h = grind (arith, ints)

newest_push : (p : Commit → Bool) (h : ℤ) (commits : List Commit) (c : Commit) → newest p h (commits ++ c ∷ []) ≡ newer (newest p h commits) (candidate p h c)
newest_push p h commits c = ap (fold newer None) (map_push (candidate p h) commits c) ∙ fold_push newer None (map (candidate p h) commits) (candidate p h c)

abbrev pub summary : Commit → LastCommit
summary c = record { ts = c.ts; start = c.start; gone = is_delete c }

newer_none : (o : Option Commit) → newer o None ≡ o
newer_none None = refl
newer_none (Some c) = refl

above_last : (o : Option Commit) (c : Commit) (k : ℕ) → backdated_fault (option_map summary o) c.ts k ≡ None → newer o (Some c) ≡ Some c
above_last None c k h = refl
above_last (Some b) c k h =
    elim (nat_lt b.ts c.ts) as (λ t. unless t (unlawful.Backdated k b.ts) ≡ None → cond t (Some c) (Some b) ≡ Some c) [ true ↦ λ _. refl | false ↦ λ is. cc ] h

-- a commit that isn't backdated is the last one of its row, and other rows keep theirs
pub last_commit_push : (commits : List Commit) (c : Commit) (k : ℕ) → backdated_fault (last_commit commits c.handle) c.ts k ≡ None → (q : ℤ) → last_commit (commits ++ c ∷ []) q ≡ cond (int_eq c.handle q) (Some (summary c)) (last_commit commits q)
last_commit_push commits c k h q =
    ap (option_map summary) (newest_push (λ x. true) q commits c)
    ∙ elim (int_eq c.handle q) as (λ t. int_eq c.handle q ≡ t → option_map summary (newer (newest (λ x. true) q commits) (cond (t && true) (Some c) None)) ≡ cond t (Some (summary c)) (last_commit commits q)) [
      | true ↦ λ same. ap (option_map summary) (above_last (newest (λ x. true) q commits) c k (subst (λ z. backdated_fault (last_commit commits z) c.ts k ≡ None) (int_eq_is c.handle q same) h))
      | false ↦ λ apart. ap (option_map summary) (newer_none (newest (λ x. true) q commits))
    ] refl

-- ---- a commit without a fault

module _ (schema : List Column) (last : Option LastCommit) (long : Option (List ℕ)) (k ts start : ℕ) (gone : Bool) (short : Option (List ℕ)) where
  parts : commit_fault schema last long k ts start gone short ≡ None → is_repeated last ts start gone ≡ false → (backdated_fault last ts k ≡ None) × (cond gone None (value_fault schema (committed_value gone short long) k) ≡ None)
  parts e new = both_none _ _ (sym (ap (λ b. cond b None (option_or (backdated_fault last ts k) (cond gone None (value_fault schema (committed_value gone short long) k)))) new) ∙ e)

  -- it is later than the last one
  pub is_newer : commit_fault schema last long k ts start gone short ≡ None → is_repeated last ts start gone ≡ false → backdated_fault last ts k ≡ None
  is_newer e new = (parts e new).0

  -- a put has a value
  pub has_value : commit_fault schema last long k ts start gone short ≡ None → is_repeated last ts start gone ≡ false → is_none (committed_value gone short long) ≡ gone
  has_value e new = valued gone (parts e new).1
    where
      some_value : (v : Option (List ℕ)) → value_fault schema v k ≡ None → is_none v ≡ false
      some_value None f = cc
      some_value (Some v) f = refl

      valued : (b : Bool) → cond b None (value_fault schema (committed_value b short long) k) ≡ None → is_none (committed_value b short long) ≡ b
      valued true f = refl
      valued false f = some_value _ f
