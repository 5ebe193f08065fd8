-- All ops of an entry, one after the other.
use Rattle.std.proofs.Common.{◌≡◌, ◌∙◌, refl, sym, ap, subst, ℕ, zero, suc, ◌+◌, ◌≤◌, ◌<◌, ℤ, Bool, true, false, true≢false, cond, ◌&&◌, List, [], ◌∷◌, ◌++◌, length, take, get_or, slice_get, Option, Some, None, Result, Ok, Err, arith}
use Rattle.std.proofs.lemmas.List.{append-nil, take_all}
use Rattle.std.proofs.lemmas.List.Sums.{fold-append}
use Rattle.std.proofs.lemmas.List.Folds.{list_all-append}
use Rattle.std.specs.List.{filter_map, list_all}
use Rattle.std.specs.Option.{option_to_list}
use Rattle.column_block.specs.declared.column.Column.{Column}
use Rattle.flash_types.specs.declared.range.HandleRange.{HandleRange}
use Rattle.log_codec.specs.declared.entry.Op.{Op}
use Rattle.committed_log.specs.Admission.{op_fault, ops_fault_from, change_fault}
use Rattle.committed_log.specs.Applied.{first_numbers}
use Rattle.committed_log.specs.Changes.{change_of}
use Rattle.committed_log.specs.Log.{Log}
use Rattle.committed_log.specs.Repeats.{repeats, repeats_among, repeats_change, repeats_op}
use Rattle.committed_log.specs.Store.{Store, after_change, after_op, after_ops, last_commit, value, committed_value}
use Rattle.committed_log.specs.declared.op.FamilyOp.{FamilyOp}
use Rattle.committed_log.specs.declared.op.FamilyOp.TheVariants as change
use Rattle.committed_log.specs.declared.op.OpFault.{OpFault}
use Rattle.committed_log.specs.declared.op.OpFault.TheVariants.{BadKey, BadRecord}
use Rattle.committed_log.specs.declared.store.Commit.{Commit}
use Rattle.committed_log.specs.declared.unlawful.Unlawful.TheVariants as unlawful
use Rattle.committed_log.proofs.Entries.{none_of_nil}
use Rattle.committed_log.proofs.Faults.{both_none}
use Rattle.committed_log.proofs.OpSteps.{some_op, after_more}
use Rattle.raft_apply.specs.Entries.{change_in, change_at, changes}
use Rattle.raft_apply.proofs.Placing.{one_more}
use Rattle.region_state.specs.Folding.{after_one, after_all, lies_in}
use Rattle.region_steps.proofs.Keys.{change_every, change_lies}
use Rattle.region_steps.proofs.Ops.{IsPart, one}

-- an op at its place has no fault where none of them has
place_fault : (table : ℤ) (schema : List Column) (range : HandleRange) (p : ℕ) (s : Store) (j : ℕ) (ops : List Op) (k : ℕ) (op : Op) → ops_fault_from table schema range p s j ops ≡ None → slice_get ops k ≡ Some op → op_fault table schema range (after_ops table range p s (take k ops)) (j + k) op ≡ None
place_fault table schema range p s j [] k op none is = cc (sym (none_of_nil k) ∙ is)
place_fault table schema range p s j (o ∷ ops) zero op none is =
    let here : op_fault table schema range s j o ≡ None = (both_none (op_fault table schema range s j o) (ops_fault_from table schema range p (after_op table range p s o) (suc j) ops) none).0 in
    let same : o ≡ op = cc is in
    let place : j ≡ j + 0 = omega arith in
    (λ i. op_fault table schema range s (sym place i) (sym same i)) ∙ here
place_fault table schema range p s j (o ∷ ops) (suc k) op none is =
    let place : suc j + k ≡ j + suc k = omega arith in
    let rest = place_fault table schema range p (after_op table range p s o) (suc j) ops k op (both_none (op_fault table schema range s j o) (ops_fault_from table schema range p (after_op table range p s o) (suc j) ops) none).1 is in
    ap (λ n. op_fault table schema range (after_ops table range p (after_op table range p s o) (take k ops)) n op) (sym place) ∙ rest

get_is : (ops : List Op) (k : ℕ) (d : Op) → k < length ops → slice_get ops k ≡ Some (get_or ops k d)
get_is [] k d less = absurd (omega (arith, less))
get_is (o ∷ ops) zero d less = refl
get_is (o ∷ ops) (suc k) d less = get_is ops k d (omega (arith, less))

-- an op of a lawful log has a change, or none
no_fault : (table : ℤ) (schema : List Column) (range : HandleRange) (s : Store) (k : ℕ) (op : Op) (fault : OpFault) → change_of table range op ≡ Err fault → op_fault table schema range s k op ≡ None → ⊥
no_fault table schema range s k op BadKey is none = cc (sym none ∙ ap (λ (r : Result (Option FamilyOp) OpFault). elim r [ Err fault ↦ elim fault [ BadKey ↦ Some (unlawful.Key k) | BadRecord ↦ Some (unlawful.Record k) ] | Ok found ↦ elim found [ None ↦ None | Some c ↦ change_fault schema (last_commit s.commits) s.values k c ] ]) is)
no_fault table schema range s k op BadRecord is none = cc (sym none ∙ ap (λ (r : Result (Option FamilyOp) OpFault). elim r [ Err fault ↦ elim fault [ BadKey ↦ Some (unlawful.Key k) | BadRecord ↦ Some (unlawful.Record k) ] | Ok found ↦ elim found [ None ↦ None | Some c ↦ change_fault schema (last_commit s.commits) s.values k c ] ]) is)

-- a change that repeats leaves the store
repeat_stays : (p : ℕ) (s : Store) (c : FamilyOp) → repeats_change s c ≡ true → after_change p s c ≡ s
repeat_stays p s (change.Value h start bytes) is = absurd (true≢false (sym is))
repeat_stays p s (change.DropValue h start) is = absurd (true≢false (sym is))
repeat_stays p s (change.Lock h kind start) is = absurd (true≢false (sym is))
repeat_stays p s (change.Unlock h) is = absurd (true≢false (sym is))
repeat_stays p s (change.Write h ts start gone short) is = ap (λ b. cond b s (record s { commits = s.commits ++ record { handle = h; ts = ts; start = start; value = committed_value gone short (value s.values h start); position = p } ∷ [] })) is

-- the entry at position p has these ops, in a region with this range, after this store
module _ (log : Log) (p : ℕ) (range : HandleRange) (s : Store) (ops : List Op)
    (none : ops_fault_from log.table log.schema range p s 0 ops ≡ None)
    (repeated : (k : ℕ) → repeats log p k ≡ repeats_among log.table range p s ops k) where
  abbrev upto : ℕ → List FamilyOp
  upto k = filter_map (change_at log p ops) (first_numbers k)

  abbrev reached : ℕ → Store
  reached k = after_ops log.table range p s (take k ops)

  module _ (k : ℕ) (here : k < length ops) where
    abbrev op : Op
    op = get_or ops k some_op

    is : slice_get ops k ≡ Some op
    is = get_is ops k some_op here

    fine : op_fault log.table log.schema range (reached k) k op ≡ None
    fine = let first : 0 + k ≡ k = omega arith in subst (λ n. op_fault log.table log.schema range (reached k) n op ≡ None) first (place_fault log.table log.schema range p s 0 ops k op none is)

    -- what the op does, where it has this change
    repeats_is : (c : FamilyOp) → change_of log.table range op ≡ Ok (Some c) → repeats log p k ≡ repeats_change (reached k) c
    repeats_is c made = repeated k ∙ ap (λ o. elim o [ None ↦ false | Some op ↦ repeats_op log.table range (reached k) op ]) is
        ∙ ap (λ (r : Result (Option FamilyOp) OpFault). elim r [ Err fault ↦ false | Ok found ↦ elim found [ None ↦ false | Some c ↦ repeats_change (reached k) c ] ]) made

    change_is : (found : Option FamilyOp) → change_of log.table range op ≡ Ok found → change_at log p ops k ≡ cond (repeats log p k) None found
    change_is found made = ap (λ o. cond (repeats log p k) None (elim o [ None ↦ None | Some op ↦ change_in log.table op ])) is ∙ ap (cond (repeats log p k) None) (change_every log.table range op found made)

    after_is : (r : Result (Option FamilyOp) OpFault) → change_of log.table range op ≡ r → reached (k + 1) ≡ elim r [ Err fault ↦ reached k | Ok found ↦ elim found [ None ↦ reached k | Some c ↦ after_change p (reached k) c ] ]
    after_is r made = after_more log.table log.schema range p s ops k some_op here ∙ ap (λ (r : Result (Option FamilyOp) OpFault). elim r [ Err fault ↦ reached k | Ok found ↦ elim found [ None ↦ reached k | Some c ↦ after_change p (reached k) c ] ]) made

    module _ (before : List Commit) (t : Store) where
      abbrev after : Option FamilyOp → Store
      after o = after_all t (upto k ++ option_to_list o)

      next_part : IsPart range p before (reached k) (after_all t (upto k)) → IsPart range p before (reached (k + 1)) (after_all t (upto (k + 1)))
      next_part part = subst (λ ops. IsPart range p before (reached (k + 1)) (after_all t ops)) (sym (one_more (change_at log p ops) k)) (by (change_of log.table range op) refl)
        where
          same : IsPart range p before (reached k) (after None)
          same = subst (λ ops. IsPart range p before (reached k) (after_all t ops)) (sym (append-nil (upto k))) part

          changed : (c : FamilyOp) → lies_in range c ≡ true → (b : Bool) → repeats_change (reached k) c ≡ b → IsPart range p before (after_change p (reached k) c) (after (cond b None (Some c)))
          changed c inside true again = subst (λ s. IsPart range p before s (after None)) (sym (repeat_stays p (reached k) c again)) same
          changed c inside false new = subst (IsPart range p before (after_change p (reached k) c)) (sym (fold-append after_one t (upto k) (c ∷ []))) (one range p before (reached k) (after_all t (upto k)) part c inside new)

          by : (r : Result (Option FamilyOp) OpFault) → change_of log.table range op ≡ r → IsPart range p before (reached (k + 1)) (after (change_at log p ops k))
          by (Err fault) made = absurd (no_fault log.table log.schema range (reached k) k op fault made fine)
          by (Ok None) made = subst (λ s. IsPart range p before s (after (change_at log p ops k))) (sym (after_is (Ok None) made)) (subst (λ o. IsPart range p before (reached k) (after o)) (sym (change_is None made ∙ nothing (repeats log p k))) same)
            where
              nothing : (b : Bool) → cond {A = Option FamilyOp} b None None ≡ None
              nothing true = refl
              nothing false = refl
          by (Ok (Some c)) made = subst (λ s. IsPart range p before s (after (change_at log p ops k))) (sym (after_is (Ok (Some c)) made))
              (subst (λ o. IsPart range p before (after_change p (reached k) c) (after o)) (sym (change_is (Some c) made)) (changed c (change_lies log.table range op c made) (repeats log p k) (sym (repeats_is c made))))

    next_lies : list_all (lies_in range) (upto k) ≡ true → list_all (lies_in range) (upto (k + 1)) ≡ true
    next_lies all = ap (list_all (lies_in range)) (one_more (change_at log p ops) k) ∙ list_all-append (lies_in range) (upto k) (option_to_list (change_at log p ops k)) ∙ (λ i. all i && by (change_of log.table range op) refl i)
      where
        kept : (b : Bool) (c : FamilyOp) → lies_in range c ≡ true → list_all (lies_in range) (option_to_list (cond b None (Some c))) ≡ true
        kept true c inside = refl
        kept false c inside = ap (λ b. b && true) inside

        nothing : (b : Bool) → list_all (lies_in range) (option_to_list (cond {A = Option FamilyOp} b None None)) ≡ true
        nothing true = refl
        nothing false = refl

        by : (r : Result (Option FamilyOp) OpFault) → change_of log.table range op ≡ r → list_all (lies_in range) (option_to_list (change_at log p ops k)) ≡ true
        by (Err fault) made = absurd (no_fault log.table log.schema range (reached k) k op fault made fine)
        by (Ok None) made = ap (λ o. list_all (lies_in range) (option_to_list o)) (change_is None made) ∙ nothing (repeats log p k)
        by (Ok (Some c)) made = ap (λ o. list_all (lies_in range) (option_to_list o)) (change_is (Some c) made) ∙ kept (repeats log p k) c (change_lies log.table range op c made)

  all_parts : (before : List Commit) (t : Store) → IsPart range p before s t → (k : ℕ) → k ≤ length ops → IsPart range p before (reached k) (after_all t (upto k))
  all_parts before t part zero le = part
  all_parts before t part (suc k) le =
      let next : k + 1 ≡ suc k = omega arith in
      subst (λ n. IsPart range p before (reached n) (after_all t (upto n))) next (next_part k (omega (arith, le)) before t (all_parts before t part k (omega (arith, le))))

  all_lie : (k : ℕ) → k ≤ length ops → list_all (lies_in range) (upto k) ≡ true
  all_lie zero le = refl
  all_lie (suc k) le =
      let next : k + 1 ≡ suc k = omega arith in
      subst (λ n. list_all (lies_in range) (upto n) ≡ true) next (next_lies k (omega (arith, le)) (all_lie k (omega (arith, le))))

  pub whole_part : (before : List Commit) (t : Store) → IsPart range p before s t → IsPart range p before (after_ops log.table range p s ops) (after_all t (changes log p ops))
  whole_part before t part =
      let some : length ops ≤ length ops = omega arith in
      subst (λ os. IsPart range p before (after_ops log.table range p s os) (after_all t (changes log p ops))) (take_all (length ops) ops some) (all_parts before t part (length ops) some)

  pub whole_lies : list_all (lies_in range) (changes log p ops) ≡ true
  whole_lies = let some : length ops ≤ length ops = omega arith in all_lie (length ops) some
