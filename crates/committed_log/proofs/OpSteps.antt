-- One op more.
use Rattle.std.proofs.Common.{true, ◌≡◌, ◌≤◌, ◌∙◌, sym, ap, ℕ, ℤ, suc, ◌+◌, ◌<◌, List, [], ◌∷◌, ◌++◌, Some, None, Bool, cond, length, take, drop, get_or, add-one}
use Rattle.std.specs.Option.{option_or}
use Rattle.std.proofs.lemmas.List.{take_more, take_all, drop_all, at_drop_more, append_assoc}
use Rattle.flash_types.specs.declared.range.HandleRange.{HandleRange}
use Rattle.column_block.specs.declared.column.Column.{Column}
use Rattle.log_codec.specs.declared.entry.Op.{Op}
use Rattle.log_codec.specs.declared.entry.Family.TheVariants as family
use Rattle.committed_log.specs.declared.unlawful.Unlawful.{Unlawful}
use Rattle.committed_log.specs.Store.{Store, after_op, after_ops}
use Rattle.committed_log.specs.Admission.{op_fault, ops_fault_from}
use Rattle.committed_log.specs.Repeats.{repeats_op, repeated_from}
use Rattle.committed_log.proofs.Positions.{fold_push}

-- some op, for the places past the end of a list
abbrev pub some_op : Op
some_op = record { put = true; family = family.Default; key = []; value = [] }

module _ (table : ℤ) (schema : List Column) (range : HandleRange) (p : ℕ) (s : Store) (ops : List Op) (k : ℕ) (d : Op) (here : k < length ops) where
  pub after_more : after_ops table range p s (take (k + 1) ops) ≡ after_op table range p (after_ops table range p s (take k ops)) (get_or ops k d)
  after_more = ap (after_ops table range p s) (take_more ops k d here) ∙ fold_push (after_op table range p) s (take k ops) (get_or ops k d)

  pub fault_more : op_fault table schema range (after_ops table range p s (take k ops)) k (get_or ops k d) ≡ None → ops_fault_from table schema range p (after_ops table range p s (take k ops)) k (drop k ops) ≡ ops_fault_from table schema range p (after_ops table range p s (take (k + 1) ops)) (k + 1) (drop (k + 1) ops)
  fault_more none =
      at_drop_more (ops_fault_from table schema range p (after_ops table range p s (take k ops)) k) ops k d here
      ∙ ap (λ f. option_or f (ops_fault_from table schema range p (after_op table range p (after_ops table range p s (take k ops)) (get_or ops k d)) (suc k) (drop (k + 1) ops))) none
      ∙ (λ i. ops_fault_from table schema range p (sym after_more i) (sym (add-one k) i) (drop (k + 1) ops))

  -- where the op at k is at fault, that is the first fault
  pub fault_here : (f : Unlawful) → op_fault table schema range (after_ops table range p s (take k ops)) k (get_or ops k d) ≡ Some f → ops_fault_from table schema range p (after_ops table range p s (take k ops)) k (drop k ops) ≡ Some f
  fault_here f is =
      at_drop_more (ops_fault_from table schema range p (after_ops table range p s (take k ops)) k) ops k d here
      ∙ ap (λ g. option_or g (ops_fault_from table schema range p (after_op table range p (after_ops table range p s (take k ops)) (get_or ops k d)) (suc k) (drop (k + 1) ops))) is

  -- the places of those that repeat, where the op at k does so or not
  pub repeated_more : (b : Bool) → repeats_op table range (after_ops table range p s (take k ops)) (get_or ops k d) ≡ b → repeated_from table range p (after_ops table range p s (take k ops)) k (drop k ops) ≡ cond b (k ∷ []) [] ++ repeated_from table range p (after_ops table range p s (take (k + 1) ops)) (k + 1) (drop (k + 1) ops)
  repeated_more b is =
      at_drop_more (repeated_from table range p (after_ops table range p s (take k ops)) k) ops k d here
      ∙ ap (λ c. cond c (k ∷ []) [] ++ repeated_from table range p (after_op table range p (after_ops table range p s (take k ops)) (get_or ops k d)) (suc k) (drop (k + 1) ops)) is
      ∙ (λ i. cond b (k ∷ []) [] ++ repeated_from table range p (sym after_more i) (sym (add-one k) i) (drop (k + 1) ops))

-- what was found so far, and what comes behind it
pub joined : (all old tail here new rest : List ℕ) → all ≡ old ++ tail → new ≡ old ++ here → tail ≡ here ++ rest → all ≡ new ++ rest
joined all old tail here new rest a b c = a ∙ ap (λ t. old ++ t) c ∙ sym (append_assoc old here rest) ∙ ap (λ x. x ++ rest) (sym b)

-- all ops are done
module _ (table : ℤ) (schema : List Column) (range : HandleRange) (p : ℕ) (s t : Store) (ops : List Op) (k : ℕ) (done : length ops ≤ k) where
  pub fault_done : ops_fault_from table schema range p t k (drop k ops) ≡ None
  fault_done = ap (ops_fault_from table schema range p t k) (drop_all k ops done)

  pub after_done : after_ops table range p s (take k ops) ≡ after_ops table range p s ops
  after_done = ap (after_ops table range p s) (take_all k ops done)

  pub repeated_done : repeated_from table range p t k (drop k ops) ≡ []
  repeated_done = ap (repeated_from table range p t k) (drop_all k ops done)
