-- Rows that were found handle by handle are the rows of the read.
use Rattle.std.proofs.Common.{◌≡◌, ◌∙◌, refl, sym, ap, ℕ, ℤ, Bool, true, false, cond, ◌&&◌, ◌||◌, List, [], ◌∷◌, Option, Some, None, option_map, option_and_then, find, arith}
use Rattle.std.proofs.lemmas.Int.{ints}
use Rattle.std.proofs.lemmas.List.Elements.{Contains-append_right}
use Rattle.std.specs.List.{Contains, list_any}
use Rattle.std.specs.Ordering.{int_eq}
use Rattle.column_block.specs.declared.cell.Cell.{Cell}
use Rattle.column_block.specs.declared.cell.Row.{Row}
use Rattle.flash_types.specs.Ranges.{holds}
use Rattle.flash_types.specs.declared.range.HandleRange.{HandleRange}
use Rattle.flash_types.specs.declared.refusal.Cut.{Cut}
use Rattle.committed_log.specs.Log.{Log}
use Rattle.committed_log.specs.Reads.{cells, commits_of, row_of, row_of_handle, rows, shown, shown_by}
use Rattle.committed_log.proofs.ReadLaws.{rows_are}
use Rattle.log_laws.specs.Rows.{AreFound, cells_on, row_on}
use Rattle.log_laws.proofs.Small.{and_false, some_is}
use Rattle.log_laws.proofs.Unique.{on_rule, one_list, sorted_up}

int_same : (a b : ℤ) → int_eq a b ≡ true → a ≡ b
int_same a b e = grind (arith, ints)

row_has : (h : ℤ) (rows : List Row) (row : Row) → row_on h rows ≡ Some row → row.handle ≡ h
row_has h [] row e = cc e
row_has h (x ∷ rows) row e = by (int_eq x.handle h) refl e (row_has h rows row)
  where
    by : (b : Bool) → int_eq x.handle h ≡ b → cond b (Some x) (row_on h rows) ≡ Some row → (row_on h rows ≡ Some row → row.handle ≡ h) → row.handle ≡ h
    by true is e rest = ap (λ (r : Row). r.handle) (sym (some_is x row e)) ∙ int_same x.handle h is
    by false is e rest = rest e

-- ---- the rule's rows are of their handles

made_for : (log : Log) (h : ℤ) (o : Option (List ℕ)) (row : Row) → option_map (row_of log.schema h) o ≡ Some row → row.handle ≡ h
made_for log h None row e = cc e
made_for log h (Some value) row e = sym (ap (λ (o : Option Row). elim o [ None ↦ h | Some r ↦ r.handle ]) e)

pub own : (log : Log) (cuts : List Cut) (ts : ℕ) (clip : HandleRange) (h : ℤ) (row : Row) → row_of_handle log cuts ts clip h ≡ Some row → row.handle ≡ h
own log cuts ts clip h row e = by (holds clip h) e
  where
    by : (b : Bool) → cond b (option_map (row_of log.schema h) (shown_by log cuts ts h)) None ≡ Some row → row.handle ≡ h
    by true e = made_for log h (shown_by log cuts ts h) row e
    by false e = cc e

abbrev cells_in : Option Row → Option (List Cell)
cells_in o = option_map (λ (r : Row). r.cells) o

cells_of_row : (log : Log) (h : ℤ) (o : Option (List ℕ)) → cells_in (option_map (row_of log.schema h) o) ≡ option_map (cells log.schema) o
cells_of_row log h None = refl
cells_of_row log h (Some value) = refl

-- two rows of one handle with the same cells are one
one_row : (h : ℤ) (a b : Option Row) → ((row : Row) → a ≡ Some row → row.handle ≡ h) → ((row : Row) → b ≡ Some row → row.handle ≡ h) → cells_in a ≡ cells_in b → a ≡ b
one_row h None None of_a of_b same = refl
one_row h None (Some y) of_a of_b same = cc same
one_row h (Some x) None of_a of_b same = cc same
one_row h (Some x) (Some y) of_a of_b same = (λ i. Some (record { handle = (of_a x refl ∙ sym (of_b y refl)) i; cells = some_is x.cells y.cells same i }))

-- ---- the cut that has the handle

pub cut_has : (h : ℤ) (cuts : List Cut) (cut : Cut) → find (λ (cut : Cut). holds cut.range h) cuts ≡ Some cut → (Contains cuts cut) × (holds cut.range h ≡ true)
cut_has h [] cut e = cc e
cut_has h (c ∷ cuts) cut e = by (holds c.range h) refl e (cut_has h cuts cut)
  where
    by : (b : Bool) → holds c.range h ≡ b → cond b (Some c) (find (λ (cut : Cut). holds cut.range h) cuts) ≡ Some cut → (find (λ (cut : Cut). holds cut.range h) cuts ≡ Some cut → (Contains cuts cut) × (holds cut.range h ≡ true)) → (Contains (c ∷ cuts) cut) × (holds cut.range h ≡ true)
    by true is e rest = (let same = some_is c cut e in ((0, omega arith, same), ap (λ (x : Cut). holds x.range h) (sym same) ∙ is))
    by false is e rest = (let more = rest e in (Contains-append_right (c ∷ []) cuts cut more.0, more.1))

no_cut : (h : ℤ) (cuts : List Cut) → find (λ (cut : Cut). holds cut.range h) cuts ≡ None → list_any (λ (cut : Cut). holds cut.range h) cuts ≡ false
no_cut h [] e = refl
no_cut h (cut ∷ cuts) e = by (holds cut.range h) e (no_cut h cuts)
  where
    by : (b : Bool) → cond b (Some cut) (find (λ (cut : Cut). holds cut.range h) cuts) ≡ None → (find (λ (cut : Cut). holds cut.range h) cuts ≡ None → list_any (λ (cut : Cut). holds cut.range h) cuts ≡ false) → (b || list_any (λ (cut : Cut). holds cut.range h) cuts) ≡ false
    by true e rest = cc e
    by false e rest = rest e

-- ---- the law

module _ (log : Log) (cuts : List Cut) (ts : ℕ) (clip : HandleRange) (found : List Row) (are : AreFound log cuts ts clip found) where
  abbrev shown_of : ℤ → Option Cut → Option (List ℕ)
  shown_of h o = option_and_then (λ (cut : Cut). shown (commits_of log cut) ts h) o

  nothing : (b : Bool) → cond {A = Option Row} b None None ≡ None
  nothing true = refl
  nothing false = refl

  cells_are : (h : ℤ) → cells_on h found ≡ cells_in (row_of_handle log cuts ts clip h)
  cells_are h = by (holds clip h) refl (find (λ (cut : Cut). holds cut.range h) cuts) refl
    where
      by : (b : Bool) → holds clip h ≡ b → (o : Option Cut) → find (λ (cut : Cut). holds cut.range h) cuts ≡ o → cells_on h found ≡ cells_in (row_of_handle log cuts ts clip h)
      by false out o is =
          ap cells_in (are.others h (ap (λ b. b && list_any (λ (cut : Cut). holds cut.range h) cuts) out))
          ∙ sym (ap (λ b. cells_in (cond b (option_map (row_of log.schema h) (shown_by log cuts ts h)) None)) out)
      by true within None is =
          ap cells_in (are.others h (ap (λ b. holds clip h && b) (no_cut h cuts is) ∙ and_false (holds clip h)))
          ∙ sym (ap (λ o. cells_in (cond (holds clip h) (option_map (row_of log.schema h) (shown_of h o)) None)) is ∙ ap cells_in (nothing (holds clip h)))
      by true within (Some cut) is =
          let has = cut_has h cuts cut is in
          are.seen cut has.0 h has.1 within ∙ sym (cells_of_row log h (shown (commits_of log cut) ts h))
          ∙ sym ((λ i. cells_in (cond (within i) (option_map (row_of log.schema h) (shown_of h (is i))) None)))

  pub found_is : found ≡ rows log cuts ts clip
  found_is = one_list found (rows log cuts ts clip) (sorted_up found are.rise) (sorted_up (rows log cuts ts clip) (rows_are log cuts ts clip).rise)
      (λ h. one_row h (row_on h found) (row_of_handle log cuts ts clip h) (row_has h found) (own log cuts ts clip h) (cells_are h)
      ∙ sym (on_rule (row_of_handle log cuts ts clip) h (own log cuts ts clip) (rows log cuts ts clip) (rows_are log cuts ts clip)))
