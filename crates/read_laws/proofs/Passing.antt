-- What is read of good pieces is those of the log's rows that pass.
use Rattle.std.proofs.Common.{◌≡◌, ◌∙◌, refl, sym, ap, ℕ, ℤ, ◌<ℤ◌, Bool, true, false, true≢false, cond, ◌&&◌, ◌||◌, List, [], ◌∷◌, Option, Some, None, option_map, option_and_then, filter, find, map, arith}
use Rattle.std.proofs.lemmas.Int.{ints}
use Rattle.std.proofs.lemmas.List.Elements.{All-cons, All-contains, All-nil, recursion_from_All}
use Rattle.std.specs.List.{All, AllByRecursion, AllPairs, Contains, list_any}
use Rattle.std.specs.Ordering.{int_cmp, int_eq}
use Rattle.std.specs.declared.cmp.Ordering.TheVariants.{Less}
use Rattle.column_block.specs.declared.cell.Cell.{Cell}
use Rattle.column_block.specs.declared.cell.Row.{Row}
use Rattle.column_block.specs.declared.cell.Version.{Version}
use Rattle.flash_types.specs.Ranges.{holds}
use Rattle.flash_types.specs.declared.range.HandleRange.{HandleRange}
use Rattle.flash_types.specs.declared.refusal.Cut.{Cut}
use Rattle.committed_log.specs.Applied.{IsClosed}
use Rattle.committed_log.specs.Lawful.{IsLawful}
use Rattle.committed_log.specs.Log.{Log}
use Rattle.committed_log.specs.Reads.{cells, commits_at, commits_of, row_of, row_of_handle, rows, shown, shown_by}
use Rattle.committed_log.proofs.ReadLaws.{rows_are}
use Rattle.log_laws.specs.Rows.{is_wanted, row_on}
use Rattle.log_laws.proofs.Found.{cut_has, own}
use Rattle.log_laws.proofs.Unique.{Above, Up, on_rule, one_list, sorted_up}
use Rattle.good_replica.specs.Changed.{of_parts, view}
use Rattle.good_replica.specs.Trail.{trail}
use Rattle.good_replica.proofs.Answering.{settled_shows}
use Rattle.good_replica.proofs.Commits.{pairs_first, pairs_rest}
use Rattle.good_replica.proofs.Settled.{shows_one}
use Rattle.delta_layer.specs.Files.{files_of}
use Rattle.delta_layer.specs.declared.view.SegmentView.{SegmentView}
use Rattle.read_laws.specs.Reads.{AreReadOf, TellRead, cells_of, passed, row_in}
use Rattle.read_laws.proofs.Filtered.{keep, on_filter, up_filter}

-- ---- versions as rows

less_is : (a b : ℤ) → a <ℤ b → int_cmp a b ≡ Less
less_is a b e = grind (arith, ints)

int_same : (a b : ℤ) → int_eq a b ≡ true → a ≡ b
int_same a b e = grind (arith, ints)

some_cells : (a b : List Cell) → Some a ≡ Some b → a ≡ b
some_cells a b e = cc e

abbrev Pair : Version → Version → Type 0
Pair v w = v.handle <ℤ w.handle

ups : (vs : List Version) → AllPairs Pair vs → Up (map row_in vs)
ups [] rise = tt
ups (v ∷ vs) rise = (above vs (recursion_from_All (Pair v) vs (pairs_first Pair v vs rise)), ups vs (pairs_rest Pair v vs rise))
  where
    above : (vs : List Version) → AllByRecursion (Pair v) vs → Above v.handle (map row_in vs)
    above [] all = tt
    above (w ∷ vs) all = (less_is v.handle w.handle all.0, above vs all.1)

abbrev found_on : ℤ → List Version → Option Version
found_on h vs = find (λ (v : Version). int_eq v.handle h) vs

row_is : (h : ℤ) (vs : List Version) → row_on h (map row_in vs) ≡ option_map row_in (found_on h vs)
row_is h [] = refl
row_is h (v ∷ vs) = by (int_eq v.handle h) (row_is h vs)
  where
    by : (b : Bool) → row_on h (map row_in vs) ≡ option_map row_in (found_on h vs) → cond b (Some (row_in v)) (row_on h (map row_in vs)) ≡ option_map row_in (cond b (Some v) (found_on h vs))
    by true rest = refl
    by false rest = rest

found_has : (h : ℤ) (vs : List Version) (v : Version) → found_on h vs ≡ Some v → v.handle ≡ h
found_has h [] v e = cc e
found_has h (w ∷ vs) v e = by (int_eq w.handle h) refl e (found_has h vs v)
  where
    by : (b : Bool) → int_eq w.handle h ≡ b → cond b (Some w) (found_on h vs) ≡ Some v → (found_on h vs ≡ Some v → v.handle ≡ h) → v.handle ≡ h
    by true is e rest = ap (λ (o : Option Version). elim o [ None ↦ h | Some x ↦ x.handle ]) (sym e) ∙ int_same w.handle h is
    by false is e rest = rest e

abbrev cells_in : Option Row → Option (List Cell)
cells_in o = option_map (λ (r : Row). r.cells) o

cells_of_row : (log : Log) (h : ℤ) (o : Option (List ℕ)) → cells_in (option_map (row_of log.schema h) o) ≡ option_map (cells log.schema) o
cells_of_row log h None = refl
cells_of_row log h (Some value) = refl

-- what was read of a handle is the rule's row where it passes, if its cells are
module _ (passes : List Cell → Bool) where
  abbrev row_passes : Row → Bool
  row_passes row = passes row.cells

  row_by_cells : (h : ℤ) (vs : List Version) (rule : Option Row) → ((row : Row) → rule ≡ Some row → row.handle ≡ h) → cells_of h vs ≡ passed passes (cells_in rule) → row_on h (map row_in vs) ≡ keep row_passes rule
  row_by_cells h vs rule its same = row_is h vs ∙ by (found_on h vs) refl rule refl same
    where
      kept : (o : Option Version) → found_on h vs ≡ o → (row : Row) → rule ≡ Some row → (b : Bool) → option_map (λ (v : Version). v.cells) o ≡ cond b (Some row.cells) None → option_map row_in o ≡ cond b (Some row) None
      kept None is row e true s = cc s
      kept None is row e false s = refl
      kept (Some v) is row e true s = (λ i. Some (record { handle = (found_has h vs v is ∙ sym (its row e)) i; cells = some_cells v.cells row.cells s i }))
      kept (Some v) is row e false s = cc s

      by : (o : Option Version) → found_on h vs ≡ o → (r : Option Row) → rule ≡ r → option_map (λ (v : Version). v.cells) o ≡ passed passes (cells_in r) → option_map row_in o ≡ keep row_passes r
      by None is None e s = refl
      by (Some v) is None e s = cc s
      by o is (Some row) e s = kept o is row e (passes row.cells) s

-- ---- a handle of a cut is wanted

none_holds : (h : ℤ) (cuts : List Cut) → list_any (λ (cut : Cut). holds cut.range h) cuts ≡ false → All (λ (cut : Cut). holds cut.range h ≡ false) cuts
none_holds h [] e = All-nil (λ (cut : Cut). holds cut.range h ≡ false)
none_holds h (cut ∷ cuts) e = by (holds cut.range h) refl e (none_holds h cuts)
  where
    by : (b : Bool) → holds cut.range h ≡ b → (b || list_any (λ (cut : Cut). holds cut.range h) cuts) ≡ false → (list_any (λ (cut : Cut). holds cut.range h) cuts ≡ false → All (λ (cut : Cut). holds cut.range h ≡ false) cuts) → All (λ (cut : Cut). holds cut.range h ≡ false) (cut ∷ cuts)
    by true is e rest = absurd (true≢false e)
    by false is e rest = All-cons (λ (cut : Cut). holds cut.range h ≡ false) cut cuts is (rest e)

some_holds : (h : ℤ) (cuts : List Cut) (cut : Cut) → Contains cuts cut → holds cut.range h ≡ true → list_any (λ (cut : Cut). holds cut.range h) cuts ≡ true
some_holds h cuts cut has held = by (list_any (λ (cut : Cut). holds cut.range h) cuts) refl
  where
    by : (b : Bool) → list_any (λ (cut : Cut). holds cut.range h) cuts ≡ b → b ≡ true
    by true e = refl
    by false e = absurd (true≢false (sym held ∙ All-contains (λ (cut : Cut). holds cut.range h ≡ false) cuts cut (none_holds h cuts e) has))

wanted : (clip : HandleRange) (cuts : List Cut) (h : ℤ) (cut : Cut) → Contains cuts cut → holds cut.range h ≡ true → holds clip h ≡ true → is_wanted clip cuts h ≡ true
wanted clip cuts h cut has held within = (λ i. within i && some_holds h cuts cut has held i)

no_cut : (h : ℤ) (cuts : List Cut) → find (λ (cut : Cut). holds cut.range h) cuts ≡ None → list_any (λ (cut : Cut). holds cut.range h) cuts ≡ false
no_cut h [] e = refl
no_cut h (cut ∷ cuts) e = by (holds cut.range h) e (no_cut h cuts)
  where
    by : (b : Bool) → cond b (Some cut) (find (λ (cut : Cut). holds cut.range h) cuts) ≡ None → (find (λ (cut : Cut). holds cut.range h) cuts ≡ None → list_any (λ (cut : Cut). holds cut.range h) cuts ≡ false) → (b || list_any (λ (cut : Cut). holds cut.range h) cuts) ≡ false
    by true e rest = cc e
    by false e rest = rest e

and_false : (a : Bool) → (a && false) ≡ false
and_false true = refl
and_false false = refl

-- ---- the law

module _ {G : Type 0} (bytes : G → List ℕ) (log : Log) (lawful : IsLawful log) (A : ℕ → Bool) (closed : IsClosed log A) (m safe : ℕ) (cuts : List Cut) (ts : ℕ) (clip : HandleRange) (pieces : List (SegmentView G)) (tell : TellRead bytes log A m safe cuts ts clip pieces)
    (passes : List Cell → Bool) (found : List Version) (read : AreReadOf bytes passes cuts ts clip pieces found) where
  abbrev rule : ℤ → Option Row
  rule h = row_of_handle log cuts ts clip h

  in_cut : (cut : Cut) → Contains cuts cut → (h : ℤ) → holds cut.range h ≡ true → holds clip h ≡ true → cells_of h found ≡ passed passes (option_map (cells log.schema) (shown (commits_at log cut.region cut.index) ts h))
  in_cut cut has h held within =
      let asked = wanted clip cuts h cut has held within in
      let at = tell.cover h asked in
      let row = read.shown at.place at.piece at.here h at.held asked in
      let is = tell.settled cut has in
      let good = tell.good at.place at.piece at.here row.stable row.reads h at.held in
      row.kept ∙ ap (passed passes) (shows_one (view h row.stable (files_of at.piece.delta)) ts row.shown (option_map (cells log.schema) (shown (commits_at log cut.region cut.index) ts h)) row.shows
      (settled_shows log lawful A closed cut.region cut.index m safe ts cut.range is.range is.index is.settled h (trail h (of_parts at.piece.range row.stable (files_of at.piece.delta))) held tell.time good))

  abbrev shown_of : ℤ → Option Cut → Option (List ℕ)
  shown_of h o = option_and_then (λ (cut : Cut). shown (commits_of log cut) ts h) o

  nothing : (b : Bool) → cond {A = Option Row} b None None ≡ None
  nothing true = refl
  nothing false = refl

  cells_are : (h : ℤ) → cells_of h found ≡ passed passes (cells_in (rule h))
  cells_are h = by (holds clip h) refl (find (λ (cut : Cut). holds cut.range h) cuts) refl
    where
      by : (b : Bool) → holds clip h ≡ b → (o : Option Cut) → find (λ (cut : Cut). holds cut.range h) cuts ≡ o → cells_of h found ≡ passed passes (cells_in (rule h))
      by false out o is =
          read.others h (ap (λ b. b && list_any (λ (cut : Cut). holds cut.range h) cuts) out)
          ∙ sym (ap (λ b. passed passes (cells_in (cond b (option_map (row_of log.schema h) (shown_by log cuts ts h)) None))) out)
      by true within None is =
          read.others h (ap (λ b. holds clip h && b) (no_cut h cuts is) ∙ and_false (holds clip h))
          ∙ sym (ap (λ o. passed passes (cells_in (cond (holds clip h) (option_map (row_of log.schema h) (shown_of h o)) None))) is ∙ ap (λ o. passed passes (cells_in o)) (nothing (holds clip h)))
      by true within (Some cut) is =
          let has = cut_has h cuts cut is in
          in_cut cut has.0 h has.1 within ∙ ap (passed passes) (sym (cells_of_row log h (shown (commits_of log cut) ts h)))
          ∙ sym ((λ i. passed passes (cells_in (cond (within i) (option_map (row_of log.schema h) (shown_of h (is i))) None))))

  pub rows_read : map row_in found ≡ filter (λ (row : Row). passes row.cells) (rows log cuts ts clip)
  rows_read = one_list (map row_in found) (filter (λ (row : Row). passes row.cells) (rows log cuts ts clip)) (ups found read.rise) (up_filter (λ (row : Row). passes row.cells) (rows log cuts ts clip) up)
      (λ h. row_by_cells passes h found (rule h) (own log cuts ts clip h) (cells_are h)
      ∙ sym (on_filter (λ (row : Row). passes row.cells) h (rows log cuts ts clip) up ∙ ap (keep (λ (row : Row). passes row.cells)) (on_rule (row_of_handle log cuts ts clip) h (own log cuts ts clip) (rows log cuts ts clip) (rows_are log cuts ts clip))))
    where
      up : Up (rows log cuts ts clip)
      up = sorted_up (rows log cuts ts clip) (rows_are log cuts ts clip).rise
