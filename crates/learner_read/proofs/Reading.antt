-- The rows of a scan are the read rule over what its pieces have.
use Rattle.std.proofs.Common.{◌≡◌, ◌⊎◌, inl, inr, ◌∙◌, refl, sym, ap, subst, ℕ, zero, suc, ◌<◌, ◌≤◌, ◌<ℤ◌, ℤ, Bool, true, false, true≢false, cond, ◌&&◌, ◌||◌, List, [], ◌∷◌, ◌++◌, Option, Some, None, append_assoc, length, get_or, slice_get, option_map, fold, Result, Ok, Err, arith}
use Rattle.std.specs.Prelude.{find}
use Rattle.std.proofs.lemmas.List.Sums.{fold-append}
use Rattle.std.specs.List.{AllByRecursion, AllPairs}
use Rattle.std.specs.Option.{option_or}
use Rattle.column_block.specs.declared.cell.Cell.{Cell}
use Rattle.column_block.specs.declared.cell.Version.{Version}
use Rattle.column_block.specs.declared.column.Bound.{Bound}
use Rattle.column_block.specs.declared.column.Column.{Column}
use Rattle.flash_types.specs.Ranges.{holds}
use Rattle.good_replica.specs.Changed.{had, view}
use Rattle.good_replica.specs.Shows.{IsNewestAt, Shows}
use Rattle.good_replica.specs.Trail.{after_steps, after_versions, steps_on, versions_on}
use Rattle.good_replica.specs.Versions.{Versions}
use Rattle.delta_layer.specs.Files.{files_of}
use Rattle.delta_layer.specs.Present.{ArePresent}
use Rattle.delta_layer.specs.Stable.{stable_in, with_pack}
use Rattle.delta_layer.specs.declared.view.SegmentView.{SegmentView}
use Rattle.pack_codec.specs.declared.fault.FormError.{FormError}
use Rattle.pack_codec.specs.declared.fault.FormError.TheVariants as form
use Rattle.pack_codec.proofs.Binds.{ok_is}
use Rattle.stable_file.specs.Opened.{ArePacks, IsPack, NeverFall, grip_of, packs_of, schema_of}
use Rattle.stable_file.specs.declared.file.StableFile.{StableFile}
use Rattle.stable_file.specs.declared.pack.Pack.{Pack}
use Rattle.learner_read.specs.Laws.{AreRead, IsWell, KeepsTest, KeptAs, ScansFollow, ShowsRow, TellsColumn}
use Rattle.learner_read.specs.Packs.{packs_in, read_in, read_of}
use Rattle.learner_read.specs.Pieces.{PiecesRise, ends_before, is_needed}
use Rattle.learner_read.specs.Rows.{cells_on, is_asked, shown_rows}
use Rattle.learner_read.specs.Scans.{Answers, Leaves, Pass, Scans, rows_of}
use Rattle.learner_read.specs.Scans.Leaves.{Stopped, Whole}
use Rattle.learner_read.specs.Scans.Scans.{End, Passed, Shown, Broken}
use Rattle.learner_read.specs.declared.snapshot.Snapshot.{Snapshot}
use Rattle.learner_read.proofs.Members.{In, had_in, in_had}
use Rattle.learner_read.proofs.Newest.{IsTop, newest, shows}
use Rattle.learner_read.proofs.PackSteps.{stays_failed}
use Rattle.learner_read.proofs.RowsOf.{IsLower, asked, find_append, find_kept, find_other, in_append, in_each, irreflexive, kept_of, needed_at, on, ordered, pairs_join, pass_in, pass_rise, row_is, rows_rise}
use Rattle.learner_read.proofs.Skips.{IsSafe, IsSkipped, none_in_delta, none_passes, reads, safe_or, view_of}

-- what versions show at a timestamp is something
shows_some : (all : Versions) (ts : ℕ) → (o : Option (List Cell)) × Shows all ts o
shows_some all ts = elim (newest all ts) [ inl none ↦ (None, inl none) | inr x ↦ by x.0 x.1 x.2 x.1.gone refl ]
  where
    by : (c : ℕ) (v : Version) → IsNewestAt all ts c v → (b : Bool) → v.gone ≡ b → (o : Option (List Cell)) × Shows all ts o
    by c v n true is = (None, inr (c, v, n, is))
    by c v n false is = (Some v.cells, (c, v, n, is, refl))

module _ {G : Type 0} (bytes : G → List ℕ) (snapshot : Snapshot G) (test : Answers) (bound : Option Bound) (keeps : KeepsTest test bound) where
  -- ---- one piece

  module _ (piece : SegmentView G) (rows read versions : List Version) (is : read_in bytes piece.stable [] (read_of snapshot bound piece None (packs_in piece.stable)) ≡ Ok read) (present : ArePresent piece.range read (files_of piece.delta) versions) (passes : Pass test (rows_of snapshot versions) rows) where
    row_in : (v : Version) → In v rows → In v versions × ((asked snapshot v.handle ≡ true) × (IsTop snapshot.ts versions v × test v.cells true))
    row_in v i = (let p = pass_in test (rows_of snapshot versions) rows passes v i in let r = row_is snapshot versions v p.0 in (r.0, (r.1.0, (r.1.1, p.1))))

    rise_here : AllPairs IsLower rows
    rise_here = pass_rise test (rows_of snapshot versions) rows passes (rows_rise snapshot versions present.rise)

    held_here : (v : Version) → In v rows → holds piece.range v.handle ≡ true
    held_here v i = in_each (λ (v : Version). holds piece.range v.handle ≡ true) versions present.within v (row_in v i).0

    -- what is read of a part of which each pack is of the form
    part_read : (part : Option (StableFile G)) (stable : List Version) → stable_in bytes part ≡ Ok stable → NeverFall (packs_in part) → AllByRecursion IsPack (packs_in part) → AllByRecursion (TellsColumn bound) (packs_in part) → read_in bytes part [] (read_of snapshot bound piece None (packs_in part)) ≡ Ok read →
        ((v : Version) → In v read → In v stable)
        × ((h : ℤ) → IsSafe snapshot bound piece h None (packs_in part) → versions_on h read ≡ versions_on h stable)
        × ((h : ℤ) → holds piece.range h ≡ true → asked snapshot h ≡ true → IsSkipped snapshot bound piece h None (packs_in part) → (v : Version) → In v stable → v.handle ≡ h → test v.cells true → ⊥)
    part_read None stable e order each tells r = (
      λ v i. absurd (subst (In v) (sym (ok_is [] read r)) i),
      λ h safe. ap (versions_on h) (sym (ok_is [] read r) ∙ ok_is [] stable e),
      λ h held wanted skipped. absurd skipped,
    )
    part_read (Some file) stable e order each tells r =
        let x = reads snapshot bound piece (schema_of file) (bytes (grip_of file)) None (packs_of file) [] [] stable e tt (λ v i. i) in
        let same : x.read ≡ read = ok_is x.read read (sym x.is ∙ r) in (
          λ v i. x.of v (subst (In v) (sym same) i),
          λ h safe. ap (versions_on h) (sym same) ∙ x.same h refl safe,
          λ h held wanted skipped v i on passes. none_passes bound test (schema_of file) (bytes (grip_of file)) keeps snapshot piece h held wanted None (packs_of file) [] stable e order each tells (λ pack at. tt) (λ v i. absurd i) skipped v i on passes,
        )

    piece_shows : IsWell bytes bound piece → (h : ℤ) → holds piece.range h ≡ true → asked snapshot h ≡ true → ShowsRow bytes snapshot test piece h rows
    piece_shows well h held wanted = elim (safe_or snapshot bound piece h None (packs_in piece.stable)) [
      | inl safe ↦ record { stable = well.stable; reads = well.reads; shown = cells_on h (shown_rows snapshot.ts versions); shows = subst (λ (all : Versions). Shows all snapshot.ts (cells_on h (shown_rows snapshot.ts versions))) (λ i d. (present.here h d held ∙ ap (λ vs. after_steps d (after_versions d None vs) (steps_on h (files_of piece.delta))) (r.1 h safe)) i) (shows snapshot.ts versions present.rise h); kept = subst (λ o. KeptAs test o (cells_on h rows)) (ap (option_map (λ (v : Version). v.cells)) (find_kept (asked snapshot) h (shown_rows snapshot.ts versions) wanted)) (kept_of test h (rows_of snapshot versions) rows passes (rows_rise snapshot versions present.rise)) }
      | inr skipped ↦ (let s = shows_some (view h well.stable (files_of piece.delta)) snapshot.ts in record { stable = well.stable; reads = well.reads; shown = s.0; shows = s.1; kept = none_kept skipped s.0 s.1 })
    ]
      where
        r : ((v : Version) → In v read → In v well.stable)
            × ((h : ℤ) → IsSafe snapshot bound piece h None (packs_in piece.stable) → versions_on h read ≡ versions_on h well.stable)
            × ((h : ℤ) → holds piece.range h ≡ true → asked snapshot h ≡ true → IsSkipped snapshot bound piece h None (packs_in piece.stable) → (v : Version) → In v well.stable → v.handle ≡ h → test v.cells true → ⊥)
        r = part_read piece.stable well.stable well.reads well.order well.each well.tells is

        none_delta : IsSkipped snapshot bound piece h None (packs_in piece.stable) → (stable : List Version) (d : ℕ) (v : Version) → view h stable (files_of piece.delta) d ≡ Some v → In v stable × (v.handle ≡ h)
        none_delta skipped stable d v e = (let i = had_in h d v stable (view_of h stable piece.delta d v (none_in_delta bound test [] [] keeps snapshot piece h held wanted None (packs_in piece.stable) skipped) e) in (i.0, i.1.0))

        no_row : IsSkipped snapshot bound piece h None (packs_in piece.stable) → cells_on h rows ≡ None
        no_row skipped = ap (option_map (λ (v : Version). v.cells)) (find_other h rows (λ v i same.
            let w = row_in v i in
            let here = subst (λ k. had k versions v.ts ≡ Some v) same (in_had v versions present.rise w.0) in
            let n = none_delta skipped read v.ts v (sym (present.here h v.ts held) ∙ here) in
            r.2 h held wanted skipped v (r.0 v n.0) n.1 w.1.1.1))

        none_kept : IsSkipped snapshot bound piece h None (packs_in piece.stable) → (o : Option (List Cell)) → Shows (view h well.stable (files_of piece.delta)) snapshot.ts o → KeptAs test o (cells_on h rows)
        none_kept skipped None s = no_row skipped
        none_kept skipped (Some cells) s = inr (no_row skipped, inr (λ passes. (let n = none_delta skipped well.stable s.0 s.1 s.2.here in r.2 h held wanted skipped s.1 n.0 n.1 (subst (λ cs. test cs true) (sym s.4) passes))))

  -- ---- the rows of all pieces

  record OfPiece (pieces : List (SegmentView G)) (v : Version) : Type 0 where
    pub place : ℕ
    pub piece : SegmentView G
    pub there : slice_get pieces place ≡ Some piece
    pub held : holds piece.range v.handle ≡ true
    pub wanted : asked snapshot v.handle ≡ true

  record Together (pieces : List (SegmentView G)) (rows : List Version) : Type 0 where
    pub rise : AllPairs IsLower rows
    pub from : (v : Version) → In v rows → OfPiece pieces v
    pub shown : (k : ℕ) (piece : SegmentView G) → slice_get pieces k ≡ Some piece → IsWell bytes bound piece → (h : ℤ) → holds piece.range h ≡ true → asked snapshot h ≡ true → ShowsRow bytes snapshot test piece h rows

  later : (piece : SegmentView G) (more : List (SegmentView G)) (v : Version) → OfPiece more v → OfPiece (piece ∷ more) v
  later piece more v of = record { place = suc of.place; piece = of.piece; there = of.there; held = of.held; wanted = of.wanted }

  rest_rises : (piece : SegmentView G) (more : List (SegmentView G)) → PiecesRise (piece ∷ more) → PiecesRise more
  rest_rises piece more all i j d less within = all (suc i) (suc j) d (omega (arith, less)) (omega (arith, within))

  before_others : (piece other : SegmentView G) (more : List (SegmentView G)) (k : ℕ) → PiecesRise (piece ∷ more) → slice_get more k ≡ Some other → ends_before piece.range other.range ≡ true
  before_others piece other more k all there = subst (λ (x : SegmentView G). ends_before piece.range x.range ≡ true) (get_is more k other there) (all 0 (suc k) other (omega arith) (let l = inside more k other there in omega (arith, l)))
    where
      inside : (more : List (SegmentView G)) (k : ℕ) (other : SegmentView G) → slice_get more k ≡ Some other → k < length more
      inside [] k other e = cc e
      inside (x ∷ xs) zero other e = omega arith
      inside (x ∷ xs) (suc k) other e = (let l = inside xs k other e in omega (arith, l))

      get_is : (more : List (SegmentView G)) (k : ℕ) (other : SegmentView G) → slice_get more k ≡ Some other → get_or more k other ≡ other
      get_is [] k other e = refl
      get_is (x ∷ xs) zero other e = cc e
      get_is (x ∷ xs) (suc k) other e = get_is xs k other e

  passed : (piece : SegmentView G) (more : List (SegmentView G)) (rows : List Version) → is_needed snapshot.clip snapshot.cuts piece.range ≡ false → Together more rows → Together (piece ∷ more) rows
  passed piece more rows out t = record {
    rise = t.rise;
    from = λ v i. later piece more v (t.from v i);
    shown = at;
  }
    where
      at : (k : ℕ) (other : SegmentView G) → slice_get (piece ∷ more) k ≡ Some other → IsWell bytes bound other → (h : ℤ) → holds other.range h ≡ true → asked snapshot h ≡ true → ShowsRow bytes snapshot test other h rows
      at zero other e well h held wanted = (let same : piece ≡ other = cc e in absurd (true≢false (sym (needed_at snapshot.clip snapshot.cuts piece.range h (ap (λ (x : SegmentView G). holds x.range h) same ∙ held) wanted) ∙ out)))
      at (suc k) other e well h held wanted = t.shown k other e well h held wanted

  shown : (piece : SegmentView G) (more : List (SegmentView G)) (here rows : List Version) → PiecesRise (piece ∷ more) → AllPairs IsLower here → ((v : Version) → In v here → (holds piece.range v.handle ≡ true) × (asked snapshot v.handle ≡ true)) → (IsWell bytes bound piece → (h : ℤ) → holds piece.range h ≡ true → asked snapshot h ≡ true → ShowsRow bytes snapshot test piece h here) → Together more rows → Together (piece ∷ more) (here ++ rows)
  shown piece more here rows pieces_rise rise of shows_here t = record {
    rise = pairs_join here rows rise t.rise across;
    from = λ v i. elim (in_append v here rows i) [ inl a ↦ record { place = zero; piece = piece; there = refl; held = (of v a).0; wanted = (of v a).1 } | inr b ↦ later piece more v (t.from v b) ];
    shown = at;
  }
    where
      across : (v w : Version) → In v here → In w rows → IsLower v w
      across v w i j = (let o = t.from w j in ordered piece.range o.piece.range (before_others piece o.piece more o.place pieces_rise o.there) v.handle w.handle (of v i).0 o.held)

      or_none : (o : Option Version) → option_or o None ≡ o
      or_none None = refl
      or_none (Some v) = refl

      at : (k : ℕ) (other : SegmentView G) → slice_get (piece ∷ more) k ≡ Some other → IsWell bytes bound other → (h : ℤ) → holds other.range h ≡ true → asked snapshot h ≡ true → ShowsRow bytes snapshot test other h (here ++ rows)
      at zero other e well h held wanted =
          let same : other ≡ piece = cc (sym e) in
          let mine : holds piece.range h ≡ true = ap (λ (x : SegmentView G). holds x.range h) (sym same) ∙ held in
          let none : find (on h) rows ≡ None = find_other h rows (λ w j is_h. (let o = t.from w j in irreflexive h w.handle (ordered piece.range o.piece.range (before_others piece o.piece more o.place pieces_rise o.there) h w.handle mine o.held) (sym is_h))) in
          let cells : cells_on h (here ++ rows) ≡ cells_on h here = ap (option_map (λ (v : Version). v.cells)) (find_append h here rows ∙ ap (option_or (find (on h) here)) none ∙ or_none (find (on h) here)) in
          let s = shows_here (subst (IsWell bytes bound) same well) h mine wanted in
          subst (λ (x : SegmentView G). ShowsRow bytes snapshot test x h (here ++ rows)) (sym same) (record { stable = s.stable; reads = s.reads; shown = s.shown; shows = s.shows; kept = subst (KeptAs test s.shown) (sym cells) s.kept })
      at (suc k) other e well h held wanted =
          let s = t.shown k other e well h held wanted in
          let none : find (on h) here ≡ None = find_other h here (λ v i is_h. irreflexive v.handle h (ordered piece.range other.range (before_others piece other more k pieces_rise e) v.handle h (of v i).0 held) is_h) in
          let cells : cells_on h (here ++ rows) ≡ cells_on h rows = ap (option_map (λ (v : Version). v.cells)) (find_append h here rows ∙ ap (λ o. option_or o (find (on h) rows)) none) in
          record { stable = s.stable; reads = s.reads; shown = s.shown; shows = s.shows; kept = subst (KeptAs test s.shown) (sym cells) s.kept }

  shown_whole : (piece : SegmentView G) (more : List (SegmentView G)) (here rows : List Version) (damage : Option ℕ) → damage ≡ None → Leaves bytes snapshot test piece piece.range [] (read_of snapshot bound piece None (packs_in piece.stable)) here damage → PiecesRise (piece ∷ more) → Together more rows → Together (piece ∷ more) (here ++ rows)
  shown_whole piece more _ rows _ whole (Whole stable versions here is present passes) rise t =
      shown piece more here rows rise (rise_here piece here stable versions is present passes)
      (λ v i. (held_here piece here stable versions is present passes v i, (row_in piece here stable versions is present passes v i).1.0))
      (piece_shows piece here stable versions is present passes) t
  shown_whole piece more _ rows _ whole (Stopped first pack others stable versions here at is reads fails present passes) rise t = cc whole

  together : (pieces : List (SegmentView G)) (rows : List Version) (damage : Option ℕ) → Scans bytes snapshot test bound pieces rows damage → damage ≡ None → PiecesRise pieces → Together pieces rows
  together [] _ _ End whole rise = record { rise = λ i j d less within. absurd (omega (arith, within)); from = λ v i. absurd i; shown = λ k piece e. cc e }
  together _ _ _ (Passed piece more rows damage out scans) whole rise = passed piece more rows out (together more rows damage scans whole (rest_rises piece more rise))
  together _ _ _ (Shown piece more here rows damage needed is scans) whole rise = shown_whole piece more here rows None refl is rise (together more rows damage scans whole (rest_rises piece more rise))
  together _ _ _ (Broken piece more rows at needed broken) whole rise = cc whole

  pub are_read : (pieces : List (SegmentView G)) (rows : List Version) → PiecesRise pieces → Scans bytes snapshot test bound pieces rows None → AreRead bytes snapshot test bound pieces rows
  are_read pieces rows rise scans =
      let t = together pieces rows None scans refl rise in
      record {
        rise = t.rise;
        asked = λ h out. ap (option_map (λ (v : Version). v.cells)) (find_other h rows (λ v i is_h. true≢false (sym (t.from v i).wanted ∙ ap (asked snapshot) is_h ∙ out)));
        within = λ h outside. ap (option_map (λ (v : Version). v.cells)) (find_other h rows (λ v i is_h. (let of = t.from v i in true≢false (sym of.held ∙ ap (holds of.piece.range) is_h ∙ outside of.place of.piece of.there))));
        shown = t.shown;
      }

-- ---- damage

module _ {G : Type 0} (bytes : G → List ℕ) (snapshot : Snapshot G) (test : Answers) (bound : Option Bound) where
  broken_fold : (columns : List Column) (content : List ℕ) (before stable : List Version) (first : List Pack) (pack : Pack) (more : List Pack) (e : FormError) → fold (with_pack columns content) (Ok before) first ≡ Ok stable → fold (with_pack columns content) (Ok stable) (pack ∷ []) ≡ Err e → fold (with_pack columns content) (Ok before) (first ++ pack ∷ more) ≡ Err e
  broken_fold columns content before stable first pack more e read fails =
      fold-append (with_pack columns content) (Ok before) first (pack ∷ more)
      ∙ ap (λ r. fold (with_pack columns content) r (pack ∷ more)) read
      ∙ ap (λ r. fold (with_pack columns content) r more) fails
      ∙ stays_failed columns content more e

  -- a part of which each pack is of the form has no pack that isn't
  part_whole : (piece : SegmentView G) (part : Option (StableFile G)) (stable after : List Version) (first : List Pack) (pack : Pack) (more : List Pack) (e : FormError) → stable_in bytes part ≡ Ok stable → read_of snapshot bound piece None (packs_in part) ≡ first ++ pack ∷ more → read_in bytes part [] first ≡ Ok after → read_in bytes part after (pack ∷ []) ≡ Err e → ⊥
  part_whole piece None stable after first pack more e well is read fails = cc fails
  part_whole piece (Some file) stable after first pack more e well is read fails =
      let x = reads snapshot bound piece (schema_of file) (bytes (grip_of file)) None (packs_of file) [] [] stable well tt (λ v i. i) in
      cc (sym x.is ∙ ap (fold (with_pack (schema_of file) (bytes (grip_of file))) (Ok [])) is ∙ broken_fold (schema_of file) (bytes (grip_of file)) [] after first pack more e read fails)

  piece_whole : (piece : SegmentView G) (rows : List Version) (damage : Option ℕ) (at : ℕ) → damage ≡ Some at → IsWell bytes bound piece → Leaves bytes snapshot test piece piece.range [] (read_of snapshot bound piece None (packs_in piece.stable)) rows damage → ⊥
  piece_whole piece _ _ at is well (Whole stable versions rows read present passes) = cc is
  piece_whole piece _ _ at is well (Stopped first pack more stable versions rows place same read fails present passes) = part_whole piece piece.stable well.stable stable first pack more (form.Damaged place) well.reads same read fails

  all_whole : (pieces : List (SegmentView G)) (rows : List Version) (damage : Option ℕ) (at : ℕ) → damage ≡ Some at → AllByRecursion (λ (piece : SegmentView G). IsWell bytes bound piece) pieces → Scans bytes snapshot test bound pieces rows damage → ⊥
  all_whole _ _ _ at is well End = cc is
  all_whole _ _ _ at is well (Passed piece more rows damage out scans) = all_whole more rows damage at is well.1 scans
  all_whole _ _ _ at is well (Shown piece more here rows damage needed shows scans) = all_whole more rows damage at is well.1 scans
  all_whole _ _ _ at is well (Broken piece more rows place needed shows) = piece_whole piece rows (Some place) place refl well.0 shows

  pub whole : (pieces : List (SegmentView G)) (rows : List Version) (at : ℕ) → AllByRecursion (λ (piece : SegmentView G). IsWell bytes bound piece) pieces → Scans bytes snapshot test bound pieces rows (Some at) → ⊥
  whole pieces rows at well scans = all_whole pieces rows (Some at) at refl well scans

  -- ---- one scan behind another

  goes_on : (first others : List (SegmentView G)) (rows later : List Version) (before damage : Option ℕ) → before ≡ None → Scans bytes snapshot test bound first rows before → Scans bytes snapshot test bound others later damage → Scans bytes snapshot test bound (first ++ others) (rows ++ later) damage
  goes_on _ others _ later _ damage none End second = second
  goes_on _ others _ later _ damage none (Passed piece more rows before out scans) second = Passed piece (more ++ others) (rows ++ later) damage out (goes_on more others rows later before damage none scans second)
  goes_on _ others _ later _ damage none (Shown piece more here rows before needed shows scans) second =
      subst (λ vs. Scans bytes snapshot test bound (piece ∷ more ++ others) vs damage) (sym (append_assoc here rows later)) (Shown piece (more ++ others) here (rows ++ later) damage needed shows (goes_on more others rows later before damage none scans second))
  goes_on _ others _ later _ damage none (Broken piece more rows at needed shows) second = cc none

  ends : (first others : List (SegmentView G)) (rows : List Version) (before : Option ℕ) (at : ℕ) → before ≡ Some at → Scans bytes snapshot test bound first rows before → Scans bytes snapshot test bound (first ++ others) rows (Some at)
  ends _ others _ _ at is End = cc is
  ends _ others _ _ at is (Passed piece more rows before out scans) = Passed piece (more ++ others) rows (Some at) out (ends more others rows before at is scans)
  ends _ others _ _ at is (Shown piece more here rows before needed shows scans) = Shown piece (more ++ others) here rows (Some at) needed shows (ends more others rows before at is scans)
  ends _ others _ _ at is (Broken piece more rows place needed shows) = subst (λ o. Scans bytes snapshot test bound (piece ∷ more ++ others) rows o) is (Broken piece (more ++ others) rows place needed shows)

  pub follow : (first others : List (SegmentView G)) → ScansFollow bytes snapshot test bound first others
  follow first others = record {
    goes_on = λ rows later damage scans second. goes_on first others rows later None damage refl scans second;
    ends = λ rows at scans. ends first others rows (Some at) at refl scans;
  }
