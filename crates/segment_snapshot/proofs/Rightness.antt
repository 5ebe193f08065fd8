-- A scan of a snapshot of good segments gives the log's rows.
use Rattle.std.proofs.Common.{◌≡◌, ◌⊎◌, inl, inr, ◌∙◌, refl, sym, ap, subst, ℕ, zero, suc, ◌≤◌, ℤ, Bool, true, false, true≢false, cond, int_le, List, [], ◌∷◌, Option, Some, None, filter, map, slice_get, Ok}
use Rattle.std.specs.List.{All, AllByRecursion}
use Rattle.std.specs.Option.{ForSome}
use Rattle.std.proofs.lemmas.List.Elements.{recursion_from_All}
use Rattle.column_block.specs.declared.cell.Cell.{Cell}
use Rattle.column_block.specs.declared.cell.Row.{Row}
use Rattle.column_block.specs.declared.cell.Version.{Version}
use Rattle.column_block.specs.declared.column.Bound.{Bound}
use Rattle.flash_types.specs.Asks.{Asked}
use Rattle.flash_types.specs.Ranges.{holds, least_handle}
use Rattle.flash_types.specs.declared.range.HandleRange.{HandleRange}
use Rattle.flash_types.specs.declared.refusal.Cut.{Cut}
use Rattle.committed_log.specs.Applied.{IsClosed}
use Rattle.committed_log.specs.Lawful.{IsLawful}
use Rattle.committed_log.specs.Log.{Log}
use Rattle.committed_log.specs.Reads.{rows}
use Rattle.committed_log.specs.Replies.{AreCuts, refused}
use Rattle.log_laws.specs.Rows.{is_wanted}
use Rattle.log_laws.proofs.Granted.{cut_settled, time_is}
use Rattle.good_replica.specs.Changed.{of_parts}
use Rattle.good_replica.specs.Good.{AreGood, EachGood, IsGoodSegment}
use Rattle.good_replica.specs.Trail.{Segment}
use Rattle.delta_layer.specs.Files.{files_of}
use Rattle.delta_layer.specs.Stable.{stable_in}
use Rattle.delta_layer.specs.declared.view.SegmentView.{SegmentView}
use Rattle.stable_file.specs.Opened.{ArePacks, IsPack, NeverFall, packs_of}
use Rattle.stable_file.specs.declared.file.StableFile.{StableFile}
use Rattle.stable_file.specs.declared.pack.Pack.{Pack}
use Rattle.learner_read.specs.Laws.{AreRead, IsWell, KeepsTest, KeptAs, TellsColumn}
use Rattle.learner_read.specs.Packs.{packs_in}
use Rattle.learner_read.specs.Pieces.{is_needed}
use Rattle.learner_read.specs.Scans.{Scans}
use Rattle.learner_read.specs.declared.snapshot.Snapshot.{Snapshot}
use Rattle.learner_read.proofs.Reading.{are_read, whole as scan_whole}
use Rattle.read_laws.specs.Reads.{AreReadOf, HasNeeded, HasPiece, HaveShown, TellRead, passed, row_in}
use Rattle.read_laws.proofs.Covered.{asked_is_covered}
use Rattle.read_laws.proofs.Filtered.{all_pass}
use Rattle.read_laws.proofs.Passing.{rows_read}
use Rattle.segment_list.specs.Slots.{Slotted, view_of}
use Rattle.segment_snapshot.specs.Rights.{AreReadable, IsReadable, IsRightScan, Reads, ScansGive, TellBound, answers_as, stable_of, versions_or_none, whole}
use Rattle.segment_snapshot.specs.Views.{HasOpenFile, IsSnapshotOf, needed_views, needs_slot}
use Rattle.segment_snapshot.proofs.Needed.{each_piece, passed_over, shared}
use Rattle.segment_snapshot.proofs.Widths.{none_told}

-- ---- lists

all_at : {X : Type 0} (P : X → Type 0) (xs : List X) (k : ℕ) (x : X) → AllByRecursion P xs → slice_get xs k ≡ Some x → P x
all_at P [] k x all e = cc e
all_at P (y ∷ xs) zero x all e = (let same : y ≡ x = cc e in subst P same all.0)
all_at P (y ∷ xs) (suc k) x all e = all_at P xs k x all.1 e

mapped_at : {X Y : Type 0} (f : X → Y) (xs : List X) (k : ℕ) (y : Y) → slice_get (map f xs) k ≡ Some y → (x : X) × (slice_get xs k ≡ Some x) × (f x ≡ y)
mapped_at f [] k y e = cc e
mapped_at f (x ∷ xs) zero y e = (x, refl, cc e)
mapped_at f (x ∷ xs) (suc k) y e = mapped_at f xs k y e

-- ---- the pieces of a snapshot and the segments that they are views of

module _ {G : Type 0} (clip : HandleRange) (cuts : List Cut) where
  of_slot : (slots : List (Slotted G)) (k : ℕ) (piece : SegmentView G) → slice_get (needed_views clip cuts slots) k ≡ Some piece → (j : ℕ) × (s : Slotted G) × (slice_get slots j ≡ Some s) × (view_of s ≡ piece)
  of_slot [] k piece e = cc e
  of_slot (s ∷ slots) k piece e = by (needs_slot clip cuts s) refl k e (λ q. of_slot slots q piece)
    where
      later : (j : ℕ) × (t : Slotted G) × (slice_get slots j ≡ Some t) × (view_of t ≡ piece) → (j : ℕ) × (t : Slotted G) × (slice_get (s ∷ slots) j ≡ Some t) × (view_of t ≡ piece)
      later r = (suc r.0, r.1, r.2, r.3)

      here : (k : ℕ) → slice_get (view_of s ∷ needed_views clip cuts slots) k ≡ Some piece → ((q : ℕ) → slice_get (needed_views clip cuts slots) q ≡ Some piece → (j : ℕ) × (t : Slotted G) × (slice_get slots j ≡ Some t) × (view_of t ≡ piece)) → (j : ℕ) × (t : Slotted G) × (slice_get (s ∷ slots) j ≡ Some t) × (view_of t ≡ piece)
      here zero e rest = (zero, s, refl, cc e)
      here (suc q) e rest = later (rest q e)

      by : (b : Bool) → needs_slot clip cuts s ≡ b → (k : ℕ) → slice_get (needed_views clip cuts (s ∷ slots)) k ≡ Some piece → ((q : ℕ) → slice_get (needed_views clip cuts slots) q ≡ Some piece → (j : ℕ) × (t : Slotted G) × (slice_get slots j ≡ Some t) × (view_of t ≡ piece)) → (j : ℕ) × (t : Slotted G) × (slice_get (s ∷ slots) j ≡ Some t) × (view_of t ≡ piece)
      by true is k e rest = here k (ap (λ vs. slice_get vs k) (sym (shared clip cuts s slots is)) ∙ e) rest
      by false is k e rest = later (rest k (ap (λ vs. slice_get vs k) (sym (passed_over clip cuts s slots is)) ∙ e))

  has_view : (slots : List (Slotted G)) (j : ℕ) (s : Slotted G) → slice_get slots j ≡ Some s → needs_slot clip cuts s ≡ true → (k : ℕ) × (slice_get (needed_views clip cuts slots) k ≡ Some (view_of s))
  has_view [] j s e is = cc e
  has_view (t ∷ slots) zero s e is = (let same : t ≡ s = cc e in (zero, ap (λ vs. slice_get vs 0) (shared clip cuts t slots (ap (needs_slot clip cuts) same ∙ is)) ∙ ap (λ (x : Slotted G). Some (view_of x)) same))
  has_view (t ∷ slots) (suc j) s e is = by (needs_slot clip cuts t) refl (has_view slots j s e is)
    where
      by : (b : Bool) → needs_slot clip cuts t ≡ b → (k : ℕ) × (slice_get (needed_views clip cuts slots) k ≡ Some (view_of s)) → (k : ℕ) × (slice_get (needed_views clip cuts (t ∷ slots)) k ≡ Some (view_of s))
      by true at r = (suc r.0, ap (λ vs. slice_get vs (suc r.0)) (shared clip cuts t slots at) ∙ r.1)
      by false at r = (r.0, ap (λ vs. slice_get vs r.0) (passed_over clip cuts t slots at) ∙ r.1)

-- ---- good pieces tell the read

module _ {G : Type 0} (bytes : G → List ℕ) (log : Log) (A : ℕ → Bool) (m safe : ℕ) where
  good_at : (slots : List (Slotted G)) (j : ℕ) (s : Slotted G) → EachGood log A m safe (map (whole bytes) slots) → slice_get slots j ≡ Some s → IsGoodSegment log A m safe (whole bytes s)
  good_at [] j s all e = cc e
  good_at (t ∷ slots) zero s all e = (let same : t ≡ s = cc e in subst (λ (x : Slotted G). IsGoodSegment log A m safe (whole bytes x)) same all.0)
  good_at (t ∷ slots) (suc j) s all e = good_at slots j s all.1 e

  good_view : (s : Slotted G) → IsGoodSegment log A m safe (whole bytes s) → (stable : List Version) → stable_in bytes s.stable ≡ Ok stable → IsGoodSegment log A m safe (of_parts s.range stable (files_of s.files))
  good_view s good stable e = subst (λ (vs : List Version). IsGoodSegment log A m safe (of_parts s.range vs (files_of s.files))) (ap versions_or_none e) good

  tell : (slots : List (Slotted G)) → AreGood log A m safe (map (whole bytes) slots) → (ask : Asked) → refused log ask A safe m ≡ None → (cuts : List Cut) → AreCuts log A ask.regions cuts → int_le least_handle ask.clip.low ≡ true → TellRead bytes log A m safe cuts ask.ts ask.clip (needed_views ask.clip cuts slots)
  tell slots good ask granted cuts are begins = record {
    time = time_is log A ask safe m granted;
    settled = cut_settled log A ask safe m granted cuts are;
    cover = λ h wanted.
        let has = asked_is_covered least_handle (map (whole bytes) slots) good.cover ask.clip cuts begins h wanted in
        let slot = mapped_at (whole bytes) slots has.place has.segment has.here in
        let needed : needs_slot ask.clip cuts slot.0 ≡ true = ap (λ (x : Segment). is_needed ask.clip cuts x.range) slot.2 ∙ has.needed in
        let view = has_view ask.clip cuts slots has.place slot.0 slot.1 needed in
        record { place = view.0; piece = view_of slot.0; here = view.1; held = ap (λ (x : Segment). holds x.range h) slot.2 ∙ has.held };
    good = λ k piece here stable reads.
        let of = of_slot ask.clip cuts slots k piece here in
        let same = of.3 in
        subst (λ (x : SegmentView G). IsGoodSegment log A m safe (of_parts x.range stable (files_of x.delta))) same (good_view of.1 (good_at slots of.0 of.1 good.handles of.2) stable (ap (λ (x : SegmentView G). stable_in bytes x.stable) same ∙ reads));
  }

-- ---- what was read

module _ {G : Type 0} (bytes : G → List ℕ) (snapshot : Snapshot G) where
  never_fall : (part : Option (StableFile G)) → ForSome part (λ (file : StableFile G). ArePacks (packs_of file)) → NeverFall (packs_in part)
  never_fall None opened = tt
  never_fall (Some file) opened = (opened file refl).order

  are_packs : (part : Option (StableFile G)) → ForSome part (λ (file : StableFile G). ArePacks (packs_of file)) → AllByRecursion IsPack (packs_in part)
  are_packs None opened = tt
  are_packs (Some file) opened = (opened file refl).each

  well : (bound : Option Bound) (pieces : List (SegmentView G)) → AllByRecursion (λ (piece : SegmentView G). Reads bytes piece.stable) pieces → AllByRecursion HasOpenFile pieces → TellBound bound pieces → AllByRecursion (λ (piece : SegmentView G). IsWell bytes bound piece) pieces
  well bound [] reads opened tells = tt
  well bound (piece ∷ pieces) reads opened tells = (
    record { stable = reads.0.0; reads = reads.0.1; order = never_fall piece.stable opened.0; each = are_packs piece.stable opened.0; tells = tells.0 },
    well bound pieces reads.1 opened.1 tells.1,
  )

  kept_is : (passes : List Cell → Bool) (shown kept : Option (List Cell)) → KeptAs (answers_as passes) shown kept → kept ≡ passed passes shown
  kept_is passes None kept is = is
  kept_is passes (Some cells) kept (inl shows) = shows.0 ∙ sym (ap (λ (b : Bool). cond b (Some cells) None) shows.1)
  kept_is passes (Some cells) kept (inr hides) = hides.0 ∙ sym (ap (λ (b : Bool). cond b (Some cells) None) (fails hides.1))
    where
      is_false : (b : Bool) → (b ≡ true → ⊥) → b ≡ false
      is_false true never = absurd (never refl)
      is_false false never = refl

      fails : (passes cells ≡ false) ⊎ (passes cells ≡ true → ⊥) → passes cells ≡ false
      fails (inl out) = out
      fails (inr never) = is_false (passes cells) never

  read_of : (passes : List Cell → Bool) (bound : Option Bound) (found : List Version) → AllByRecursion (λ (piece : SegmentView G). IsWell bytes bound piece) snapshot.pieces → AreRead bytes snapshot (answers_as passes) bound snapshot.pieces found → AreReadOf bytes passes snapshot.cuts snapshot.ts snapshot.clip snapshot.pieces found
  read_of passes bound found wells read = record {
    rise = read.rise;
    others = read.asked;
    shown = λ k piece here h held wanted.
        let s = read.shown k piece here (all_at (λ (x : SegmentView G). IsWell bytes bound x) snapshot.pieces k piece wells here) h held wanted in
        record { stable = s.stable; reads = s.reads; shown = s.shown; shows = s.shows; kept = kept_is passes s.shown _ s.kept };
  }

-- ---- the law

module _ {G : Type 0} (bytes : G → List ℕ) (log : Log) (lawful : IsLawful log) (A : ℕ → Bool) (closed : IsClosed log A) (m safe : ℕ) (slots : List (Slotted G)) (readable : AreReadable bytes slots) (good : AreGood log A m safe (map (whole bytes) slots)) (ask : Asked) (granted : refused log ask A safe m ≡ None) (cuts : List Cut) (are : AreCuts log A ask.regions cuts)
    (count generation pack_rows : ℕ) (snapshot : Snapshot G) (is : IsSnapshotOf slots ask.ts ask.clip cuts count generation pack_rows snapshot) where
  tells : TellRead bytes log A m safe snapshot.cuts snapshot.ts snapshot.clip snapshot.pieces
  tells = subst (λ (q : List Cut × ℕ × HandleRange × List (SegmentView G)). TellRead bytes log A m safe q.0 q.1 q.2 q.3) same (tell bytes log A m safe slots good ask granted cuts are is.begins)
    where
      asked : List Cut × ℕ × HandleRange × List (SegmentView G)
      asked = (cuts, ask.ts, ask.clip, needed_views ask.clip cuts slots)

      seen : List Cut × ℕ × HandleRange × List (SegmentView G)
      seen = (snapshot.cuts, snapshot.ts, snapshot.clip, snapshot.pieces)

      same : asked ≡ seen
      same = sym (λ i. (is.cuts i, is.ts i, is.clip i, is.pieces i))

  reading : AllByRecursion (λ (piece : SegmentView G). Reads bytes piece.stable) snapshot.pieces
  reading = subst (AllByRecursion (λ (piece : SegmentView G). Reads bytes piece.stable)) (sym is.pieces) (each_piece ask.clip cuts (λ (piece : SegmentView G). Reads bytes piece.stable) slots readable)

  wells : (bound : Option Bound) → TellBound bound snapshot.pieces → AllByRecursion (λ (piece : SegmentView G). IsWell bytes bound piece) snapshot.pieces
  wells bound told = well bytes snapshot bound snapshot.pieces reading (recursion_from_All HasOpenFile snapshot.pieces is.opened) told

  gives : (passes : List Cell → Bool) (bound : Option Bound) → KeepsTest (answers_as passes) bound → TellBound bound snapshot.pieces → (found : List Version) → Scans bytes snapshot (answers_as passes) bound snapshot.pieces found None → map row_in found ≡ filter (λ (row : Row). passes row.cells) (rows log snapshot.cuts ask.ts ask.clip)
  gives passes bound keeps told found scans =
      rows_read bytes log lawful A closed m safe snapshot.cuts snapshot.ts snapshot.clip snapshot.pieces tells passes found (read_of bytes snapshot passes bound found (wells bound told) (are_read bytes snapshot (answers_as passes) bound keeps snapshot.pieces found snapshot.rise scans))
      ∙ (λ i. filter (λ (row : Row). passes row.cells) (rows log snapshot.cuts (is.ts i) (is.clip i)))

  pub right : IsRightScan bytes log A ask snapshot
  right = record {
    ts = is.ts;
    clip = is.clip;
    cuts = subst (AreCuts log A ask.regions) (sym is.cuts) are;
    reads = reading;
    passing = λ passes bound keeps told. record {
      rows = gives passes bound keeps told;
      undamaged = λ found at scans. scan_whole bytes snapshot (answers_as passes) bound snapshot.pieces found at (wells bound told) scans;
    };
    all = λ found scans. gives (λ _. true) None (λ b e. absurd (cc e)) (none_told snapshot.pieces) found scans ∙ all_pass (rows log snapshot.cuts ask.ts ask.clip);
  }
