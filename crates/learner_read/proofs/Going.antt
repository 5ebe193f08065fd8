-- A scan goes on piece by piece, and in a piece pack by pack.
use Rattle.std.proofs.Common.{◌≡◌, ◌∙◌, inl, inr, refl, sym, ap, subst, ℕ, zero, suc, ℤ, ◌+◌, ◌<◌, ◌≤◌, ◌≤ℤ◌, Bool, true, false, cond, Option, Some, None, List, [], ◌∷◌, ◌++◌, append_assoc, length, slice_get, slice_range, ◌-◌, take, drop, Result, Ok, Err, arith, add-one}
use Rattle.std.specs.Prelude.{IfErr, IfOk, IfSome, IsSome}
use Rattle.std.specs.List.{AllByRecursion}
use Rattle.std.proofs.lemmas.Int.{ints}
use Rattle.std.proofs.Math.ListN.{drop_of_length-le}
use Rattle.std.proofs.lemmas.List.{drop-drop, take-append-drop}
use Rattle.column_block.specs.declared.cell.Version.{Version}
use Rattle.column_block.specs.declared.column.Bound.{Bound}
use Rattle.stable_file.specs.Opened.{ArePacks, IsPack, NeverFall, packs_of}
use Rattle.stable_file.specs.declared.fault.ReadError.{ReadError}
use Rattle.stable_file.specs.declared.fault.ReadError.TheVariants.{Device, Damaged, Memory}
use Rattle.stable_file.specs.declared.file.StableFile.{StableFile}
use Rattle.stable_file.specs.declared.pack.Pack.{Pack}
use Rattle.delta_layer.specs.declared.view.SegmentView.{SegmentView}
use Rattle.flash_types.specs.declared.range.HandleRange.{HandleRange}
use Rattle.learner_read.specs.Left.{GivesMore, GivesStep, IsFilled, IsSomeBlock, LeftBy, next_place}
use Rattle.learner_read.specs.Packs.{before_of, is_read, packs_in, read_of}
use Rattle.learner_read.specs.Parts.{GivesFound, GivesInPiece, GivesPast, GoesOn, IsFound, IsNext, IsPast, LeftAt, LeftBehind, LeftIn, LeftOf, PacksAreAbove, rest_of}
use Rattle.learner_read.specs.Parts.GoesOn.{Then, Stops}
use Rattle.learner_read.specs.Pieces.{is_needed}
use Rattle.learner_read.specs.Scans.{Answers, GivesNext, Leaves, Left, Scans, Shows}
use Rattle.learner_read.specs.Scans.Scans.{End, Passed, Shown, Broken}
use Rattle.learner_read.specs.declared.state.Found.{Found}
use Rattle.learner_read.specs.declared.state.Part.{Part}
use Rattle.learner_read.specs.declared.state.Step.{Step}
use Rattle.learner_read.specs.declared.snapshot.Snapshot.{Snapshot}

-- ---- lists by places

pub dropped : {X : Type 0} (xs : List X) (k : ℕ) (x : X) → slice_get xs k ≡ Some x → drop k xs ≡ x ∷ drop (k + 1) xs
dropped xs k x at = from xs k at ∙ ap (λ n. x ∷ drop n xs) (sym (add-one k))
  where
    from : {X : Type 0} (xs : List X) (k : ℕ) {x : X} → slice_get xs k ≡ Some x → drop k xs ≡ x ∷ drop (suc k) xs
    from [] k at = cc at
    from (y ∷ ys) zero at = ap (λ z. z ∷ ys) (cc at)
    from (y ∷ ys) (suc k) at = from ys k at

dropped_next : {X : Type 0} (xs : List X) (k : ℕ) → slice_get (drop k xs) 0 ≡ slice_get xs k
dropped_next [] zero = refl
dropped_next [] (suc k) = refl
dropped_next (x ∷ xs) zero = refl
dropped_next (x ∷ xs) (suc k) = dropped_next xs k

pub all_dropped : {X : Type 0} (xs : List X) (n : ℕ) → length xs ≤ n → drop n xs ≡ []
all_dropped xs n le = drop_of_length-le xs le

-- ---- which packs are left

at_most : (a b c d : ℤ) → a ≤ℤ b → b ≤ℤ c → c ≤ℤ d → a ≤ℤ d
at_most a b c d p q r = omega (arith, ints, p, q, r)

above_from : (bound : ℤ) (pack : Pack) (packs : List Pack) → bound ≤ℤ pack.low → NeverFall (pack ∷ packs) → AllByRecursion IsPack (pack ∷ packs) → PacksAreAbove bound packs
above_from bound pack [] le order each = tt
above_from bound pack (next ∷ more) le order each =
    let up = at_most bound pack.low pack.high next.low le each.0.order order.0 in
    (up, above_from bound next more up order.1 each.1)

never_fall_rest : (pack : Pack) (packs : List Pack) → NeverFall (pack ∷ packs) → NeverFall packs
never_fall_rest pack [] order = tt
never_fall_rest pack (next ∷ more) order = order.1

itself : (h : ℤ) → h ≤ℤ h
itself h = omega (arith, ints)

above_at : (packs : List Pack) (k : ℕ) (pack : Pack) → NeverFall packs → AllByRecursion IsPack packs → slice_get packs k ≡ Some pack → PacksAreAbove pack.low (drop (suc k) packs)
above_at [] k pack order each at = cc at
above_at (p ∷ packs) zero pack order each at = (let same : p ≡ pack = cc at in subst (λ (q : Pack). PacksAreAbove q.low packs) same (above_from p.low p packs (itself p.low) order each))
above_at (p ∷ packs) (suc k) pack order each at = above_at packs k pack (never_fall_rest p packs order) each.1 at

module _ {G : Type 0} (snapshot : Snapshot G) (bound : Option Bound) (piece : SegmentView G) where
  read_above : (low : ℤ) (before : Option Pack) (packs : List Pack) → PacksAreAbove low packs → PacksAreAbove low (read_of snapshot bound piece before packs)
  read_above low before [] above = tt
  read_above low before (pack ∷ packs) above = elim (is_read snapshot bound piece before pack (slice_get packs 0)) as (λ b. PacksAreAbove low (cond b (pack ∷ read_of snapshot bound piece (Some pack) packs) (read_of snapshot bound piece (Some pack) packs))) [
    | true ↦ (above.0, read_above low (Some pack) packs above.1)
    | false ↦ read_above low (Some pack) packs above.1
  ]

  -- the packs that are left from a place on, of those that a scan reads
  abbrev pub read_from : List Pack → ℕ → List Pack
  read_from packs k = read_of snapshot bound piece (before_of packs k) (drop k packs)

  pub rest_above : (packs : List Pack) (k : ℕ) (pack : Pack) → ArePacks packs → slice_get packs k ≡ Some pack → PacksAreAbove pack.low (read_from packs (k + 1))
  rest_above packs k pack are at = read_above pack.low (before_of packs (k + 1)) (drop (k + 1) packs) (subst (λ n. PacksAreAbove pack.low (drop n packs)) (sym (add-one k)) (above_at packs k pack are.order are.each at))

  step : (packs : List Pack) (k : ℕ) (pack : Pack) (b : Bool) → slice_get packs k ≡ Some pack → b ≡ is_read snapshot bound piece (before_of packs k) pack (slice_get packs (k + 1)) → read_from packs k ≡ cond b (pack ∷ read_from packs (k + 1)) (read_from packs (k + 1))
  step packs k pack b at is =
      ap (read_of snapshot bound piece (before_of packs k)) (dropped packs k pack at)
      ∙ ap (λ o. cond (is_read snapshot bound piece (before_of packs k) pack o) (pack ∷ read_of snapshot bound piece (Some pack) (drop (k + 1) packs)) (read_of snapshot bound piece (Some pack) (drop (k + 1) packs))) (dropped_next packs (k + 1))
      ∙ ap (λ c. cond c (pack ∷ read_of snapshot bound piece (Some pack) (drop (k + 1) packs)) (read_of snapshot bound piece (Some pack) (drop (k + 1) packs))) (sym is)
      ∙ ap (λ o. cond b (pack ∷ read_of snapshot bound piece o (drop (k + 1) packs)) (read_of snapshot bound piece o (drop (k + 1) packs))) (sym (ap (before_of packs) (add-one k) ∙ at))

  pub step_read : (packs : List Pack) (k : ℕ) (pack : Pack) (b : Bool) → slice_get packs k ≡ Some pack → b ≡ is_read snapshot bound piece (before_of packs k) pack (slice_get packs (k + 1)) → b ≡ true → read_from packs k ≡ pack ∷ read_from packs (k + 1)
  step_read packs k pack b at is is_so = step packs k pack b at is ∙ ap (λ c. cond c (pack ∷ read_from packs (k + 1)) (read_from packs (k + 1))) is_so

  pub step_left : (packs : List Pack) (k : ℕ) (pack : Pack) (b : Bool) → slice_get packs k ≡ Some pack → b ≡ is_read snapshot bound piece (before_of packs k) pack (slice_get packs (k + 1)) → b ≡ false → read_from packs k ≡ read_from packs (k + 1)
  step_left packs k pack b at is isnt = step packs k pack b at is ∙ ap (λ c. cond c (pack ∷ read_from packs (k + 1)) (read_from packs (k + 1))) isnt

  pub none_left : (packs : List Pack) (k : ℕ) → length packs ≤ k → read_from packs k ≡ []
  none_left packs k le = ap (read_of snapshot bound piece (before_of packs k)) (all_dropped packs k le)

-- ---- in a piece

module _ {G : Type 0} (bytes : G → List ℕ) (snapshot : Snapshot G) (test : Answers) (bound : Option Bound) (piece : SegmentView G) where
  -- what is left in a state, with the packs from a place on
  abbrev pub LeftFrom : List Pack → Part → ℕ → Left
  LeftFrom packs part k rows damage = LeftAt bytes snapshot test piece part (read_from snapshot bound piece packs k) rows damage

  abbrev pub LeadsTo : Left → Left → Type 0
  LeadsTo old new = (rows : List Version) (damage : Option ℕ) → new rows damage → old rows damage

  -- a pack that isn't read
  pub left_out : (packs : List Pack) (old : Left) (part : Part) (k : ℕ) (pack : Pack) (b : Bool) → slice_get packs k ≡ Some pack → b ≡ is_read snapshot bound piece (before_of packs k) pack (slice_get packs (k + 1)) → b ≡ false → LeadsTo old (LeftFrom packs part k) → LeadsTo old (LeftFrom packs part (k + 1))
  left_out packs old part k pack b at is isnt leads rows damage left = leads rows damage (subst (λ ps. LeftAt bytes snapshot test piece part ps rows damage) (sym (step_left snapshot bound piece packs k pack b at is isnt)) left)

  -- a pack that is read, with nothing before it
  pub read_here : (packs : List Pack) (old : Left) (part next : Part) (k : ℕ) (pack : Pack) (b : Bool) (rows : List Version) → ArePacks packs → slice_get packs k ≡ Some pack → b ≡ is_read snapshot bound piece (before_of packs k) pack (slice_get packs (k + 1)) → b ≡ true → rows ≡ [] → LeadsTo old (LeftFrom packs part k) → IsPast bytes snapshot test piece part pack rows next → LeadsTo old (LeftFrom packs next (k + 1))
  read_here packs old part next k pack b rows are at is is_so none leads past later damage left =
      leads later damage (subst (λ ps. LeftAt bytes snapshot test piece part ps later damage) (sym (step_read snapshot bound piece packs k pack b at is is_so))
      (subst (λ (vs : List Version). IsPast bytes snapshot test piece part pack vs next) none past (read_from snapshot bound piece packs (k + 1)) later damage (rest_above snapshot bound piece packs k pack are at) left))

  -- rows before it
  pub rows_here : (packs : List Pack) (old : Left) (part next : Part) (k : ℕ) (pack : Pack) (b : Bool) (rows : List Version) → ArePacks packs → slice_get packs k ≡ Some pack → b ≡ is_read snapshot bound piece (before_of packs k) pack (slice_get packs (k + 1)) → b ≡ true → 0 < length rows → LeadsTo old (LeftFrom packs part k) → IsPast bytes snapshot test piece part pack rows next →
      (later : List Version) (damage : Option ℕ) → LeftFrom packs next k later damage → old (rows ++ later) damage
  rows_here packs old part next k pack b [] are at is is_so some leads past later damage left = absurd (omega (arith, some))
  rows_here packs old part next k pack b (row ∷ rows) are at is is_so some leads past later damage left =
      leads ((row ∷ rows) ++ later) damage (subst (λ ps. LeftAt bytes snapshot test piece part ps ((row ∷ rows) ++ later) damage) (sym (step_read snapshot bound piece packs k pack b at is is_so))
      (past (pack ∷ read_from snapshot bound piece packs (k + 1)) later damage (itself pack.low, rest_above snapshot bound piece packs k pack are at) (subst (λ ps. LeftAt bytes snapshot test piece next ps later damage) (step_read snapshot bound piece packs k pack b at is is_so) left)))

  -- the damage of a pack that is read
  pub damage_here : (packs : List Pack) (old : Left) (part : Part) (k : ℕ) (pack : Pack) (b : Bool) (at : ℕ) → ArePacks packs → slice_get packs k ≡ Some pack → b ≡ is_read snapshot bound piece (before_of packs k) pack (slice_get packs (k + 1)) → b ≡ true → LeadsTo old (LeftFrom packs part k) → GivesPast bytes snapshot test piece part pack (Err (Damaged at)) → old [] (Some at)
  damage_here packs old part k pack b at are there is is_so leads gives =
      leads [] (Some at) (subst (λ ps. LeftAt bytes snapshot test piece part ps [] (Some at)) (sym (step_read snapshot bound piece packs k pack b there is is_so)) (gives (read_from snapshot bound piece packs (k + 1)) (rest_above snapshot bound piece packs k pack are there)))

  -- the packs of a piece with a file
  pub of_file : (file : StableFile G) (part : Part) → piece.stable ≡ Some file → (rows : List Version) (damage : Option ℕ) → LeftFrom (packs_of file) part part.next rows damage → LeftOf bytes snapshot test bound piece part rows damage
  of_file file part has rows damage left = subst (λ o. LeftFrom (packs_in o) part part.next rows damage) (sym has) left

  pub to_file : (file : StableFile G) (part : Part) → piece.stable ≡ Some file → (rows : List Version) (damage : Option ℕ) → LeftOf bytes snapshot test bound piece part rows damage → LeftFrom (packs_of file) part part.next rows damage
  to_file file part has rows damage left = subst (λ o. LeftFrom (packs_in o) part part.next rows damage) has left

  -- what the calls in a piece answer

  pub last_found : (old left : Part) (r : Result Found ReadError) → ((rows : List Version) → LeftAt bytes snapshot test piece left [] rows None → LeftOf bytes snapshot test bound piece old rows None) → IfOk r (λ (f : Found). LeftAt bytes snapshot test piece left [] f.rows None) → IfOk r (λ (f : Found). f.part ≡ None) → IfErr r (λ e. e ≡ Memory) → GivesFound bytes snapshot test bound piece old r
  last_found old left (Ok f) leads has last memory = subst (λ o. IsNext bytes snapshot test bound piece (LeftOf bytes snapshot test bound piece old) f.rows o) (sym last) (leads f.rows has)
  last_found old left (Err Device) leads has last memory = tt
  last_found old left (Err Memory) leads has last memory = tt
  last_found old left (Err (Damaged at)) leads has last memory = cc memory

  pub file_fails : (packs : List Pack) (old part : Part) (k : ℕ) (pack : Pack) (b : Bool) (e : ReadError) → ArePacks packs → slice_get packs k ≡ Some pack → b ≡ is_read snapshot bound piece (before_of packs k) pack (slice_get packs (k + 1)) → b ≡ true → LeadsTo (LeftOf bytes snapshot test bound piece old) (LeftFrom packs part k) → GivesPast bytes snapshot test piece part pack (Err e) → GivesFound bytes snapshot test bound piece old (Err e)
  file_fails packs old part k pack b Device are there is is_so leads gives = tt
  file_fails packs old part k pack b Memory are there is is_so leads gives = tt
  file_fails packs old part k pack b (Damaged at) are there is is_so leads gives = damage_here packs (LeftOf bytes snapshot test bound piece old) part k pack b at are there is is_so leads gives

  pub file_found : (file : StableFile G) (old : Left) (part : Part) (k : ℕ) (rows : List Version) (found : Found) → piece.stable ≡ Some file → found.rows ≡ rows → IsSome found.part → IfSome found.part (λ (p : Part). (p.from ≡ part.from) × (p.before ≡ part.before) × (p.next ≡ k)) →
      ((later : List Version) (damage : Option ℕ) → LeftFrom (packs_of file) part k later damage → old (rows ++ later) damage) → IsNext bytes snapshot test bound piece old found.rows found.part
  file_found file old part k rows found has is some fields first = by found.part some fields
    where
      by : (o : Option Part) → IsSome o → IfSome o (λ (p : Part). (p.from ≡ part.from) × (p.before ≡ part.before) × (p.next ≡ k)) → IsNext bytes snapshot test bound piece old found.rows o
      by None s f = absurd (cc s)
      by (Some p) s f = λ later damage left.
          let at = to_file file p has later damage left in
          let a = subst (λ o. Leaves bytes snapshot test piece (rest_of piece.range o) p.before (read_from snapshot bound piece (packs_of file) p.next) later damage) f.0 at in
          let b = subst (λ vs. Leaves bytes snapshot test piece (rest_of piece.range part.from) vs (read_from snapshot bound piece (packs_of file) p.next) later damage) f.1 a in
          let c = subst (λ n. Leaves bytes snapshot test piece (rest_of piece.range part.from) part.before (read_from snapshot bound piece (packs_of file) n) later damage) f.2 b in
          subst (λ vs. old (vs ++ later) damage) (sym is) (first later damage c)

  pub no_packs : (packs : List Pack) (part : Part) (k : ℕ) (rows : List Version) → length packs ≤ k → LeftAt bytes snapshot test piece part [] rows None → LeftFrom packs part k rows None
  no_packs packs part k rows le left = subst (λ ps. LeftAt bytes snapshot test piece part ps rows None) (sym (none_left snapshot bound piece packs k le)) left

  pub no_file : (part : Part) (rows : List Version) → piece.stable ≡ None → LeftAt bytes snapshot test piece part [] rows None → LeftOf bytes snapshot test bound piece part rows None
  no_file part rows none left = subst (λ o. LeftFrom (packs_in o) part part.next rows None) (sym none) (no_packs [] part part.next rows (omega arith) left)

  -- ---- from one piece to the next

  goes_on : (old new : Left) (more : List (SegmentView G)) (rows later : List Version) (damage : Option ℕ) → ((l : List Version) (d : Option ℕ) → new l d → old (rows ++ l) d) → GoesOn bytes snapshot test bound new more later damage → GoesOn bytes snapshot test bound old more (rows ++ later) damage
  goes_on old new more rows _ _ first (Then here others damage left scans) = subst (λ vs. GoesOn bytes snapshot test bound old more vs damage) (append_assoc rows here others) (Then (rows ++ here) others damage (first here None left) scans)
  goes_on old new more rows _ _ first (Stops later at left) = Stops (rows ++ later) at (first later (Some at) left)

  pub in_part : (part : Part) (result : Result Found ReadError) → GivesFound bytes snapshot test bound piece part result → GivesInPiece bytes snapshot test bound (Some part) piece result
  in_part part (Ok found) gives = λ more later damage left. by more later damage found.part gives left
    where
      by : (more : List (SegmentView G)) (later : List Version) (damage : Option ℕ) (o : Option Part) → IsNext bytes snapshot test bound piece (LeftOf bytes snapshot test bound piece part) found.rows o → LeftBehind bytes snapshot test bound o piece more later damage → GoesOn bytes snapshot test bound (LeftOf bytes snapshot test bound piece part) more (found.rows ++ later) damage
      by more later damage None is scans = Then found.rows later damage is scans
      by more later damage (Some p) is left = goes_on (LeftOf bytes snapshot test bound piece part) (LeftOf bytes snapshot test bound piece p) more found.rows later damage is left
  in_part part (Err Device) gives = tt
  in_part part (Err Memory) gives = tt
  in_part part (Err (Damaged at)) gives = λ more. Stops [] at gives

  shows_is : (part : Part) → part.from ≡ None → part.before ≡ [] → part.next ≡ 0 → (rows : List Version) (damage : Option ℕ) → LeftOf bytes snapshot test bound piece part rows damage → Shows bytes snapshot test bound piece rows damage
  shows_is part from before next rows damage left =
      subst (λ n. Leaves bytes snapshot test piece piece.range [] (read_from snapshot bound piece (packs_in piece.stable) n) rows damage) next
      (subst (λ vs. Leaves bytes snapshot test piece piece.range vs (read_from snapshot bound piece (packs_in piece.stable) part.next) rows damage) before
      (subst (λ o. Leaves bytes snapshot test piece (rest_of piece.range o) part.before (read_from snapshot bound piece (packs_in piece.stable) part.next) rows damage) from left))

  begins : (part : Part) → is_needed snapshot.clip snapshot.cuts piece.range ≡ true → part.from ≡ None → part.before ≡ [] → part.next ≡ 0 → (more : List (SegmentView G)) (rows : List Version) (damage : Option ℕ) → GoesOn bytes snapshot test bound (LeftOf bytes snapshot test bound piece part) more rows damage → Scans bytes snapshot test bound (piece ∷ more) rows damage
  begins part needed from before next more _ _ (Then here others damage left scans) = Shown piece more here others damage needed (shows_is part from before next here None left) scans
  begins part needed from before next more _ _ (Stops rows at left) = Broken piece more rows at needed (shows_is part from before next rows (Some at) left)

  pub in_new : (part : Part) (result : Result Found ReadError) → is_needed snapshot.clip snapshot.cuts piece.range ≡ true → part.from ≡ None → part.before ≡ [] → part.next ≡ 0 → GivesFound bytes snapshot test bound piece part result → GivesInPiece bytes snapshot test bound None piece result
  in_new part (Ok found) needed from before next gives = λ more later damage left. begins part needed from before next more (found.rows ++ later) damage (in_part part (Ok found) gives more later damage left)
  in_new part (Err Device) needed from before next gives = tt
  in_new part (Err Memory) needed from before next gives = tt
  in_new part (Err (Damaged at)) needed from before next gives = λ more. begins part needed from before next more [] (Some at) (in_part part (Err (Damaged at)) gives more)

  pub in_none : (rows : List Version) → rows ≡ [] → is_needed snapshot.clip snapshot.cuts piece.range ≡ false → (more : List (SegmentView G)) (later : List Version) (damage : Option ℕ) → Scans bytes snapshot test bound more later damage → Scans bytes snapshot test bound (piece ∷ more) (rows ++ later) damage
  in_none rows none out more later damage scans = subst (λ vs. Scans bytes snapshot test bound (piece ∷ more) (vs ++ later) damage) (sym none) (Passed piece more later damage out scans)

-- ---- piece by piece

module _ {G : Type 0} (bytes : G → List ℕ) (snapshot : Snapshot G) (test : Answers) (bound : Option Bound) where
  abbrev pub Within : Option Part → List (SegmentView G) → Left
  Within part pieces = LeftIn bytes snapshot test bound part pieces

  to_behind : (piece : SegmentView G) (more : List (SegmentView G)) (k : ℕ) (part : Option Part) (pieces : List (SegmentView G)) (later : List Version) (damage : Option ℕ) → drop k pieces ≡ piece ∷ drop (k + 1) pieces → Within part (drop (next_place k part) pieces) later damage → LeftBehind bytes snapshot test bound part piece (drop (k + 1) pieces) later damage
  to_behind piece more k None pieces later damage is left = left
  to_behind piece more k (Some part) pieces later damage is left = subst (λ ps. Within (Some part) ps later damage) is left

  pub found_here : (pieces : List (SegmentView G)) (old : Left) (left : Option Part) (k : ℕ) (piece : SegmentView G) (rows : List Version) (part : Option Part) (found : Found) → slice_get pieces k ≡ Some piece → found ≡ record { rows = rows; part = part } → ((r : List Version) (d : Option ℕ) → Within left (drop k pieces) r d → old r d) → GivesInPiece bytes snapshot test bound left piece (Ok found) →
      (later : List Version) (damage : Option ℕ) → Within part (drop (next_place k part) pieces) later damage → old (rows ++ later) damage
  found_here pieces old left k piece rows part found at is leads gives later damage next =
      let here = dropped pieces k piece at in
      let gives' : GivesInPiece bytes snapshot test bound left piece (Ok (record { rows = rows; part = part })) = subst (λ f. GivesInPiece bytes snapshot test bound left piece (Ok f)) is gives in
      leads (rows ++ later) damage (subst (λ ps. Within left ps (rows ++ later) damage) (sym here) (gives' (drop (k + 1) pieces) later damage (to_behind piece (drop (k + 1) pieces) k part pieces later damage here next)))

  pub none_here : (pieces : List (SegmentView G)) (old : Left) (left : Option Part) (k : ℕ) (piece : SegmentView G) (rows : List Version) (found : Found) → slice_get pieces k ≡ Some piece → found ≡ record { rows = rows; part = None } → rows ≡ [] → ((r : List Version) (d : Option ℕ) → Within left (drop k pieces) r d → old r d) → GivesInPiece bytes snapshot test bound left piece (Ok found) →
      (later : List Version) (damage : Option ℕ) → Within None (drop (k + 1) pieces) later damage → old later damage
  none_here pieces old left k piece rows found at is none leads gives later damage next =
      subst (λ vs. old (vs ++ later) damage) none (found_here pieces old left k piece rows None found at is leads gives later damage next)

  pub damage_in : (pieces : List (SegmentView G)) (old : Left) (left : Option Part) (k : ℕ) (piece : SegmentView G) (at : ℕ) → slice_get pieces k ≡ Some piece → ((r : List Version) (d : Option ℕ) → Within left (drop k pieces) r d → old r d) → GivesInPiece bytes snapshot test bound left piece (Err (Damaged at)) → old [] (Some at)
  damage_in pieces old left k piece at there leads gives = leads [] (Some at) (subst (λ ps. Within left ps [] (Some at)) (sym (dropped pieces k piece there)) (gives (drop (k + 1) pieces)))

  pub none_behind : (pieces : List (SegmentView G)) (old : Left) (left : Option Part) (k : ℕ) → length pieces ≤ k → ((r : List Version) (d : Option ℕ) → Within left (drop k pieces) r d → old r d) → old [] None
  none_behind pieces old left k le leads = leads [] None (subst (λ ps. Within left ps [] None) (sym (all_dropped pieces k le)) (by left))
    where
      by : (left : Option Part) → Within left [] [] None
      by None = End
      by (Some part) = End

module _ {G : Type 0} (bytes : G → List ℕ) (snapshot : Snapshot G) (test : Answers) (bound : Option Bound) where
  pub step_fails : (new : ℕ → Option Part → Left) (pieces : List (SegmentView G)) (old : Left) (left : Option Part) (k : ℕ) (piece : SegmentView G) (e : ReadError) → slice_get pieces k ≡ Some piece → ((r : List Version) (d : Option ℕ) → LeftIn bytes snapshot test bound left (drop k pieces) r d → old r d) → GivesInPiece bytes snapshot test bound left piece (Err e) → GivesStep new old (Err e)
  step_fails new pieces old left k piece Device at leads gives = tt
  step_fails new pieces old left k piece Memory at leads gives = tt
  step_fails new pieces old left k piece (Damaged place) at leads gives = damage_in bytes snapshot test bound pieces old left k piece place at leads gives

  pub step_found : (pieces : List (SegmentView G)) (old : Left) (left : Option Part) (k : ℕ) (piece : SegmentView G) (found : Found) (step : Step) → slice_get pieces k ≡ Some piece → step.rows ≡ found.rows → step.part ≡ found.part → step.next ≡ next_place k found.part → ((r : List Version) (d : Option ℕ) → LeftIn bytes snapshot test bound left (drop k pieces) r d → old r d) → GivesInPiece bytes snapshot test bound left piece (Ok found) →
      (later : List Version) (damage : Option ℕ) → LeftIn bytes snapshot test bound step.part (drop step.next pieces) later damage → old (step.rows ++ later) damage
  step_found pieces old left k piece found step at rows part next leads gives later damage l =
      let l' : LeftIn bytes snapshot test bound found.part (drop (next_place k found.part) pieces) later damage = subst (λ n. LeftIn bytes snapshot test bound found.part (drop n pieces) later damage) next (subst (λ o. LeftIn bytes snapshot test bound o (drop step.next pieces) later damage) part l) in
      subst (λ vs. old (vs ++ later) damage) (sym rows) (found_here bytes snapshot test bound pieces old left k piece found.rows found.part found at refl leads gives later damage l')

pub take_get : {X : Type 0} (xs : List X) (n k : ℕ) (x : X) → k < n → slice_get xs k ≡ Some x → slice_get (take n xs) k ≡ Some x
take_get [] n k x less at = cc at
take_get (y ∷ ys) zero k x less at = absurd (omega (arith, less))
take_get (y ∷ ys) (suc n) zero x less at = at
take_get (y ∷ ys) (suc n) (suc k) x less at = take_get ys n k x (omega (arith, less)) at

pub is_empty : (rows : List Version) (n : ℕ) → n ≡ length rows → n ≤ 0 → rows ≡ []
is_empty [] n is none = refl
is_empty (v ∷ vs) n is none = absurd (omega (arith, is, none))

-- ---- blocks

pub block_first : (found : List Version) (given next : ℕ) → given ≤ next → slice_range found given next ++ drop next found ≡ drop given found
block_first found given next le = ap (λ vs. slice_range found given next ++ vs) (ap (λ n. drop n found) (sym m) ∙ sym (drop-drop (next - given) given found)) ∙ take-append-drop (next - given) (drop given found)
  where
    m : given + (next - given) ≡ next
    m = omega (arith, le)

module _ {G : Type 0} (bytes : G → List ℕ) (snapshot : Snapshot G) (test : Answers) (bound : Option Bound) where
  -- a block of rows that were found
  pub gives_block : (part : Option Part) (pieces : List (SegmentView G)) (found block : List Version) (given next : ℕ) → given ≤ next → block ≡ slice_range found given next → (rows : List Version) (damage : Option ℕ) → LeftBy bytes snapshot test bound part pieces (drop next found) rows damage → LeftBy bytes snapshot test bound part pieces (drop given found) (block ++ rows) damage
  gives_block part pieces found block given next le is rows damage left = record {
    later = left.later;
    together = (λ i. is i ++ left.together i) ∙ sym (append_assoc (slice_range found given next) (drop next found) left.later) ∙ ap (λ vs. vs ++ left.later) (block_first found given next le);
    left = left.left;
  }

  -- a block of rows that were found anew, where none was left
  pub gives_new : (part new : Option Part) (pieces others : List (SegmentView G)) (old found block : List Version) (given start next : ℕ) → length old ≤ given → start ≡ 0 → block ≡ slice_range found start next → ((later : List Version) (damage : Option ℕ) → LeftIn bytes snapshot test bound new others later damage → LeftIn bytes snapshot test bound part pieces (found ++ later) damage) →
      (rows : List Version) (damage : Option ℕ) → LeftBy bytes snapshot test bound new others (drop next found) rows damage → LeftBy bytes snapshot test bound part pieces (drop given old) (block ++ rows) damage
  gives_new part new pieces others old found block given start next none zero_is is first rows damage left = record {
    later = found ++ left.later;
    together = (λ i. is i ++ left.together i) ∙ sym (append_assoc (slice_range found start next) (drop next found) left.later)
        ∙ ap (λ vs. vs ++ left.later) (block_first found start next (subst (λ n. n ≤ next) (sym zero_is) (omega arith)) ∙ ap (λ n. drop n found) zero_is)
        ∙ ap (λ vs. vs ++ (found ++ left.later)) (sym (all_dropped old given none));
    left = first left.later damage left.left;
  }

  -- nothing, where nothing is left to be given
  pub nothing_found : (part : Option Part) (pieces : List (SegmentView G)) (found : List Version) (given : ℕ) (damage : Option ℕ) → length found ≤ given → LeftIn bytes snapshot test bound part pieces [] damage → LeftBy bytes snapshot test bound part pieces (drop given found) [] damage
  nothing_found part pieces found given damage none left = record { later = []; together = sym (ap (λ vs. vs ++ []) (all_dropped found given none)); left = left }

  pub nothing_left : (pieces : List (SegmentView G)) (to : ℕ) → LeftIn bytes snapshot test bound None (drop to (take to pieces)) [] None
  nothing_left pieces to = subst (λ ps. LeftIn bytes snapshot test bound None ps [] None) (sym (all_dropped (take to pieces) to (most to pieces))) End
    where
      most : (n : ℕ) (xs : List (SegmentView G)) → length (take n xs) ≤ n
      most zero xs = omega arith
      most (suc n) [] = omega arith
      most (suc n) (x ∷ xs) = (let l = most n xs in omega (arith, l))

pub take_most : {X : Type 0} (n : ℕ) (xs : List X) → length (take n xs) ≤ n
take_most zero xs = omega arith
take_most (suc n) [] = omega arith
take_most (suc n) (x ∷ xs) = (let l = take_most n xs in omega (arith, l))

pub take_within : {X : Type 0} (n : ℕ) (xs : List X) → length (take n xs) ≤ length xs
take_within zero xs = omega arith
take_within (suc n) [] = omega arith
take_within (suc n) (x ∷ xs) = (let l = take_within n xs in omega (arith, l))

-- where no rows were found, nothing is left of the piece
pub none_part : {G : Type 0} (snapshot : Snapshot G) (range : HandleRange) (found : Found) (n : ℕ) → IsFound snapshot range found → n ≡ length found.rows → n ≤ 0 → found.part ≡ None
none_part snapshot range found n is at none = by found.part is.some
  where
    by : (o : Option Part) → (IsSome o → 0 < length found.rows) → o ≡ None
    by None some = refl
    by (Some p) some = (let l = some refl in absurd (omega (arith, l, at, none)))

-- ---- errors

pub more_fails : (next : ℕ → Option Part → Left) (old new : Left) (found : List Version) (e : ReadError) → GivesStep next old (Err e) → GivesMore old new found (Err e)
more_fails next old new found Device gives = tt
more_fails next old new found Memory gives = tt
more_fails next old new found (Damaged at) gives = gives

pub block_fails : {G : Type 0} (bytes : G → List ℕ) (snapshot : Snapshot G) (test : Answers) (bound : Option Bound) (part : Option Part) (pieces : List (SegmentView G)) (found others : List Version) (given : ℕ) (left new : Left) (e : ReadError) → length found ≤ given → GivesMore (LeftIn bytes snapshot test bound part pieces) left others (Err e) → GivesNext (LeftBy bytes snapshot test bound part pieces (drop given found)) new (Err e)
block_fails bytes snapshot test bound part pieces found others given left new Device none gives = tt
block_fails bytes snapshot test bound part pieces found others given left new Memory none gives = tt
block_fails bytes snapshot test bound part pieces found others given left new (Damaged at) none gives = nothing_found bytes snapshot test bound part pieces found given (Some at) none gives

module _ {G : Type 0} (bytes : G → List ℕ) (snapshot : Snapshot G) (test : Answers) (bound : Option Bound) where
  pub none_step : (next : ℕ → Option Part → Left) (part taken new : Option Part) (pieces : List (SegmentView G)) (at to : ℕ) (o : Option Step) → o ≡ None → taken ≡ part → new ≡ None → GivesStep next (LeftIn bytes snapshot test bound taken (drop at (take to pieces))) (Ok o) →
      LeftIn bytes snapshot test bound part (drop at (take to pieces)) [] None × LeftIn bytes snapshot test bound new (drop to (take to pieces)) [] None
  none_step next part taken new pieces at to o is same none gives =
      let old = subst (λ o. GivesStep next (LeftIn bytes snapshot test bound taken (drop at (take to pieces))) (Ok o)) is gives in
      (subst (λ p. LeftIn bytes snapshot test bound p (drop at (take to pieces)) [] None) same old, subst (λ p. LeftIn bytes snapshot test bound p (drop to (take to pieces)) [] None) (sym none) (nothing_left bytes snapshot test bound pieces to))

  pub give_found : (n : ℕ) (part new : Option Part) (pieces others : List (SegmentView G)) (found same : List Version) (given next : ℕ) (r : Result (Option (List Version)) ReadError) (failed : ReadError → Type 0) → new ≡ part → others ≡ pieces → same ≡ found → IfOk r (IsSomeBlock n found given next) → IfErr r (λ e. (e ≡ Memory) × failed e) →
      GivesNext (LeftBy bytes snapshot test bound part pieces (drop given found)) (LeftBy bytes snapshot test bound new others (drop next same)) r
  give_found n part new pieces others found same given next (Ok (Some block)) failed is_part is_pieces is_found is memory = λ rows damage left.
      gives_block bytes snapshot test bound part pieces found block given next (let s = is.some in omega (arith, s)) is.is rows damage
      (subst (λ vs. LeftBy bytes snapshot test bound part pieces (drop next vs) rows damage) is_found (subst (λ ps. LeftBy bytes snapshot test bound part ps (drop next same) rows damage) is_pieces (subst (λ p. LeftBy bytes snapshot test bound p others (drop next same) rows damage) is_part left)))
  give_found n part new pieces others found same given next (Ok None) failed is_part is_pieces is_found is memory = absurd is
  give_found n part new pieces others found same given next (Err Device) failed is_part is_pieces is_found is memory = tt
  give_found n part new pieces others found same given next (Err Memory) failed is_part is_pieces is_found is memory = tt
  give_found n part new pieces others found same given next (Err (Damaged at)) failed is_part is_pieces is_found is memory = cc memory.0

  pub give_new : (n : ℕ) (part middle new : Option Part) (pieces between others : List (SegmentView G)) (old found same : List Version) (given start next : ℕ) (b : Bool) (r : Result (Option (List Version)) ReadError) (failed : ReadError → Type 0) → length old ≤ given → b ≡ true → GivesMore (LeftIn bytes snapshot test bound part pieces) (LeftIn bytes snapshot test bound middle between) found (Ok b) → IsFilled snapshot old found given start b →
      new ≡ middle → others ≡ between → same ≡ found → IfOk r (IsSomeBlock n found start next) → IfErr r (λ e. (e ≡ Memory) × failed e) → GivesNext (LeftBy bytes snapshot test bound part pieces (drop given old)) (LeftBy bytes snapshot test bound new others (drop next same)) r
  give_new n part middle new pieces between others old found same given start next b (Ok (Some block)) failed none so more filled is_part is_pieces is_found is memory = λ rows damage left.
      let first = subst (λ b. GivesMore (LeftIn bytes snapshot test bound part pieces) (LeftIn bytes snapshot test bound middle between) found (Ok b)) so more in
      let fill = subst (λ b. IsFilled snapshot old found given start b) so filled in
      gives_new bytes snapshot test bound part middle pieces between old found block given start next none fill.1.1 is.is first rows damage
      (subst (λ vs. LeftBy bytes snapshot test bound middle between (drop next vs) rows damage) is_found (subst (λ ps. LeftBy bytes snapshot test bound middle ps (drop next same) rows damage) is_pieces (subst (λ p. LeftBy bytes snapshot test bound p others (drop next same) rows damage) is_part left)))
  give_new n part middle new pieces between others old found same given start next b (Ok None) failed none so more filled is_part is_pieces is_found is memory = absurd is
  give_new n part middle new pieces between others old found same given start next b (Err Device) failed none so more filled is_part is_pieces is_found is memory = tt
  give_new n part middle new pieces between others old found same given start next b (Err Memory) failed none so more filled is_part is_pieces is_found is memory = tt
  give_new n part middle new pieces between others old found same given start next b (Err (Damaged at)) failed none so more filled is_part is_pieces is_found is memory = cc memory.0
