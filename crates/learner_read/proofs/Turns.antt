-- The steps of a scan in a piece: rows below a handle are taken out, and a pack is read.
use Rattle.std.proofs.Common.{◌≡◌, ◌∙◌, refl, sym, ap, subst, ℕ, ℤ, ◌+◌, ◌-◌, ◌<◌, ◌≤◌, ◌<ℤ◌, ◌≤ℤ◌, Bool, true, false, true≢false, cond, List, [], ◌∷◌, ◌++◌, length, take, drop, slice_range, Option, Some, None, Result, Ok, Err, arith}
use Rattle.std.specs.Prelude.{int_le, int_lt}
use Rattle.std.proofs.lemmas.Int.{ints}
use Rattle.std.proofs.lemmas.List.{length-drop, take_all, take-append-drop}
use Rattle.column_block.specs.declared.cell.Version.{Version}
use Rattle.column_block.proofs.Ordered.{Up, each_weaker, rises_from_up, up_from_rises, up_left, up_right}
use Rattle.column_block.specs.Order.{rises}
use Rattle.delta_layer.specs.Files.{files_of}
use Rattle.delta_layer.specs.declared.view.SegmentView.{SegmentView}
use Rattle.flash_types.specs.Ranges.{holds, is_below, part_below, part_from}
use Rattle.flash_types.specs.declared.range.HandleRange.{HandleRange}
use Rattle.pack_codec.specs.declared.fault.FormError.TheVariants as form
use Rattle.stable_file.specs.Faults.{FailsOrDevice}
use Rattle.stable_file.specs.declared.fault.ReadError.{ReadError}
use Rattle.stable_file.specs.declared.fault.ReadError.TheVariants as read
use Rattle.stable_file.specs.declared.pack.Pack.{Pack}
use Rattle.learner_read.specs.Packs.{read_in}
use Rattle.learner_read.specs.Parts.{AreAbove, AreBelow, GivesPast, HasRows, IsPast, LeftAt, PacksAreAbove, PutsBefore, rest_of}
use Rattle.learner_read.specs.Scans.{Answers, AreOf, Leaves}
use Rattle.learner_read.specs.declared.snapshot.Snapshot.{Snapshot}
use Rattle.learner_read.specs.declared.state.Part.{Part}
use Rattle.learner_read.proofs.PackSteps.{last_is, pack_broken, pack_read, rows_first}
use Rattle.learner_read.proofs.Splits.{Cuts, and, both}

-- ---- lists in two

-- The parts before a place and from it on.
pub record InTwo (all here left : List Version) (place : ℕ) : Type 0 where
  pub first : here ≡ take place all
  pub second : left ≡ drop place all
  pub both : all ≡ here ++ left

pub in_two : (all here left : List Version) (place n : ℕ) → place ≤ length all → n ≡ length all → here ≡ slice_range all 0 place → left ≡ slice_range all place n → InTwo all here left place
in_two all here left place n within is first second =
    let a : here ≡ take place all = first ∙ ap (λ k. take k all) (zero_less place) in
    let b : left ≡ drop place all = second ∙ take_all (n - place) (drop place all) (omega (arith, is, length-drop place all)) in
    record { first = a; second = b; both = sym (take-append-drop place all) ∙ (λ i. sym a i ++ sym b i) }
  where
    zero_less : (k : ℕ) → k - 0 ≡ k
    zero_less k = omega arith

-- ---- ranges

not_above : (a b : ℤ) → int_le a b ≡ true → int_lt b a ≡ false
not_above a b e = grind (arith, ints)

above_it : (a b : ℤ) → int_le a b ≡ false → int_lt b a ≡ true
above_it a b e = grind (arith, ints)

itself : (a : ℤ) → int_lt a a ≡ false
itself a = grind (arith, ints)

rest_high : (range : HandleRange) (from : Option ℤ) → (rest_of range from).high ≡ range.high
rest_high range None = refl
rest_high range (Some f) = elim (int_le f range.low) as (λ b. (cond b range (part_from range f)).high ≡ range.high) [ true ↦ refl | false ↦ refl ]

from_past : (range : HandleRange) (bound : ℤ) → int_le bound range.low ≡ false → rest_of range (Some bound) ≡ part_from range bound
from_past range bound past = ap (λ b. cond b range (part_from range bound)) past

rest_cut : (range : HandleRange) (from : Option ℤ) (bound : ℤ) → int_le bound (rest_of range from).low ≡ false → rest_of range (Some bound) ≡ part_from (rest_of range from) bound
rest_cut range None bound past = from_past range bound past
rest_cut range (Some f) bound past = by (int_le f range.low) refl past
  where
    further : (f low bound : ℤ) → int_le f low ≡ false → int_le bound f ≡ false → int_le bound low ≡ false
    further f low bound p q = grind (arith, ints)

    by : (b : Bool) → int_le f range.low ≡ b → int_le bound (cond b range (part_from range f)).low ≡ false → rest_of range (Some bound) ≡ part_from (cond b range (part_from range f)) bound
    by true is past = from_past range bound past
    by false is past = from_past range bound (further f range.low bound is past)

below_high : (h bound : ℤ) (high : Option ℤ) → h <ℤ bound → is_below bound high ≡ true → is_below h high ≡ true
below_high h bound None less e = refl
below_high h bound (Some high) less e = through h bound high less e
  where
    through : (a b c : ℤ) → a <ℤ b → int_lt b c ≡ true → int_lt a c ≡ true
    through a b c p q = grind (arith, ints)

-- rows of a part of a range are of the range
holds_rest : (range : HandleRange) (from : Option ℤ) (h : ℤ) → holds (rest_of range from) h ≡ true → holds range h ≡ true
holds_rest range None h e = e
holds_rest range (Some f) h e = by (int_le f range.low) refl e
  where
    lower : (low f h : ℤ) → int_le f low ≡ false → int_le f h ≡ true → int_le low h ≡ true
    lower low f h p q = grind (arith, ints)

    by : (b : Bool) → int_le f range.low ≡ b → holds (cond b range (part_from range f)) h ≡ true → holds range h ≡ true
    by true is e = e
    by false is e = (let p = both (int_le f h) (is_below h range.high) e in and (int_le range.low h) (is_below h range.high) (lower range.low f h is p.0) p.1)

pub of_rest : (range rest : HandleRange) (from : Option ℤ) (vs : List Version) → rest ≡ rest_of range from → AreOf rest vs → AreOf range vs
of_rest range rest from vs is of = each_weaker (λ (v : Version). holds (rest_of range from) v.handle ≡ true) (λ (v : Version). holds range v.handle ≡ true) (λ v e. holds_rest range from v.handle e) vs (subst (λ r. AreOf r vs) is of)

pub of_below : (range rest below : HandleRange) (from : Option ℤ) (bound : ℤ) (vs : List Version) → rest ≡ rest_of range from → below ≡ part_below rest bound → is_below bound range.high ≡ true → AreOf below vs → AreOf range vs
of_below range rest below from bound vs is part high of = of_rest range rest from vs is (each_weaker (λ (v : Version). holds (part_below rest bound) v.handle ≡ true) (λ (v : Version). holds rest v.handle ≡ true) (λ v e. weaker v.handle e) vs (subst (λ r. AreOf r vs) part of))
  where
    less : (a b : ℤ) → int_lt a b ≡ true → a <ℤ b
    less a b e = grind (arith, ints)

    weaker : (h : ℤ) → holds (part_below rest bound) h ≡ true → holds rest h ≡ true
    weaker h e = (let p = both (int_le rest.low h) (int_lt h bound) e in and (int_le rest.low h) (is_below h rest.high) p.0 (below_high h bound rest.high (less h bound p.1) (ap (is_below bound) (ap (λ (r : HandleRange). r.high) is ∙ rest_high range from) ∙ high)))

pub rises_first : (all here left : List Version) (place : ℕ) → rises all ≡ true → InTwo all here left place → rises here ≡ true
rises_first all here left place up two = rises_from_up here (up_left here left (subst Up two.both (up_from_rises all up)))

pub rises_second : (all here left : List Version) (place : ℕ) → rises all ≡ true → InTwo all here left place → rises left ≡ true
rises_second all here left place up two = rises_from_up left (up_right here left (subst Up two.both (up_from_rises all up)))

-- ---- steps

module _ {G : Type 0} (bytes : G → List ℕ) (snapshot : Snapshot G) (test : Answers) (piece : SegmentView G) where
  pub puts_none : (part : Part) (bound : ℤ) (rows : List Version) → rows ≡ [] → PutsBefore bytes snapshot test piece part part bound rows
  puts_none part bound rows none = λ packs later damage above left. subst (λ vs. LeftAt bytes snapshot test piece part packs (vs ++ later) damage) (sym none) left

  pub none_cut : (part : Part) (rest : HandleRange) (bound : ℤ) → rest ≡ rest_of piece.range part.from → int_le bound rest.low ≡ true → int_lt (rest_of piece.range part.from).low bound ≡ false
  none_cut part rest bound is past = not_above bound (rest_of piece.range part.from).low (ap (λ (r : HandleRange). int_le bound r.low) (sym is) ∙ past)

  pub is_cut : (part : Part) (new : Option ℤ) (rest : HandleRange) (bound : ℤ) → rest ≡ rest_of piece.range part.from → int_le bound rest.low ≡ false → new ≡ Some bound → int_lt (rest_of piece.range new).low bound ≡ false
  is_cut part new rest bound is past from =
      ap (λ (r : HandleRange). int_lt r.low bound) (ap (rest_of piece.range) from ∙ rest_cut piece.range part.from bound (ap (λ (r : HandleRange). int_le bound r.low) (sym is) ∙ past)) ∙ itself bound

  pub puts_rows : (part : Part) (new : Option ℤ) (later_before : List Version) (rest : HandleRange) (bound : ℤ) (here left rows : List Version) (place : ℕ) → rises part.before ≡ true → rest ≡ rest_of piece.range part.from → int_le bound rest.low ≡ false → is_below bound piece.range.high ≡ true → InTwo part.before here left place → AreBelow bound (take place part.before) → AreAbove bound (drop place part.before) →
      new ≡ Some bound → later_before ≡ left → HasRows snapshot test (part_below rest bound) here (files_of piece.delta) rows → (packs : List Pack) (later : List Version) (damage : Option ℕ) → PacksAreAbove bound packs → Leaves bytes snapshot test piece (rest_of piece.range new) later_before packs later damage → LeftAt bytes snapshot test piece part packs (rows ++ later) damage
  puts_rows part new later_before rest bound here left rows place up is past high two below above from before has = λ packs later damage packs_above remains.
      let cut : rest_of piece.range new ≡ part_from rest bound = ap (rest_of piece.range) from ∙ rest_cut piece.range part.from bound (ap (λ (r : HandleRange). int_le bound r.low) (sym is) ∙ past) ∙ ap (λ (r : HandleRange). part_from r bound) (sym is) in
      let remains' = subst (λ vs. Leaves bytes snapshot test piece (part_from rest bound) vs packs later damage) before (subst (λ r. Leaves bytes snapshot test piece r later_before packs later damage) cut remains) in
      let cuts : Cuts rest bound = record { low = above_it bound rest.low past; high = λ h less. below_high h bound rest.high less (ap (is_below bound) (ap (λ (r : HandleRange). r.high) is ∙ rest_high piece.range part.from) ∙ high) } in
      let all_up : Up (here ++ left) = subst Up two.both (up_from_rises part.before up) in
      let all = rows_first bytes snapshot test piece rest bound cuts here left rows (up_left here left all_up) (subst (AreBelow bound) (sym two.first) below) (subst (AreAbove bound) (sym two.second) above) has packs later damage packs_above remains' in
      subst (λ r. Leaves bytes snapshot test piece r part.before packs (rows ++ later) damage) is (subst (λ vs. Leaves bytes snapshot test piece rest vs packs (rows ++ later) damage) (sym two.both) all)

  -- rows before a pack
  pub past_rows : (part new : Part) (pack : Pack) (low : ℤ) (rows : List Version) → 0 < length rows → pack.low ≡ low → PutsBefore bytes snapshot test piece part new low rows → IsPast bytes snapshot test piece part pack rows new
  past_rows part new pack low [] some is puts = absurd (omega (arith, some))
  past_rows part new pack low (row ∷ rows) some is puts = subst (λ l. PutsBefore bytes snapshot test piece part new l (row ∷ rows)) (sym is) puts

  le_itself : (a : ℤ) → a ≤ℤ a
  le_itself a = omega (arith, ints)

  -- a pack with none before it
  pub past_read : (part mid new : Part) (pack : Pack) (low : ℤ) (none rows : List Version) → none ≡ [] → rows ≡ [] → pack.low ≡ low → PutsBefore bytes snapshot test piece part mid low none → new.from ≡ mid.from → read_in bytes piece.stable mid.before (pack ∷ []) ≡ Ok new.before → IsPast bytes snapshot test piece part pack rows new
  past_read part mid new pack low none rows is_none is_empty is puts from reads =
      subst (λ vs. IsPast bytes snapshot test piece part pack vs new) (sym is_empty) (λ more later damage above left.
      let puts' = subst (λ l. PutsBefore bytes snapshot test piece part mid l none) (sym is) puts in
      let left' = subst (λ f. Leaves bytes snapshot test piece (rest_of piece.range f) new.before more later damage) from left in
      subst (λ vs. LeftAt bytes snapshot test piece part (pack ∷ more) (vs ++ later) damage) is_none
      (puts' (pack ∷ more) later damage (le_itself pack.low, above) (pack_read bytes snapshot test piece (rest_of piece.range mid.from) mid.before new.before pack more later damage reads left')))

  pub past_damage : (part mid : Part) (pack : Pack) (low : ℤ) (none : List Version) (at : ℕ) → none ≡ [] → pack.low ≡ low → PutsBefore bytes snapshot test piece part mid low none → int_lt (rest_of piece.range mid.from).low low ≡ false → read_in bytes piece.stable mid.before (pack ∷ []) ≡ Err (form.Damaged at) → (more : List Pack) → PacksAreAbove pack.low more → LeftAt bytes snapshot test piece part (pack ∷ more) [] (Some at)
  past_damage part mid pack low none at is_none is puts cut fails more above =
      let puts' = subst (λ l. PutsBefore bytes snapshot test piece part mid l none) (sym is) puts in
      subst (λ vs. LeftAt bytes snapshot test piece part (pack ∷ more) (vs ++ []) (Some at)) is_none
      (puts' (pack ∷ more) [] (Some at) (le_itself pack.low, above) (pack_broken bytes snapshot test piece (rest_of piece.range mid.from) mid.before pack more at (ap (int_lt (rest_of piece.range mid.from).low) is ∙ cut) fails))

  pub last_left : (part : Part) (rest : HandleRange) (rows : List Version) → rest ≡ rest_of piece.range part.from → HasRows snapshot test rest part.before (files_of piece.delta) rows → LeftAt bytes snapshot test piece part [] rows None
  last_left part rest rows is has = subst (λ r. Leaves bytes snapshot test piece r part.before [] rows None) is (last_is bytes snapshot test piece rest part.before rows has)

  pub past_fails : (part mid : Part) (pack : Pack) (low : ℤ) (none : List Version) (e : ReadError) → none ≡ [] → pack.low ≡ low → PutsBefore bytes snapshot test piece part mid low none → int_lt (rest_of piece.range mid.from).low low ≡ false → FailsOrDevice e (read_in bytes piece.stable mid.before (pack ∷ [])) → GivesPast bytes snapshot test piece part pack (Err e)
  past_fails part mid pack low none read.Device is_none is puts cut fails = tt
  past_fails part mid pack low none read.Memory is_none is puts cut fails = tt
  past_fails part mid pack low none (read.Damaged at) is_none is puts cut fails = past_damage part mid pack low none at is_none is puts cut fails
