-- The packs that are left of a piece, as they are read one by one.
use Rattle.std.proofs.Common.{◌≡◌, ◌∙◌, refl, sym, ap, subst, ℕ, zero, suc, ℤ, ◌+◌, ◌<◌, ◌<ℤ◌, ◌≤ℤ◌, Bool, true, false, true≢false, cond, ◌&&◌, List, [], ◌∷◌, ◌++◌, append_assoc, length, length-append, take, drop, fold, Option, Some, None, Result, Ok, Err, arith}
use Rattle.std.specs.Prelude.{int_lt, int_le, ◌==◌}
use Rattle.std.specs.List.{AllByRecursion}
use Rattle.std.specs.Ordering.{int_eq}
use Rattle.std.proofs.lemmas.Int.{ints}
use Rattle.std.proofs.lemmas.List.{append-nil}
use Rattle.flash_list.specs.Steps.{◌>>=◌}
use Rattle.column_block.specs.declared.column.Column.{Column}
use Rattle.column_block.specs.declared.cell.Version.{Version}
use Rattle.column_block.specs.Order.{rise}
use Rattle.column_block.proofs.Ordered.{Up, each_both, each_weaker, handle_le, rise_from_up, rise_is, rise_of, up_from_rise, up_right}
use Rattle.delta_layer.specs.Files.{files_of}
use Rattle.delta_layer.specs.Present.{ArePresent}
use Rattle.delta_layer.specs.Stable.{with_pack, with_versions}
use Rattle.delta_layer.specs.declared.view.SegmentView.{SegmentView}
use Rattle.flash_types.specs.Ranges.{holds, is_below, part_below, part_from}
use Rattle.flash_types.specs.declared.range.HandleRange.{HandleRange}
use Rattle.good_replica.proofs.Facts.{int_same}
use Rattle.pack_codec.specs.declared.fault.FormError.{FormError}
use Rattle.pack_codec.specs.declared.fault.FormError.TheVariants as form
use Rattle.pack_codec.specs.Reading.{pack_at}
use Rattle.pack_codec.proofs.Binds.{bind_ok, if_ok, ok_is}
use Rattle.stable_file.specs.Opened.{grip_of, packs_of, schema_of}
use Rattle.stable_file.specs.Packs.{has_room, versions_in}
use Rattle.stable_file.specs.Ranges.{handle_at, is_as_told, reached, told_at, told_in}
use Rattle.stable_file.specs.declared.file.StableFile.{StableFile}
use Rattle.stable_file.specs.declared.pack.Pack.{Pack}
use Rattle.learner_read.specs.Packs.{read_in}
use Rattle.learner_read.specs.Parts.{AreAbove, AreBelow, HasRows, PacksAreAbove}
use Rattle.learner_read.specs.Rows.{rows_within, shown_rows}
use Rattle.learner_read.specs.Scans.{Answers, Leaves, Pass, rows_of}
use Rattle.learner_read.specs.Scans.Leaves.{Stopped, Whole}
use Rattle.learner_read.specs.Scans.Pass.{End}
use Rattle.learner_read.specs.declared.snapshot.Snapshot.{Snapshot}
use Rattle.learner_read.proofs.Splits.{Cuts, pass_joined, present_joined, rows_joined, up_joined, within_above, within_below}

-- ---- what is read of a pack

and_left : (a b : Bool) → (a && b) ≡ true → a ≡ true
and_left true b e = refl
and_left false b e = e

and_right : (a b : Bool) → (a && b) ≡ true → b ≡ true
and_right true b e = e
and_right false b e = absurd (true≢false (sym e))

versions_rise : (end at : ℕ) (columns : List Column) (bytes : List ℕ) (vs : List Version) → versions_in end at columns bytes ≡ Ok vs → rise vs ≡ true
unfolding versions_in
versions_rise end at columns bytes vs e = by (has_room bytes) e
  where
    by : (room : Bool) → cond room (pack_at end columns bytes >>= λ vs. cond (rise vs) (Ok vs) (Err (form.Damaged at))) (Err (form.Damaged at)) ≡ Ok vs → rise vs ≡ true
    by false h = cc h
    by true h =
        let a = bind_ok (pack_at end columns bytes) _ vs h in
        let b = if_ok (rise a.0) a.0 vs (form.Damaged at) a.2 in
        subst (λ vs. rise vs ≡ true) b.1 b.0

-- The versions of a pack rise, and are what the footer tells.
pub record IsRead (pack : Pack) (vs : List Version) : Type 0 where
  pub rising : rise vs ≡ true
  pub told : is_as_told pack vs ≡ true

pub told_is : (pack : Pack) (columns : List Column) (content : List ℕ) (vs : List Version) → told_in pack columns content ≡ Ok vs → IsRead pack vs
unfolding told_at
told_is pack columns content vs e =
    let bytes = take pack.len (drop pack.place content) in
    let a = bind_ok (versions_in (reached pack.place bytes) pack.place columns bytes) _ vs e in
    let b = if_ok (is_as_told pack a.0) a.0 vs (form.Damaged pack.place) a.2 in
    record { rising = subst (λ vs. rise vs ≡ true) b.1 (versions_rise (reached pack.place bytes) pack.place columns bytes a.0 a.1); told = subst (λ vs. is_as_told pack vs ≡ true) b.1 b.0 }

pub some_versions : (vs : List Version) → rise vs ≡ true → 0 < length vs
some_versions [] up = absurd (true≢false (sym up))
some_versions (v ∷ vs) up = omega arith

least_is : (v : Version) (vs : List Version) → Up (v ∷ vs) → AreAbove v.handle (v ∷ vs)
least_is v vs up = (itself v.handle, each_weaker _ (λ (w : Version). v.handle ≤ℤ w.handle) (λ w less. handle_le v w less) vs up.0)
  where
    itself : (h : ℤ) → h ≤ℤ h
    itself h = omega (arith, ints)

pub read_above : (pack : Pack) (vs : List Version) → IsRead pack vs → AreAbove pack.low vs
read_above pack [] is = tt
read_above pack (v ∷ vs) is =
    let first = and_left (int_eq v.handle pack.low) _ (and_right (length (v ∷ vs) == pack.count) _ is.told) in
    subst (λ low. AreAbove low (v ∷ vs)) (int_same v.handle pack.low first) (least_is v vs (up_from_rise (v ∷ vs) (rise_is (v ∷ vs) is.rising)))

at_most : (a b c : ℤ) → a ≤ℤ b → b ≤ℤ c → a ≤ℤ c
at_most a b c p q = omega (arith, ints, p, q)

above_lower : (low high : ℤ) (vs : List Version) → low ≤ℤ high → AreAbove high vs → AreAbove low vs
above_lower low high vs le above = each_weaker (λ (v : Version). high ≤ℤ v.handle) (λ (v : Version). low ≤ℤ v.handle) (λ v le'. at_most low high v.handle le le') vs above

module _ (columns : List Column) (content : List ℕ) where
  pub stays_failed : (packs : List Pack) (e : FormError) → fold (with_pack columns content) (Err e) packs ≡ Err e
  stays_failed [] e = refl
  stays_failed (pack ∷ packs) e = stays_failed packs e

  -- what one more pack adds
  pub record Adds (before : List Version) (pack : Pack) (after : List Version) : Type 0 where
    pub versions : List Version
    pub reads : told_in pack columns content ≡ Ok versions
    pub rising : rise (before ++ versions) ≡ true
    pub is : before ++ versions ≡ after

  pub adds : (before : List Version) (pack : Pack) (after : List Version) → with_pack columns content (Ok before) pack ≡ Ok after → Adds before pack after
  adds before pack after e =
      let a = bind_ok (told_in pack columns content) (with_versions pack.place before) after e in
      let b = if_ok (rise (before ++ a.0)) (before ++ a.0) after (form.Damaged pack.place) a.2 in
      record { versions = a.0; reads = a.1; rising = b.0; is = b.1 }

  pub added : (before : List Version) (pack : Pack) (vs : List Version) → told_in pack columns content ≡ Ok vs → rise (before ++ vs) ≡ true → with_pack columns content (Ok before) pack ≡ Ok (before ++ vs)
  added before pack vs reads up = ap (λ r. r >>= with_versions pack.place before) reads ∙ ap (λ b. cond b (Ok (before ++ vs)) (Err (form.Damaged pack.place))) up

  pub some_joined : (xs vs : List Version) → 0 < length vs → length (xs ++ vs) ≡ 0 → ⊥
  some_joined xs vs some none = absurd (omega (arith, some, none, length-append xs vs))

  -- versions of lower handles, read before, change nothing
  pub read_behind : (bound : ℤ) (here : List Version) (packs : List Pack) (before stable : List Version) → Up here → AreBelow bound here → AreAbove bound before → PacksAreAbove bound packs → fold (with_pack columns content) (Ok before) packs ≡ Ok stable →
      (fold (with_pack columns content) (Ok (here ++ before)) packs ≡ Ok (here ++ stable)) × AreAbove bound stable
  read_behind bound here [] before stable up below above packs_above e = (let same = ok_is before stable e in (ap (λ vs. Ok (here ++ vs)) same, subst (AreAbove bound) same above))
  read_behind bound here (pack ∷ packs) before stable up below above packs_above e = by (with_pack columns content (Ok before) pack) refl e (λ mid. read_behind bound here packs mid stable up below)
    where
      by : (r : Result (List Version) FormError) → with_pack columns content (Ok before) pack ≡ r → fold (with_pack columns content) r packs ≡ Ok stable → ((mid : List Version) → AreAbove bound mid → PacksAreAbove bound packs → fold (with_pack columns content) (Ok mid) packs ≡ Ok stable → (fold (with_pack columns content) (Ok (here ++ mid)) packs ≡ Ok (here ++ stable)) × AreAbove bound stable) →
          (fold (with_pack columns content) (with_pack columns content (Ok (here ++ before)) pack) packs ≡ Ok (here ++ stable)) × AreAbove bound stable
      by (Err x) is rest next = cc (sym (stays_failed packs x) ∙ rest)
      by (Ok mid) is rest next =
          let a = adds before pack mid is in
          let read = told_is pack columns content a.versions a.reads in
          let all_above : AreAbove bound (before ++ a.versions) = each_both (λ (v : Version). bound ≤ℤ v.handle) before a.versions above (above_lower bound pack.low a.versions packs_above.0 (read_above pack a.versions read)) in
          let joined : (here ++ before) ++ a.versions ≡ here ++ (before ++ a.versions) = append_assoc here before a.versions in
          let all_up : Up (here ++ (before ++ a.versions)) = up_joined bound here (before ++ a.versions) up (up_from_rise (before ++ a.versions) (rise_is (before ++ a.versions) a.rising)) below all_above in
          let rises : rise ((here ++ before) ++ a.versions) ≡ true = rise_of ((here ++ before) ++ a.versions) (some_joined (here ++ before) a.versions (some_versions a.versions read.rising)) (rise_from_up ((here ++ before) ++ a.versions) (subst Up (sym joined) all_up)) in
          let step : with_pack columns content (Ok (here ++ before)) pack ≡ Ok (here ++ mid) = added (here ++ before) pack a.versions a.reads rises ∙ ap (λ vs. Ok vs) (joined ∙ ap (λ vs. here ++ vs) a.is) in
          let n = next mid (subst (AreAbove bound) a.is all_above) packs_above.1 rest in
          (ap (λ r. fold (with_pack columns content) r packs) step ∙ n.0, n.1)

  -- a pack that isn't of the form isn't either behind more versions
  pub broken_behind : (here stable : List Version) (pack : Pack) (e : FormError) → with_pack columns content (Ok stable) pack ≡ Err e → with_pack columns content (Ok (here ++ stable)) pack ≡ Err e
  broken_behind here stable pack e fails = by (told_in pack columns content) refl fails
    where
      by : (r : Result (List Version) FormError) → told_in pack columns content ≡ r → (r >>= with_versions pack.place stable) ≡ Err e → (r >>= with_versions pack.place (here ++ stable)) ≡ Err e
      by (Err x) is h = h
      by (Ok vs) is h = of (rise (stable ++ vs)) refl h (rise ((here ++ stable) ++ vs)) refl
        where
          of : (b : Bool) → rise (stable ++ vs) ≡ b → cond b (Ok (stable ++ vs)) (Err (form.Damaged pack.place)) ≡ Err e → (c : Bool) → rise ((here ++ stable) ++ vs) ≡ c → cond c (Ok ((here ++ stable) ++ vs)) (Err (form.Damaged pack.place)) ≡ Err e
          of true up f c g = cc f
          of false up f false g = f
          of false up f true g = absurd (true≢false (sym (rise_of (stable ++ vs) (some_joined stable vs (some_versions vs (told_is pack columns content vs is).rising)) (rise_from_up (stable ++ vs) (up_right here (stable ++ vs) (subst Up (append_assoc here stable vs) (up_from_rise ((here ++ stable) ++ vs) (rise_is ((here ++ stable) ++ vs) g)))))) ∙ up))

-- ---- the same of a stable part

module _ {G : Type 0} (bytes : G → List ℕ) (part : Option (StableFile G)) where
  pub part_behind : (bound : ℤ) (here : List Version) (packs : List Pack) (before stable : List Version) → Up here → AreBelow bound here → AreAbove bound before → PacksAreAbove bound packs → read_in bytes part before packs ≡ Ok stable →
      (read_in bytes part (here ++ before) packs ≡ Ok (here ++ stable)) × AreAbove bound stable
  part_behind bound here packs before stable up below above packs_above e = by part e
    where
      by : (part : Option (StableFile G)) → read_in bytes part before packs ≡ Ok stable → (read_in bytes part (here ++ before) packs ≡ Ok (here ++ stable)) × AreAbove bound stable
      by None e = (let same = ok_is before stable e in (ap (λ vs. Ok (here ++ vs)) same, subst (AreAbove bound) same above))
      by (Some file) e = read_behind (schema_of file) (bytes (grip_of file)) bound here packs before stable up below above packs_above e

  pub part_broken : (here stable : List Version) (pack : Pack) (e : FormError) → read_in bytes part stable (pack ∷ []) ≡ Err e → read_in bytes part (here ++ stable) (pack ∷ []) ≡ Err e
  part_broken here stable pack e fails = by part fails
    where
      by : (part : Option (StableFile G)) → read_in bytes part stable (pack ∷ []) ≡ Err e → read_in bytes part (here ++ stable) (pack ∷ []) ≡ Err e
      by None f = cc f
      by (Some file) f = broken_behind (schema_of file) (bytes (grip_of file)) here stable pack e f

  -- one pack, and then the others
  pub part_step : (before mid : List Version) (pack : Pack) (more : List Pack) → read_in bytes part before (pack ∷ []) ≡ Ok mid → read_in bytes part before (pack ∷ more) ≡ read_in bytes part mid more
  part_step before mid pack more e = by part e
    where
      by : (part : Option (StableFile G)) → read_in bytes part before (pack ∷ []) ≡ Ok mid → read_in bytes part before (pack ∷ more) ≡ read_in bytes part mid more
      by None f = f
      by (Some file) f = ap (λ r. fold (with_pack (schema_of file) (bytes (grip_of file))) r more) f

-- ---- what is left of a piece

front_above : (bound : ℤ) (first : List Pack) (pack : Pack) (more packs : List Pack) → packs ≡ first ++ pack ∷ more → PacksAreAbove bound packs → PacksAreAbove bound first × (bound ≤ℤ pack.low)
front_above bound [] pack more packs is above = (tt, (subst (PacksAreAbove bound) is above).0)
front_above bound (p ∷ first) pack more packs is above =
    let all = subst (PacksAreAbove bound) is above in
    let rest = front_above bound first pack more (first ++ pack ∷ more) refl all.1 in
    ((all.0, rest.0), rest.1)

module _ {G : Type 0} (bytes : G → List ℕ) (snapshot : Snapshot G) (test : Answers) (piece : SegmentView G) where
  -- the rows below a handle come first
  pub rows_first : (range : HandleRange) (bound : ℤ) → Cuts range bound → (here before rows : List Version) → Up here → AreBelow bound here → AreAbove bound before → HasRows snapshot test (part_below range bound) here (files_of piece.delta) rows →
      (packs : List Pack) (later : List Version) (damage : Option ℕ) → PacksAreAbove bound packs → Leaves bytes snapshot test piece (part_from range bound) before packs later damage → Leaves bytes snapshot test piece range (here ++ before) packs (rows ++ later) damage
  rows_first range bound cuts here before rows up below above has packs _ _ packs_above (Whole stable versions later reads present passed) =
      let r = part_behind bytes piece.stable bound here packs before stable up below above packs_above reads in
      Whole (here ++ stable) (has.versions ++ versions) (rows ++ later) r.0
      (present_joined range bound cuts here stable has.versions versions (files_of piece.delta) below r.1 has.present present)
      (subst (λ vs. Pass test vs (rows ++ later)) (sym (rows_joined snapshot.ts snapshot.clip snapshot.cuts bound has.versions versions (within_below range bound cuts has.versions has.present.within) (within_above range bound cuts versions present.within)))
      (pass_joined test (rows_of snapshot has.versions) (rows_of snapshot versions) rows later has.pass passed))
  rows_first range bound cuts here before rows up below above has packs _ _ packs_above (Stopped first pack more stable versions later at is reads fails present passed) =
      let p = front_above bound first pack more packs is packs_above in
      let r = part_behind bytes piece.stable bound here first before stable up below above p.0 reads in
      let cuts' : Cuts (part_below range pack.low) bound = record { low = cuts.low; high = λ h less. through h bound pack.low less p.1 } in
      Stopped first pack more (here ++ stable) (has.versions ++ versions) (rows ++ later) at is r.0
      (part_broken bytes piece.stable here stable pack (form.Damaged at) fails)
      (present_joined (part_below range pack.low) bound cuts' here stable has.versions versions (files_of piece.delta) below r.1 has.present present)
      (subst (λ vs. Pass test vs (rows ++ later)) (sym (rows_joined snapshot.ts snapshot.clip snapshot.cuts bound has.versions versions (within_below range bound cuts has.versions has.present.within) (within_above (part_below range pack.low) bound cuts' versions present.within)))
      (pass_joined test (rows_of snapshot has.versions) (rows_of snapshot versions) rows later has.pass passed))
    where
      through : (h b c : ℤ) → h <ℤ b → b ≤ℤ c → int_lt h c ≡ true
      through h b c p q = grind (arith, ints)

  -- a pack that was read
  pub pack_read : (range : HandleRange) (before mid : List Version) (pack : Pack) (more : List Pack) (later : List Version) (damage : Option ℕ) → read_in bytes piece.stable before (pack ∷ []) ≡ Ok mid → Leaves bytes snapshot test piece range mid more later damage → Leaves bytes snapshot test piece range before (pack ∷ more) later damage
  pack_read range before mid pack more _ _ reads (Whole stable versions later read present passed) = Whole stable versions later (part_step bytes piece.stable before mid pack more reads ∙ read) present passed
  pack_read range before mid pack more _ _ reads (Stopped first other others stable versions later at is read fails present passed) = Stopped (pack ∷ first) other others stable versions later at (ap (λ ps. pack ∷ ps) is) (part_step bytes piece.stable before mid pack first reads ∙ read) fails present passed

  -- nothing is present in a range that holds no handle
  none_present : (range : HandleRange) (stable : List Version) → is_below range.low range.high ≡ false → ArePresent range stable (files_of piece.delta) []
  none_present range stable empty = record { rise = rise_from_up [] tt; within = tt; here = λ h ts held. absurd (true≢false (sym (reaches h range.low range.high (and_left (int_le range.low h) (is_below h range.high) held) (and_right (int_le range.low h) (is_below h range.high) held)) ∙ empty)) }
    where
      reaches : (h low : ℤ) (high : Option ℤ) → int_le low h ≡ true → is_below h high ≡ true → is_below low high ≡ true
      reaches h low None le less = refl
      reaches h low (Some high) le less = through low h high le less
        where
          through : (a b c : ℤ) → int_le a b ≡ true → int_lt b c ≡ true → int_lt a c ≡ true
          through a b c p q = grind (arith, ints)

  -- a pack that isn't of the form, where nothing is left below its first handle
  pub pack_broken : (range : HandleRange) (before : List Version) (pack : Pack) (more : List Pack) (at : ℕ) → int_lt range.low pack.low ≡ false → read_in bytes piece.stable before (pack ∷ []) ≡ Err (form.Damaged at) → Leaves bytes snapshot test piece range before (pack ∷ more) [] (Some at)
  pack_broken range before pack more at past fails = Stopped [] pack more before [] [] at refl (read_none before piece.stable) fails (none_present (part_below range pack.low) before past) End
    where
      read_none : (before : List Version) (part : Option (StableFile G)) → read_in bytes part before [] ≡ Ok before
      read_none before None = refl
      read_none before (Some file) = refl

  -- where no pack is left
  pub last_is : (range : HandleRange) (before rows : List Version) → HasRows snapshot test range before (files_of piece.delta) rows → Leaves bytes snapshot test piece range before [] rows None
  last_is range before rows has = Whole before has.versions rows (read_none before piece.stable) has.present has.pass
    where
      read_none : (before : List Version) (part : Option (StableFile G)) → read_in bytes part before [] ≡ Ok before
      read_none before None = refl
      read_none before (Some file) = refl
