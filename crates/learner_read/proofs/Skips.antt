-- Packs that a scan leaves unread have nothing that it would show.
use Rattle.std.proofs.Common.{◌≡◌, ◌⊎◌, inl, inr, ◌∙◌, refl, sym, ap, subst, ℕ, zero, suc, ℤ, ◌+◌, ◌-◌, ◌<◌, ◌<ℤ◌, ◌≤ℤ◌, Bool, true, false, true≢false, not, cond, ◌&&◌, ◌||◌, List, [], ◌∷◌, ◌++◌, length, take, drop, fold, slice_get, slice_index_or, Option, Some, None, Result, Ok, Err, arith}
use Rattle.std.specs.Prelude.{int_le, int_lt, ◌==◌}
use Rattle.std.specs.List.{AllByRecursion, list_any}
use Rattle.std.specs.Option.{option_or, option_and_then}
use Rattle.std.specs.Ordering.{is_eq, int_eq}
use Rattle.std.specs.declared.cmp.Ordering.{Ordering}
use Rattle.std.specs.declared.cmp.Ordering.TheVariants.{Less, Equal, Greater}
use Rattle.std.proofs.lemmas.Int.{ints}
use Rattle.std.proofs.lemmas.List.{append-nil}
use Rattle.std.proofs.lemmas.List.Elements.{filter-append}
use Rattle.flash_list.specs.Steps.{◌>>=◌}
use Rattle.column_block.specs.declared.cell.Cell.{Cell}
use Rattle.column_block.specs.declared.cell.Version.{Version}
use Rattle.column_block.specs.declared.column.Bound.{Bound}
use Rattle.column_block.specs.declared.column.Column.{Column}
use Rattle.column_block.specs.declared.column.MinMax.{MinMax}
use Rattle.column_block.specs.declared.column.MinMax.TheVariants.{Empty, Of}
use Rattle.column_block.specs.Numbers.{has_bound, in_range, is_between, is_within_range, number_in}
use Rattle.column_block.specs.Order.{rise, key_cmp}
use Rattle.column_block.proofs.Ordered.{Above, Up, each_both, each_left, each_right, handle_le, rise_from_up, rise_is, rise_of, up_both, up_cross, up_from_rise, up_right}
use Rattle.column_file.specs.declared.file.ColumnFile.{ColumnFile}
use Rattle.delta_index.specs.Indexes.{Entry}
use Rattle.delta_layer.specs.Files.{files_of, index_of}
use Rattle.delta_layer.specs.Overlay.{any_holds, at_place, clears_in}
use Rattle.delta_layer.specs.Stable.{with_pack}
use Rattle.delta_layer.specs.declared.view.SegmentView.{SegmentView}
use Rattle.delta_layer.proofs.Deltas.{exact, found, knows, place_of}
use Rattle.flash_types.specs.Ranges.{holds, is_below}
use Rattle.flash_types.specs.declared.range.HandleRange.{HandleRange}
use Rattle.flash_types.specs.declared.refusal.Cut.{Cut}
use Rattle.good_replica.specs.Changed.{had, view}
use Rattle.good_replica.specs.Trail.{after_versions, versions_on}
use Rattle.good_replica.proofs.Facts.{int_itself, int_same}
use Rattle.pack_codec.specs.declared.fault.FormError.{FormError}
use Rattle.pack_codec.proofs.Binds.{ok_is}
use Rattle.sieve.specs.Sieves.{meets}
use Rattle.stable_file.specs.Opened.{IsPack, NeverFall}
use Rattle.stable_file.specs.Ranges.{handle_at, is_as_told, reached, told_at, told_in}
use Rattle.stable_file.specs.declared.pack.Pack.{Pack}
use Rattle.stable_file.proofs.SieveRanges.{ranges_tell}
use Rattle.learner_read.specs.Laws.{KeepsTest, TellsColumn}
use Rattle.learner_read.specs.Packs.{delta_has, goes_on_from, goes_on_in, is_read, is_wanted, may_hold, reaches, read_of}
use Rattle.learner_read.specs.Rows.{is_asked}
use Rattle.learner_read.specs.Scans.{Answers}
use Rattle.learner_read.specs.declared.snapshot.Snapshot.{Snapshot}
use Rattle.learner_read.proofs.Members.{In, had_in}
use Rattle.learner_read.proofs.PackSteps.{Adds, IsRead, adds, added, some_joined, some_versions, stays_failed, told_is}
use Rattle.learner_read.proofs.Splits.{both, and}

-- ---- members

in_append : (v : Version) (xs ys : List Version) → In v (xs ++ ys) → In v xs ⊎ In v ys
in_append v [] ys i = inr i
in_append v (x ∷ xs) ys (inl same) = inl (inl same)
in_append v (x ∷ xs) ys (inr i) = elim (in_append v xs ys i) [ inl a ↦ inl (inr a) | inr b ↦ inr b ]

append_in : (v : Version) (xs ys : List Version) → In v xs ⊎ In v ys → In v (xs ++ ys)
append_in v [] ys (inl i) = absurd i
append_in v [] ys (inr i) = i
append_in v (x ∷ xs) ys (inl (inl same)) = inl same
append_in v (x ∷ xs) ys (inl (inr i)) = inr (append_in v xs ys (inl i))
append_in v (x ∷ xs) ys (inr i) = inr (append_in v xs ys (inr i))

pub in_each : (P : Version → Type 0) (vs : List Version) → AllByRecursion P vs → (v : Version) → In v vs → P v
in_each P [] all v i = absurd i
in_each P (w ∷ ws) all v (inl same) = subst P (sym same) all.0
in_each P (w ∷ ws) all v (inr i) = in_each P ws all.1 v i

pub each_in : (P : Version → Type 0) (vs : List Version) → ((v : Version) → In v vs → P v) → AllByRecursion P vs
each_in P [] all = tt
each_in P (v ∷ vs) all = (all v (inl refl), each_in P vs (λ w i. all w (inr i)))

abbrev AreOf : List Version → List Version → Type 0
AreOf some all = (v : Version) → In v some → In v all

-- ---- handles of a pack

le_trans : (a b c : ℤ) → a ≤ℤ b → b ≤ℤ c → a ≤ℤ c
le_trans a b c p q = omega (arith, ints, p, q)

is_most : (a b : ℤ) → int_le a b ≡ true → a ≤ℤ b
is_most a b e = grind (arith, ints)

not_most : (a b : ℤ) → a ≤ℤ b → int_le a b ≡ true
not_most a b e = grind (arith, ints)

most_of : (high : ℤ) (v : Version) (vs : List Version) → Up (v ∷ vs) → handle_at (v ∷ vs) (length vs) ≡ high → AllByRecursion (λ (w : Version). w.handle ≤ℤ high) (v ∷ vs)
most_of high v [] up is = (subst (λ h. v.handle ≤ℤ h) is (itself v.handle), tt)
  where
    itself : (h : ℤ) → h ≤ℤ h
    itself h = omega (arith, ints)
most_of high v (w ∷ vs) up is = (let rest = most_of high w vs up.1 is in (le_trans v.handle w.handle high (handle_le v w up.0.0) rest.0, rest))

pub read_below : (pack : Pack) (vs : List Version) → IsRead pack vs → AllByRecursion (λ (v : Version). v.handle ≤ℤ pack.high) vs
read_below pack [] is = tt
read_below pack (v ∷ vs) is =
    let a = both (length (v ∷ vs) == pack.count) _ is.told in
    let b = both (int_eq v.handle pack.low) _ a.1 in
    let c = both (int_eq (handle_at (v ∷ vs) (length (v ∷ vs) - 1)) pack.high) _ b.1 in
    let n : length (v ∷ vs) - 1 ≡ length vs = omega arith in
    most_of pack.high v vs (up_from_rise (v ∷ vs) (rise_is (v ∷ vs) is.rising)) (ap (handle_at (v ∷ vs)) (sym n) ∙ int_same (handle_at (v ∷ vs) (length (v ∷ vs) - 1)) pack.high c.0)

least_of : (v : Version) (vs : List Version) → Up (v ∷ vs) → AllByRecursion (λ (w : Version). v.handle ≤ℤ w.handle) vs
least_of v [] up = tt
least_of v (w ∷ vs) up = (handle_le v w up.0.0, least_of v vs (up.0.1, up.1.1))

pub read_from : (pack : Pack) (vs : List Version) → IsRead pack vs → AllByRecursion (λ (v : Version). pack.low ≤ℤ v.handle) vs
read_from pack [] is = tt
read_from pack (v ∷ vs) is =
    let a = both (length (v ∷ vs) == pack.count) _ is.told in
    let b = both (int_eq v.handle pack.low) _ a.1 in
    subst (λ low. AllByRecursion (λ (w : Version). low ≤ℤ w.handle) (v ∷ vs)) (int_same v.handle pack.low b.0) (itself v.handle, least_of v vs (up_from_rise (v ∷ vs) (rise_is (v ∷ vs) is.rising)))
  where
    itself : (h : ℤ) → h ≤ℤ h
    itself h = omega (arith, ints)

-- ---- a handle, and the packs that may have it

abbrev has_handle : ℤ → Pack → Bool
has_handle h pack = int_le pack.low h && int_le h pack.high

module _ {G : Type 0} (snapshot : Snapshot G) (bound : Option Bound) (piece : SegmentView G) (h : ℤ) where
  -- each pack that may have the handle is read
  abbrev pub IsSafe : Option Pack → List Pack → Type 0
  IsSafe before [] = Unit {0}
  IsSafe before (pack ∷ more) = ((is_read snapshot bound piece before pack (slice_get more 0) ≡ true) ⊎ (has_handle h pack ≡ false)) × IsSafe (Some pack) more

  -- one that may have it isn't
  abbrev pub IsSkipped : Option Pack → List Pack → Type 0
  IsSkipped before [] = ⊥
  IsSkipped before (pack ∷ more) = ((is_read snapshot bound piece before pack (slice_get more 0) ≡ false) × (has_handle h pack ≡ true)) ⊎ IsSkipped (Some pack) more

  pub safe_or : (before : Option Pack) (packs : List Pack) → IsSafe before packs ⊎ IsSkipped before packs
  safe_or before [] = inl tt
  safe_or before (pack ∷ more) = by (is_read snapshot bound piece before pack (slice_get more 0)) refl (has_handle h pack) refl (safe_or (Some pack) more)
    where
      by : (b : Bool) → is_read snapshot bound piece before pack (slice_get more 0) ≡ b → (c : Bool) → has_handle h pack ≡ c → IsSafe (Some pack) more ⊎ IsSkipped (Some pack) more → IsSafe before (pack ∷ more) ⊎ IsSkipped before (pack ∷ more)
      by b is c has (inr skipped) = inr (inr skipped)
      by true is c has (inl safe) = inl (inl is, safe)
      by false is false has (inl safe) = inl (inr has, safe)
      by false is true has (inl safe) = inr (inl (is, has))

-- ---- what is read of those packs

none_on : (h : ℤ) (pack : Pack) (vs : List Version) → IsRead pack vs → has_handle h pack ≡ false → versions_on h vs ≡ []
none_on h pack vs read out = from vs (read_from pack vs read) (read_below pack vs read)
  where
    from : (vs : List Version) → AllByRecursion (λ (v : Version). pack.low ≤ℤ v.handle) vs → AllByRecursion (λ (v : Version). v.handle ≤ℤ pack.high) vs → versions_on h vs ≡ []
    from [] low high = refl
    from (v ∷ vs) low high = by (int_eq v.handle h) refl (from vs low.1 high.1)
      where
        by : (b : Bool) → int_eq v.handle h ≡ b → versions_on h vs ≡ [] → cond b (v ∷ versions_on h vs) (versions_on h vs) ≡ []
        by true is rest =
            let same = int_same v.handle h is in
            absurd (true≢false (sym (and (int_le pack.low h) (int_le h pack.high) (not_most pack.low h (subst (λ k. pack.low ≤ℤ k) same low.0)) (not_most h pack.high (subst (λ k. k ≤ℤ pack.high) same high.0))) ∙ out))
        by false is rest = rest

on_append : (h : ℤ) (xs ys : List Version) → versions_on h (xs ++ ys) ≡ versions_on h xs ++ versions_on h ys
on_append h xs ys = filter-append (λ (v : Version). int_eq v.handle h) xs ys

module _ {G : Type 0} (snapshot : Snapshot G) (bound : Option Bound) (piece : SegmentView G) (columns : List Column) (content : List ℕ) where
  -- What is read of some packs behind some versions, beside what all packs give behind all: of these, and the same of a handle if each pack that may have it is read.
  pub record Reads (before : Option Pack) (packs : List Pack) (all some stable : List Version) : Type 0 where
    pub read : List Version
    pub is : fold (with_pack columns content) (Ok some) (read_of snapshot bound piece before packs) ≡ Ok read
    pub of : (v : Version) → In v read → In v stable
    pub same : (h : ℤ) → versions_on h some ≡ versions_on h all → IsSafe snapshot bound piece h before packs → versions_on h read ≡ versions_on h stable

  abbrev Further : Pack → List Pack → List Version → Type 0
  Further pack more stable = (mid some : List Version) → fold (with_pack columns content) (Ok mid) more ≡ Ok stable → Up some → AreOf some mid → Reads (Some pack) more mid some stable

  one_more : (before : Option Pack) (pack : Pack) (more : List Pack) (all some stable mid : List Version) → Up some → AreOf some all → with_pack columns content (Ok all) pack ≡ Ok mid → fold (with_pack columns content) (Ok mid) more ≡ Ok stable → Further pack more stable → (b : Bool) → is_read snapshot bound piece before pack (slice_get more 0) ≡ b → Reads before (pack ∷ more) all some stable
  one_more before pack more all some stable mid up of is rest further true is_so =
      let a = adds columns content all pack mid is in
      let told = told_is pack columns content a.versions a.reads in
      let all_up : Up (all ++ a.versions) = up_from_rise (all ++ a.versions) (rise_is (all ++ a.versions) a.rising) in
      let cross = up_cross all a.versions all_up in
      let joined : Up (some ++ a.versions) = up_both some a.versions up (up_right all a.versions all_up) (each_in (λ (x : Version). Above x a.versions) some (λ v i. in_each (λ (x : Version). Above x a.versions) all cross v (of v i))) in
      let rises : rise (some ++ a.versions) ≡ true = rise_of (some ++ a.versions) (some_joined columns content some a.versions (some_versions a.versions told.rising)) (rise_from_up (some ++ a.versions) joined) in
      let r = further mid (some ++ a.versions) rest joined (λ v i. subst (In v) a.is (append_in v all a.versions (elim (in_append v some a.versions i) [ inl l ↦ inl (of v l) | inr r ↦ inr r ]))) in
      record {
        read = r.read;
        is = ap (λ c. fold (with_pack columns content) (Ok some) (cond c (pack ∷ read_of snapshot bound piece (Some pack) more) (read_of snapshot bound piece (Some pack) more))) is_so ∙ ap (λ x. fold (with_pack columns content) x (read_of snapshot bound piece (Some pack) more)) (added columns content some pack a.versions a.reads rises) ∙ r.is;
        of = r.of;
        same = λ h on safe. r.same h (on_append h some a.versions ∙ ap (λ vs. vs ++ versions_on h a.versions) on ∙ sym (on_append h all a.versions) ∙ ap (versions_on h) a.is) safe.1;
      }
  one_more before pack more all some stable mid up of is rest further false isnt =
      let a = adds columns content all pack mid is in
      let told = told_is pack columns content a.versions a.reads in
      let r = further mid some rest up (λ v i. subst (In v) a.is (append_in v all a.versions (inl (of v i)))) in
      record {
        read = r.read;
        is = ap (λ c. fold (with_pack columns content) (Ok some) (cond c (pack ∷ read_of snapshot bound piece (Some pack) more) (read_of snapshot bound piece (Some pack) more))) isnt ∙ r.is;
        of = r.of;
        same = λ h on safe. r.same h (on ∙ sym (append-nil (versions_on h all)) ∙ ap (λ vs. versions_on h all ++ vs) (sym (none_on h pack a.versions told (elim safe.0 [ inl is_so ↦ absurd (true≢false (sym is_so ∙ isnt)) | inr out ↦ out ]))) ∙ sym (on_append h all a.versions) ∙ ap (versions_on h) a.is) safe.1;
      }

  pub reads : (before : Option Pack) (packs : List Pack) (all some stable : List Version) → fold (with_pack columns content) (Ok all) packs ≡ Ok stable → Up some → AreOf some all → Reads before packs all some stable
  reads before [] all some stable e up of = (let same = ok_is all stable e in record { read = some; is = refl; of = λ v i. subst (In v) same (of v i); same = λ h on safe. on ∙ ap (versions_on h) same })
  reads before (pack ∷ more) all some stable e up of = by (with_pack columns content (Ok all) pack) refl e (λ mid some' rest up' of'. reads (Some pack) more mid some' stable rest up' of')
    where
      by : (r : Result (List Version) FormError) → with_pack columns content (Ok all) pack ≡ r → fold (with_pack columns content) r more ≡ Ok stable → Further pack more stable → Reads before (pack ∷ more) all some stable
      by (Err x) is rest further = cc (sym (stays_failed columns content more x) ∙ rest)
      by (Ok mid) is rest further = one_more before pack more all some stable mid up of is rest further (is_read snapshot bound piece before pack (slice_get more 0)) refl

-- ---- a handle of a pack that isn't read, though it is asked for

low_below : (a b : ℤ) (high : Option ℤ) → a ≤ℤ b → is_below b high ≡ true → is_below a high ≡ true
low_below a b None le e = refl
low_below a b (Some high) le e = less a b high le e
  where
    less : (a b c : ℤ) → a ≤ℤ b → int_lt b c ≡ true → int_lt a c ≡ true
    less a b c p q = grind (arith, ints)

high_from : (a b c : ℤ) → int_le a b ≡ true → b ≤ℤ c → int_le a c ≡ true
high_from a b c p q = grind (arith, ints)

reaches_it : (range : HandleRange) (pack : Pack) (h : ℤ) → holds range h ≡ true → has_handle h pack ≡ true → reaches range pack.low pack.high ≡ true
reaches_it range pack h held has =
    let p = both (int_le range.low h) (is_below h range.high) held in
    let q = both (int_le pack.low h) (int_le h pack.high) has in
    and (is_below pack.low range.high) (int_le range.low pack.high) (low_below pack.low h range.high (is_most pack.low h q.0) p.1) (high_from range.low h pack.high p.0 (is_most h pack.high q.1))

reaches_cut : (cuts : List Cut) (pack : Pack) (h : ℤ) → has_handle h pack ≡ true → list_any (λ (cut : Cut). holds cut.range h) cuts ≡ true → list_any (λ (cut : Cut). reaches cut.range pack.low pack.high) cuts ≡ true
reaches_cut [] pack h has e = e
reaches_cut (cut ∷ cuts) pack h has e = by (holds cut.range h) refl e (reaches_cut cuts pack h has)
  where
    or_first : (a b : Bool) → a ≡ true → (a || b) ≡ true
    or_first true b e = refl
    or_first false b e = absurd (true≢false (sym e))

    or_second : (a b : Bool) → b ≡ true → (a || b) ≡ true
    or_second true b e = refl
    or_second false b e = e

    by : (b : Bool) → holds cut.range h ≡ b → (b || list_any (λ (cut : Cut). holds cut.range h) cuts) ≡ true → (list_any (λ (cut : Cut). holds cut.range h) cuts ≡ true → list_any (λ (cut : Cut). reaches cut.range pack.low pack.high) cuts ≡ true) → (reaches cut.range pack.low pack.high || list_any (λ (cut : Cut). reaches cut.range pack.low pack.high) cuts) ≡ true
    by true is e rest = or_first (reaches cut.range pack.low pack.high) (list_any (λ (cut : Cut). reaches cut.range pack.low pack.high) cuts) (reaches_it cut.range pack h is has)
    by false is e rest = or_second (reaches cut.range pack.low pack.high) (list_any (λ (cut : Cut). reaches cut.range pack.low pack.high) cuts) (rest e)

neither : (a b : Bool) → (a || b) ≡ false → (a ≡ false) × (b ≡ false)
neither true b e = absurd (true≢false e)
neither false b e = (refl, e)

-- Why a pack with wanted handles isn't read.
pub record IsAlone {G : Type 0} (bound : Option Bound) (piece : SegmentView G) (before : Option Pack) (pack : Pack) (after : Option Pack) : Type 0 where
  pub rows : may_hold bound pack ≡ false
  pub delta : delta_has piece.delta pack.low pack.high ≡ false
  pub from : goes_on_from before pack ≡ false
  pub in' : goes_on_in pack after ≡ false

pub alone : {G : Type 0} (snapshot : Snapshot G) (bound : Option Bound) (piece : SegmentView G) (h : ℤ) (before : Option Pack) (pack : Pack) (after : Option Pack) → holds piece.range h ≡ true → is_asked snapshot.clip snapshot.cuts h ≡ true → has_handle h pack ≡ true → is_read snapshot bound piece before pack after ≡ false → IsAlone bound piece before pack after
alone snapshot bound piece h before pack after held asked has out =
    let p = both (holds snapshot.clip h) (list_any (λ (cut : Cut). holds cut.range h) snapshot.cuts) asked in
    let wanted : is_wanted snapshot.clip snapshot.cuts piece.range pack.low pack.high ≡ true =
    and (reaches piece.range pack.low pack.high) (reaches snapshot.clip pack.low pack.high && list_any (λ (cut : Cut). reaches cut.range pack.low pack.high) snapshot.cuts) (reaches_it piece.range pack h held has)
    (and (reaches snapshot.clip pack.low pack.high) (list_any (λ (cut : Cut). reaches cut.range pack.low pack.high) snapshot.cuts) (reaches_it snapshot.clip pack h p.0 has) (reaches_cut snapshot.cuts pack h has p.1)) in
    let rest : (may_hold bound pack || (delta_has piece.delta pack.low pack.high || (goes_on_from before pack || goes_on_in pack after))) ≡ false =
    sym (ap (λ b. b && (may_hold bound pack || (delta_has piece.delta pack.low pack.high || (goes_on_from before pack || goes_on_in pack after)))) wanted) ∙ out in
    let a = neither (may_hold bound pack) _ rest in
    let b = neither (delta_has piece.delta pack.low pack.high) _ a.1 in
    let c = neither (goes_on_from before pack) (goes_on_in pack after) b.1 in
    record { rows = a.0; delta = b.0; from = c.0; in' = c.1 }

-- ---- its rows don't pass

index_or : (ranges : List MinMax) (k : ℕ) → k < length ranges → slice_get ranges k ≡ Some (slice_index_or ranges k Empty)
index_or [] k less = absurd (omega (arith, less))
index_or (x ∷ ranges) zero less = refl
index_or (x ∷ ranges) (suc k) less = index_or ranges k (omega (arith, less))

same_number : (n : ℕ) → (n == n) ≡ true
same_number n = grind arith

no_number : (b : Bound) (range : MinMax) (cells : List Cell) → (not (b.column == b.column) || meets b range) ≡ false → is_within_range b.column range cells ≡ true → has_bound b cells ≡ true → ⊥
no_number b range cells out within has = by (number_in b.column cells) refl within has
  where
    apart : meets b range ≡ false
    apart = ap (λ x. not x || meets b range) (sym (same_number b.column)) ∙ out

    never : (low high l g n : ℤ) → (int_le low g && int_le l high && int_le low high) ≡ false → (int_le l n && int_le n g) ≡ true → (int_le low n && int_le n high) ≡ true → ⊥
    never low high l g n apart in' is =
        let p = both (int_le l n) (int_le n g) in' in
        let q = both (int_le low n) (int_le n high) is in
        let x : int_le low g ≡ true = through low n g q.0 p.1 in
        let y : int_le l high ≡ true = through l n high p.0 q.1 in
        let z : int_le low high ≡ true = through low n high q.0 q.1 in
        true≢false (sym ((λ i. x i && y i && z i)) ∙ apart)
      where
        through : (a b c : ℤ) → int_le a b ≡ true → int_le b c ≡ true → int_le a c ≡ true
        through a b c p q = grind (arith, ints)

    of : (range : MinMax) (n : ℤ) → meets b range ≡ false → in_range range n ≡ true → (int_le b.low n && int_le n b.high) ≡ true → ⊥
    of Empty n apart in' is = true≢false (sym in')
    of (Of l g) n apart in' is = never b.low b.high l g n apart in' is

    by : (o : Option ℤ) → number_in b.column cells ≡ o → elim o [ None ↦ true | Some n ↦ in_range range n ] ≡ true → elim o [ None ↦ false | Some n ↦ is_between b.low b.high n ] ≡ true → ⊥
    by None e w i = true≢false (sym i)
    by (Some n) e w i = of range n apart w i

module _ (bound : Option Bound) (test : Answers) (columns : List Column) (content : List ℕ) (keeps : KeepsTest test bound) where
  -- none of a pack whose rows may not pass
  own_rows : (pack : Pack) (vs : List Version) → told_in pack columns content ≡ Ok vs → TellsColumn bound pack → may_hold bound pack ≡ false → (v : Version) → In v vs → test v.cells true → ⊥
  own_rows pack vs reads tells out v i passes = by bound keeps tells out
    where
      by : (bound : Option Bound) → KeepsTest test bound → TellsColumn bound pack → may_hold bound pack ≡ false → ⊥
      by None keeps tells out = true≢false out
      by (Some b) keeps tells out =
          let bytes = take pack.len (drop pack.place content) in
          let each = ranges_tell columns pack (reached pack.place bytes) b.column bytes (slice_index_or pack.ranges b.column Empty) vs reads (index_or pack.ranges b.column tells) in
          no_number b (slice_index_or pack.ranges b.column Empty) v.cells out (in_each (λ (v : Version). is_within_range b.column (slice_index_or pack.ranges b.column Empty) v.cells ≡ true) vs each v i) (keeps b refl v.cells passes)

  -- a version is of those that were read before, or of a later pack
  before_or_later : (low : ℤ) (packs : List Pack) (mid stable : List Version) → fold (with_pack columns content) (Ok mid) packs ≡ Ok stable → AllByRecursion (λ (p : Pack). low ≤ℤ p.low) packs → (v : Version) → In v stable → In v mid ⊎ (low ≤ℤ v.handle)
  before_or_later low [] mid stable e above v i = inl (subst (In v) (sym (ok_is mid stable e)) i)
  before_or_later low (pack ∷ packs) mid stable e above v i = by (with_pack columns content (Ok mid) pack) refl e (λ next rest. before_or_later low packs next stable rest above.1 v i)
    where
      by : (r : Result (List Version) FormError) → with_pack columns content (Ok mid) pack ≡ r → fold (with_pack columns content) r packs ≡ Ok stable → ((next : List Version) → fold (with_pack columns content) (Ok next) packs ≡ Ok stable → In v next ⊎ (low ≤ℤ v.handle)) → In v mid ⊎ (low ≤ℤ v.handle)
      by (Err x) is rest further = cc (sym (stays_failed columns content packs x) ∙ rest)
      by (Ok next) is rest further =
          let a = adds columns content mid pack next is in
          let told = told_is pack columns content a.versions a.reads in
          elim (further next rest) [
            | inl j ↦ elim (in_append v mid a.versions (subst (In v) (sym a.is) j)) [ inl l ↦ inl l | inr r ↦ inr (le_trans low pack.low v.handle above.0 (in_each (λ (v : Version). pack.low ≤ℤ v.handle) a.versions (read_from pack a.versions told) v r)) ]
            | inr le ↦ inr le
          ]

  above_all : (low : ℤ) (pack : Pack) (packs : List Pack) → low ≤ℤ pack.low → NeverFall (pack ∷ packs) → AllByRecursion IsPack (pack ∷ packs) → AllByRecursion (λ (p : Pack). low ≤ℤ p.low) (pack ∷ packs)
  above_all low pack [] le order each = (le, tt)
  above_all low pack (next ∷ more) le order each = (le, above_all low next more (le_trans low pack.low next.low le (le_trans pack.low pack.high next.low each.0.order order.0)) order.1 each.1)

  -- no pack before has a handle above the first's
  abbrev pub EndsBelow : Option Pack → Pack → Type 0
  EndsBelow None pack = Unit {0}
  EndsBelow (Some before) pack = before.high ≤ℤ pack.low

  abbrev pub NotAbove : ℤ → Option Pack → Type 0
  NotAbove h None = ⊥
  NotAbove h (Some before) = h ≤ℤ before.high

  module _ {G : Type 0} (snapshot : Snapshot G) (piece : SegmentView G) (h : ℤ) (held : holds piece.range h ≡ true) (asked : is_asked snapshot.clip snapshot.cuts h ≡ true) where
    pub none_passes : (before : Option Pack) (packs : List Pack) (all stable : List Version) → fold (with_pack columns content) (Ok all) packs ≡ Ok stable → NeverFall packs → AllByRecursion IsPack packs → AllByRecursion (TellsColumn bound) packs → ((pack : Pack) → slice_get packs 0 ≡ Some pack → EndsBelow before pack) → ((v : Version) → In v all → v.handle ≡ h → NotAbove h before) →
        IsSkipped snapshot bound piece h before packs → (v : Version) → In v stable → v.handle ≡ h → test v.cells true → ⊥
    none_passes before [] all stable e order each tells ends low skipped v i on passes = skipped
    none_passes before (pack ∷ more) all stable e order each tells ends low skipped v i on passes = by (with_pack columns content (Ok all) pack) refl e (λ mid a rest there. none_passes (Some pack) more mid stable rest (rest_order more order) each.1 tells.1 (next_ends more order) (tail mid a) there v i on passes)
      where
        head : (mid : List Version) → (a : Adds columns content all pack mid) → IsAlone bound piece before pack (slice_get more 0) → has_handle h pack ≡ true → In v mid → ⊥
        head mid a lone has j = elim (in_append v all a.versions (subst (In v) (sym a.is) j)) [
          | inl l ↦ from before (low v l on) (ends pack refl) lone.from
          | inr r ↦ own_rows pack a.versions a.reads tells.0 lone.rows v r passes
        ]
          where
            from : (before : Option Pack) → NotAbove h before → EndsBelow before pack → goes_on_from before pack ≡ false → ⊥
            from None not_above below apart = not_above
            from (Some b) not_above below apart = true≢false (sym (not_most pack.low b.high (le_trans pack.low h b.high (is_most pack.low h (both (int_le pack.low h) (int_le h pack.high) has).0) not_above)) ∙ apart)

        later : (more : List Pack) (mid : List Version) → fold (with_pack columns content) (Ok mid) more ≡ Ok stable → NeverFall (pack ∷ more) → AllByRecursion IsPack (pack ∷ more) → has_handle h pack ≡ true → goes_on_in pack (slice_get more 0) ≡ false → In v mid
        later [] mid rest order each has apart = subst (In v) (sym (ok_is mid stable rest)) i
        later (next ∷ others) mid rest order each has apart = elim (before_or_later next.low (next ∷ others) mid stable rest (above_all next.low next others (itself next.low) order.1 each.1) v i) [
          | inl j ↦ j
          | inr le ↦ absurd (true≢false (sym (not_most next.low pack.high (le_trans next.low h pack.high (subst (λ k. next.low ≤ℤ k) on le) (is_most h pack.high (both (int_le pack.low h) (int_le h pack.high) has).1))) ∙ apart))
        ]
          where
            itself : (k : ℤ) → k ≤ℤ k
            itself k = omega (arith, ints)

        rest_order : (more : List Pack) → NeverFall (pack ∷ more) → NeverFall more
        rest_order [] o = tt
        rest_order (next ∷ others) o = o.1

        next_ends : (more : List Pack) → NeverFall (pack ∷ more) → (p : Pack) → slice_get more 0 ≡ Some p → pack.high ≤ℤ p.low
        next_ends [] o p at = cc at
        next_ends (next ∷ others) o p at = (let same : next ≡ p = cc at in subst (λ (q : Pack). pack.high ≤ℤ q.low) same o.0)

        not_above : (before : Option Pack) → NotAbove h before → EndsBelow before pack → h ≤ℤ pack.high
        not_above None n b = absurd n
        not_above (Some x) n b = le_trans h x.high pack.high n (le_trans x.high pack.low pack.high b each.0.order)

        tail : (mid : List Version) → Adds columns content all pack mid → (w : Version) → In w mid → w.handle ≡ h → h ≤ℤ pack.high
        tail mid a w j is = elim (in_append w all a.versions (subst (In w) (sym a.is) j)) [
          | inl l ↦ not_above before (low w l is) (ends pack refl)
          | inr r ↦ subst (λ k. k ≤ℤ pack.high) is (in_each (λ (v : Version). v.handle ≤ℤ pack.high) a.versions (read_below pack a.versions (told_is pack columns content a.versions a.reads)) w r)
        ]

        by : (r : Result (List Version) FormError) → with_pack columns content (Ok all) pack ≡ r → fold (with_pack columns content) r more ≡ Ok stable → ((mid : List Version) → Adds columns content all pack mid → fold (with_pack columns content) (Ok mid) more ≡ Ok stable → IsSkipped snapshot bound piece h (Some pack) more → ⊥) → ⊥
        by (Err x) is rest further = cc (sym (stays_failed columns content more x) ∙ rest)
        by (Ok mid) is rest further =
            let a = adds columns content all pack mid is in
            elim skipped [
              | inl here ↦ (let lone = alone snapshot bound piece h before pack (slice_get more 0) held asked here.1 here.0 in head mid a lone here.1 (later more mid rest order each here.1 lone.in'))
              | inr there ↦ further mid a rest there
            ]

    -- nor has the delta a version of it
    pub none_in_delta : (before : Option Pack) (packs : List Pack) → IsSkipped snapshot bound piece h before packs → list_any (λ (entry : Entry). int_eq entry.0.0 h) (index_of piece.delta) ≡ false
    none_in_delta before [] skipped = absurd skipped
    none_in_delta before (pack ∷ more) (inl here) = (let lone = alone snapshot bound piece h before pack (slice_get more 0) held asked here.1 here.0 in fewer (index_of piece.delta) lone.delta)
      where
        fewer : (entries : List Entry) → list_any (λ (entry : Entry). int_le pack.low entry.0.0 && int_le entry.0.0 pack.high) entries ≡ false → list_any (λ (entry : Entry). int_eq entry.0.0 h) entries ≡ false
        fewer [] e = refl
        fewer (x ∷ entries) e = (let p = neither (int_le pack.low x.0.0 && int_le x.0.0 pack.high) _ e in of (int_eq x.0.0 h) refl p.0 (fewer entries p.1))
          where
            of : (b : Bool) → int_eq x.0.0 h ≡ b → (int_le pack.low x.0.0 && int_le x.0.0 pack.high) ≡ false → list_any (λ (entry : Entry). int_eq entry.0.0 h) entries ≡ false → (b || list_any (λ (entry : Entry). int_eq entry.0.0 h) entries) ≡ false
            of true is out rest = absurd (true≢false (sym (ap (λ k. int_le pack.low k && int_le k pack.high) (int_same x.0.0 h is) ∙ here.1) ∙ out))
            of false is out rest = rest
    none_in_delta before (pack ∷ more) (inr there) = none_in_delta (Some pack) more there

-- Where the delta has no version of a handle, what is present of it is of the stable part, or cleared.
pub view_of : (h : ℤ) (stable : List Version) (files : List ColumnFile) (ts : ℕ) (v : Version) → list_any (λ (entry : Entry). int_eq entry.0.0 h) (index_of files) ≡ false → view h stable (files_of files) ts ≡ Some v → had h stable ts ≡ Some v
view_of h stable files ts v none e = of (any_holds (clears_in files) h) (sym (ap (λ o. option_or o (cond (any_holds (clears_in files) h) None (had h stable ts))) not_found) ∙ sym ((knows files).shows h ts (had h stable ts)) ∙ e)
  where
    equal : (o : Ordering) → is_eq o ≡ true → o ≡ Equal
    equal Less e = absurd (true≢false (sym e))
    equal Equal e = refl
    equal Greater e = absurd (true≢false (sym e))

    no_place : (entries : List Entry) → list_any (λ (entry : Entry). int_eq entry.0.0 h) entries ≡ false → place_of h ts entries ≡ None
    no_place [] out = refl
    no_place (x ∷ entries) out = (let p = neither (int_eq x.0.0 h) _ out in by (is_eq (key_cmp (h, ts) x.0)) refl p.0 (no_place entries p.1))
      where
        by : (b : Bool) → is_eq (key_cmp (h, ts) x.0) ≡ b → int_eq x.0.0 h ≡ false → place_of h ts entries ≡ None → cond b (Some x.1) (place_of h ts entries) ≡ None
        by true is out rest = absurd (true≢false (sym (int_itself x.0.0 h (sym (exact (h, ts) x.0 (equal (key_cmp (h, ts) x.0) is)).0)) ∙ out))
        by false is out rest = rest

    not_found : found files (index_of files) h ts ≡ None
    not_found = ap (option_and_then (at_place files)) (no_place (index_of files) none)

    of : (c : Bool) → cond c None (had h stable ts) ≡ Some v → had h stable ts ≡ Some v
    of true e = cc e
    of false e = e
