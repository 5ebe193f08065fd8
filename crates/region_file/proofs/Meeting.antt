-- Which ranges of a map meet a range: one that begins in it, or the last one that begins below it.
use Rattle.std.proofs.Common.{◌≡◌, ◌∙◌, refl, sym, ap, subst, ℤ, Bool, true, false, true≢false, ◌&&◌, ◌||◌, not, cond, List, [], ◌∷◌, ◌++◌, filter, Option, Some, None, is_some, int_lt, int_le, arith}
use Rattle.std.proofs.lemmas.Int.{ints}
use Rattle.std.proofs.lemmas.List.Folds.{list_any-append}
use Rattle.std.specs.BTreeMap.{insert_entry}
use Rattle.std.specs.BTreeMap.Range.{entries_between}
use Rattle.std.specs.List.{list_any, AllByRecursion}
use Rattle.std.specs.List.Sorted.{IsStrictlySortedBy}
use Rattle.std.specs.Ordering.{int_cmp, is_le, match_ordering}
use Rattle.std.specs.declared.cmp.Ordering.{Ordering}
use Rattle.std.specs.declared.cmp.Ordering.TheVariants.{Less, Equal, Greater}
use Rattle.std.specs.declared.ops.Bound.TheVariants.{Excluded, Unbounded}
use Rattle.flash_types.specs.Ranges.{holds, is_below}
use Rattle.flash_types.specs.declared.range.HandleRange.{HandleRange}
use Rattle.committed_log.specs.Admission.{least_common}
use Rattle.std.proofs.lemmas.Map.Lookups.{exact_signed}
use Rattle.committed_log.proofs.Faults.{or_false}
use Rattle.committed_log.proofs.Maps.{Rise, Rise-filter}
use Rattle.committed_log.proofs.Positions.{fold_push}
use Rattle.region_file.specs.Regions.{meet}
use Rattle.region_file.specs.Taken.{AreTaken, span, ends_by, last_of, goes_past}
use Rattle.region_file.proofs.KeysRise.{handle_below}

-- ---- parts of a map

pub below_is : {X : Type 0} (es : List (ℤ × X)) (h k : ℤ) → k ≡ h → entries_between int_cmp Unbounded (Excluded k) es ≡ filter (λ (e : ℤ × X). int_lt e.0 h) es
below_is {X} es h k same = λ i. filter (λ (e : ℤ × X). at e.0 i) es
  where
    one : (q h : ℤ) → (true && not (is_le (int_cmp h q))) ≡ int_lt q h
    one q h = grind (arith, ints)

    at : (q : ℤ) → (true && not (is_le (int_cmp k q))) ≡ int_lt q h
    at q = one q k ∙ ap (int_lt q) same

pub none_of : {E : Type 0} (p : E → Bool) (es : List E) → filter p es ≡ [] → list_any p es ≡ false
none_of p [] none = refl
none_of {E} p (e ∷ es) none = by (none_of p es) (p e) none
  where
    by : (filter p es ≡ [] → list_any p es ≡ false) → (b : Bool) → cond b (e ∷ filter p es) (filter p es) ≡ [] → (b || list_any p es) ≡ false
    by rest true none = cc none
    by rest false none = rest none

pub some_of : {E : Type 0} (p : E → Bool) (es : List E) (x : E) (more : List E) → filter p es ≡ x ∷ more → list_any p es ≡ true
some_of p [] x more is = cc is
some_of {E} p (e ∷ es) x more is = by (some_of p es x more) (p e) is
  where
    by : (filter p es ≡ x ∷ more → list_any p es ≡ true) → (b : Bool) → cond b (e ∷ filter p es) (filter p es) ≡ x ∷ more → (b || list_any p es) ≡ true
    by rest true is = refl
    by rest false is = rest is

pub last_push : {E : Type 0} (es : List E) (e : E) → last_of (es ++ e ∷ []) ≡ Some e
last_push {E} es e = fold_push (λ (last : Option E) (x : E). Some x) None es e

-- ---- two ranges

-- a range that has a handle meets another that has one, where one of them begins in the other
meet_filled : (low eb : ℤ) (high ee : Option ℤ) → is_below low high ≡ true → is_below eb ee ≡ true → meet (record { low = low; high = high }) (record { low = eb; high = ee }) ≡ (holds (record { low = low; high = high }) eb || (int_lt eb low && is_below low ee))
meet_filled low eb None None f g = by (int_le low eb) refl
  where
    by : (b : Bool) → int_le low eb ≡ b → is_some (least_common (record { low = low; high = None }) (record { low = eb; high = None })) ≡ ((int_le low eb && true) || (int_lt eb low && true))
    by b is = grind (arith, ints, is)
meet_filled low eb None (Some y) f g = grind (arith, ints, f, g)
meet_filled low eb (Some x) None f g = grind (arith, ints, f, g)
meet_filled low eb (Some x) (Some y) f g = grind (arith, ints, f, g)

empty_holds : (low : ℤ) (high : Option ℤ) (h : ℤ) → is_below low high ≡ false → holds (record { low = low; high = high }) h ≡ false
empty_holds low None h none = absurd (true≢false none)
empty_holds low (Some x) h none = grind (arith, ints, none)

-- a range without handles meets none
empty_meets : (range : HandleRange) → is_below range.low range.high ≡ false → (other : HandleRange) → meet range other ≡ false
empty_meets range none other =
    let m = cond (int_le range.low other.low) other.low range.low in
    ap (λ b. is_some (cond (b && holds other m) (Some m) None)) (empty_holds range.low range.high m none)

pub any_none : {E : Type 0} (f : E → Bool) → ((e : E) → f e ≡ false) → (es : List E) → list_any f es ≡ false
any_none f none [] = refl
any_none f none (e ∷ es) = (λ i. none e i || any_none f none es i)

pub empty_any : (range : HandleRange) → is_below range.low range.high ≡ false → (ranges : List HandleRange) → list_any (meet range) ranges ≡ false
empty_any range none ranges = any_none (meet range) (empty_meets range none) ranges

-- ---- all

abbrev Span : Type 0
Span = ℤ × Option ℤ

map_all : {E : Type 0} {P Q : E → Type 0} → ((e : E) → P e → Q e) → (es : List E) → AllByRecursion P es → AllByRecursion Q es
map_all f [] all = tt
map_all f (e ∷ es) all = (f e all.0, map_all f es all.1)

zip_all : {E : Type 0} {P Q R : E → Type 0} → ((e : E) → P e → Q e → R e) → (es : List E) → AllByRecursion P es → AllByRecursion Q es → AllByRecursion R es
zip_all f [] all others = tt
zip_all f (e ∷ es) all others = (f e all.0 others.0, zip_all f es all.1 others.1)

filter_all : {E : Type 0} (P : E → Type 0) (p : E → Bool) (es : List E) → AllByRecursion P es → AllByRecursion P (filter p es)
filter_all P p [] all = tt
filter_all P p (e ∷ es) all = elim (p e) as (λ b. AllByRecursion P (cond b (e ∷ filter p es) (filter p es))) [ true ↦ (all.0, filter_all P p es all.1) | false ↦ filter_all P p es all.1 ]

passed : {E : Type 0} (p : E → Bool) (es : List E) → AllByRecursion (λ e. p e ≡ true) (filter p es)
passed p [] = tt
passed {E} p (e ∷ es) = by (passed p es) (p e) refl
  where
    by : AllByRecursion (λ e. p e ≡ true) (filter p es) → (b : Bool) → p e ≡ b → AllByRecursion (λ e. p e ≡ true) (cond b (e ∷ filter p es) (filter p es))
    by rest true is = (is, rest)
    by rest false is = rest

insert_all : (P : Span → Type 0) (es : List Span) (k : ℤ) (v : Option ℤ) → P (k, v) → AllByRecursion P es → AllByRecursion P (insert_entry int_cmp es k v)
insert_all P [] k v one all = (one, tt)
insert_all P (e ∷ es) k v one all = by (insert_all P es k v one all.1) (int_cmp k e.0) refl
  where
    by : AllByRecursion P (insert_entry int_cmp es k v) → (r : Ordering) → int_cmp k e.0 ≡ r → AllByRecursion P (match_ordering r ((k, v) ∷ e ∷ es) ((e.0, v) ∷ es) (e ∷ insert_entry int_cmp es k v))
    by rest Less is = (one, all)
    by rest Equal is = (subst (λ h. P (h, v)) (exact_signed k e.0 is) one, all.1)
    by rest Greater is = (all.0, rest)

-- ---- which ranges meet one

or_mix : (a b c d : Bool) → ((a || b) || (c || d)) ≡ ((a || c) || (b || d))
or_mix true b c d = refl
or_mix false true true d = refl
or_mix false true false d = refl
or_mix false false c d = refl

or_turn : (a b : Bool) → (a || b) ≡ (b || a)
or_turn true true = refl
or_turn true false = refl
or_turn false true = refl
or_turn false false = refl

or_group : (a b c : Bool) → (a || (b || c)) ≡ ((a || b) || c)
or_group true b c = refl
or_group false b c = refl

any_within : {E : Type 0} (p q : E → Bool) (es : List E) → list_any (λ e. p e && q e) es ≡ list_any q (filter p es)
any_within p q [] = refl
any_within {E} p q (e ∷ es) = by (any_within p q es) (p e)
  where
    by : list_any (λ e. p e && q e) es ≡ list_any q (filter p es) → (b : Bool) → ((b && q e) || list_any (λ e. p e && q e) es) ≡ list_any q (cond b (e ∷ filter p es) (filter p es))
    by rest true = ap (λ x. q e || x) rest
    by rest false = rest

module _ (range : HandleRange) (full : is_below range.low range.high ≡ true) where
  abbrev before : Span → Bool
  before e = int_lt e.0 range.low

  abbrev past : Span → Bool
  past e = is_below range.low e.1

  any_meet : (es : List Span) → AllByRecursion (λ (e : Span). is_below e.0 e.1 ≡ true) es → list_any (λ (e : Span). meet range (span e)) es ≡ (list_any (λ (e : Span). holds range e.0) es || list_any (λ e. before e && past e) es)
  any_meet [] all = refl
  any_meet (e ∷ es) all = (λ i. meet_filled range.low e.0 range.high e.1 full all.0 i || any_meet es all.1 i)
      ∙ or_mix (holds range e.0) (before e && past e) (list_any (λ (e : Span). holds range e.0) es) (list_any (λ e. before e && past e) es)

  -- each range ends before the next begins, and that begins below
  Next : List Span → Type 0
  Next [] = Unit {0}
  Next (e ∷ es) = AllByRecursion (λ (b : Span). int_lt e.0 b.0 ≡ true → ends_by e.1 b.0 ≡ true) es × Next es

  to_next : (es : List Span) → AllByRecursion (λ (a : Span). AllByRecursion (λ (b : Span). int_lt a.0 b.0 ≡ true → ends_by a.1 b.0 ≡ true) es) es → Next es
  unfolding Next
  to_next [] all = tt
  to_next (e ∷ es) all = (all.0.1, to_next es (map_all (λ a those. those.1) es all.1))

  not_past : (a b : ℤ) (high : Option ℤ) → ends_by high b ≡ true → int_lt b a ≡ true → is_below a high ≡ false
  not_past a b None ends less = absurd (true≢false (sym ends))
  not_past a b (Some x) ends less = grind (arith, ints, ends, less)

  last_any : (es : List Span) → Rise int_cmp es → AllByRecursion (λ e. before e ≡ true) es → Next es → list_any past es ≡ elim (last_of es) [ None ↦ false | Some e ↦ past e ]
  unfolding Next IsStrictlySortedBy
  last_any [] rise low next = refl
  last_any (e ∷ []) rise low next = or_turn (past e) false
  last_any (e ∷ f ∷ es) rise low next =
      ap (λ b. b || list_any past (f ∷ es)) (not_past range.low f.0 e.1 (next.0.0 (handle_below e.0 f.0 rise.0.0)) low.1.0) ∙ last_any (f ∷ es) rise.1 low.1 next.1

  pub met_is : (es : List Span) (ranges : List HandleRange) → Rise int_cmp es → AreTaken es ranges → (list_any (λ (e : Span). holds range e.0) es || goes_past range.low es) ≡ list_any (meet range) ranges
  met_is es ranges rise taken =
      let those = filter before es in
      let apart = filter_all (λ (a : Span). AllByRecursion (λ (b : Span). int_lt a.0 b.0 ≡ true → ends_by a.1 b.0 ≡ true) those) before es
      (map_all (λ a all. filter_all (λ (b : Span). int_lt a.0 b.0 ≡ true → ends_by a.1 b.0 ≡ true) before es all) es taken.apart) in
      let last = any_within before past es ∙ last_any those (Rise-filter int_cmp before es rise) (passed before es) (to_next those apart) in
      sym (taken.same range ∙ any_meet es taken.filled ∙ ap (λ b. list_any (λ (e : Span). holds range e.0) es || b) last)

  -- ---- one more range

  begins : (h : ℤ) (high : Option ℤ) (low : ℤ) → is_below low high ≡ true → int_cmp low h ≡ Equal → holds (record { low = low; high = high }) h ≡ true
  begins h None low full same = grind (arith, ints, same)
  begins h (Some x) low full same = grind (arith, ints, same, full)

  any_insert : (f : Span → Bool) (es : List Span) → list_any (λ (e : Span). holds range e.0) es ≡ false → list_any f (insert_entry int_cmp es range.low range.high) ≡ (list_any f es || f (range.low, range.high))
  any_insert f [] none = or_turn (f (range.low, range.high)) false
  any_insert f (e ∷ es) none = by (any_insert f es (or_false (holds range e.0) (list_any (λ (e : Span). holds range e.0) es) none).1) (int_cmp range.low e.0) refl
    where
      by : list_any f (insert_entry int_cmp es range.low range.high) ≡ (list_any f es || f (range.low, range.high)) → (r : Ordering) → int_cmp range.low e.0 ≡ r
          → list_any f (match_ordering r ((range.low, range.high) ∷ e ∷ es) ((e.0, range.high) ∷ es) (e ∷ insert_entry int_cmp es range.low range.high)) ≡ ((f e || list_any f es) || f (range.low, range.high))
      by rest Less is = or_turn (f (range.low, range.high)) (f e || list_any f es)
      by rest Equal is = absurd (true≢false (sym (begins e.0 range.high range.low full is) ∙ (or_false (holds range e.0) (list_any (λ (e : Span). holds range e.0) es) none).0))
      by rest Greater is = ap (λ b. f e || b) rest ∙ or_group (f e) (list_any f es) (f (range.low, range.high))

  ends_first : (low h : ℤ) (high : Option ℤ) → holds (record { low = low; high = high }) h ≡ false → int_lt low h ≡ true → ends_by high h ≡ true
  ends_first low h None none less = grind (arith, ints, none, less)
  ends_first low h (Some x) none less = grind (arith, ints, none, less)

  ends_second : (low h : ℤ) (high : Option ℤ) → (int_lt h low && is_below low high) ≡ false → int_lt h low ≡ true → ends_by high low ≡ true
  ends_second low h None none less = grind (arith, ints, none, less)
  ends_second low h (Some x) none less = grind (arith, ints, none, less)

  none_met : (es : List Span) → AllByRecursion (λ (e : Span). is_below e.0 e.1 ≡ true) es → list_any (λ (e : Span). meet range (span e)) es ≡ false → AllByRecursion (λ (e : Span). (holds range e.0 ≡ false) × ((before e && past e) ≡ false)) es
  none_met [] all none = tt
  none_met (e ∷ es) all none =
      let parts = or_false (meet range (span e)) (list_any (λ (e : Span). meet range (span e)) es) none in
      (or_false (holds range e.0) (before e && past e) (sym (meet_filled range.low e.0 range.high e.1 full all.0) ∙ parts.0), none_met es all.1 parts.1)

  not_itself : (h : ℤ) → int_lt h h ≡ true → ⊥
  not_itself h less = absurd (grind (arith, ints, less))

  pub taken_more : (es new : List Span) (ranges : List HandleRange) → AreTaken es ranges → list_any (meet range) ranges ≡ false → new ≡ insert_entry int_cmp es range.low range.high → AreTaken new (ranges ++ range ∷ [])
  taken_more es new ranges taken free is = subst (λ (es : List Span). AreTaken es (ranges ++ range ∷ [])) (sym is) (record {
    same = λ r. list_any-append (meet r) ranges (range ∷ []) ∙ (λ i. taken.same r i || or_turn (meet r range) false i) ∙ sym (any_insert (λ (e : Span). meet r (span e)) es none);
    filled = insert_all (λ (e : Span). is_below e.0 e.1 ≡ true) es range.low range.high full taken.filled;
    apart = insert_all (λ (a : Span). AllByRecursion (λ (b : Span). int_lt a.0 b.0 ≡ true → ends_by a.1 b.0 ≡ true) (insert_entry int_cmp es range.low range.high)) es range.low range.high
        (insert_all (λ (b : Span). int_lt range.low b.0 ≡ true → ends_by range.high b.0 ≡ true) es range.low range.high (λ less. absurd (not_itself range.low less))
        (map_all (λ e facts less. ends_first range.low e.0 range.high facts.0 less) es each))
        (zip_all (λ a those facts. insert_all (λ (b : Span). int_lt a.0 b.0 ≡ true → ends_by a.1 b.0 ≡ true) es range.low range.high (λ less. ends_second range.low a.0 a.1 facts.1 less) those) es taken.apart each);
  })
    where
      unmet : list_any (λ (e : Span). meet range (span e)) es ≡ false
      unmet = sym (taken.same range) ∙ free

      none : list_any (λ (e : Span). holds range e.0) es ≡ false
      none = (or_false (list_any (λ (e : Span). holds range e.0) es) (list_any (λ e. before e && past e) es) (sym (any_meet es taken.filled) ∙ unmet)).0

      each : AllByRecursion (λ (e : Span). (holds range e.0 ≡ false) × ((before e && past e) ≡ false)) es
      each = none_met es taken.filled unmet

-- a range without handles takes none
pub taken_same : (range : HandleRange) → is_below range.low range.high ≡ false → (es new : List Span) (ranges : List HandleRange) → AreTaken es ranges → new ≡ es → AreTaken new (ranges ++ range ∷ [])
taken_same range empty es new ranges taken is = subst (λ (es : List Span). AreTaken es (ranges ++ range ∷ [])) (sym is) (record {
  same = λ r. list_any-append (meet r) ranges (range ∷ []) ∙ (λ i. taken.same r i || or_turn (meet r range) false i) ∙ ap (λ b. list_any (λ (e : Span). meet r (span e)) es || b) (meets_empty r) ∙ or_turn (list_any (λ (e : Span). meet r (span e)) es) false;
  filled = taken.filled;
  apart = taken.apart;
})
  where
    none_both : (m : ℤ) (r : HandleRange) → is_some (cond (holds r m && holds range m) (Some m) None) ≡ false
    none_both m r = ap (λ b. is_some (cond (holds r m && b) (Some m) None)) (empty_holds range.low range.high m empty) ∙ no_both (holds r m)
      where
        no_both : (b : Bool) → is_some (cond (b && false) (Some m) None) ≡ false
        no_both true = refl
        no_both false = refl

    meets_empty : (r : HandleRange) → meet r range ≡ false
    meets_empty r = none_both (cond (int_le r.low range.low) range.low r.low) r
