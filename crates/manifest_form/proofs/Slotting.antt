-- What changes of a table of slots do to its segments.
use Rattle.std.proofs.Common.{◌≡◌, ◌≢◌, ◌∙◌, refl, sym, ap, subst, ℕ, ℤ, ◌<◌, ◌≤◌, Bool, true, false, cond, eqb, ltb, List, [], ◌∷◌, Option, Some, None, arith}
use Rattle.std.specs.Prelude.{int_lt, is_some, Result, Ok, Err, OnOk, OnErr}
use Rattle.std.specs.declared.alloc.AllocError.{AllocError}
use Rattle.std.specs.declared.cmp.Ordering.{Ordering}
use Rattle.std.specs.declared.cmp.Ordering.TheVariants.{Less, Equal, Greater}
use Rattle.std.specs.Ordering.{int_cmp, nat_cmp, is_eq, match_ordering, ordering_then}
use Rattle.std.specs.Cmp.{IsTotalOrder, int_cmp_total, nat_cmp_total, tied_itself, Equal-is}
use Rattle.std.specs.BTreeMap.{is_at, insert_entry}
use Rattle.std.specs.Map.{keys_of, values_of, lookup, remove_entry}
use Rattle.std.specs.List.{AllByRecursion}
use Rattle.std.specs.List.Sorted.{IsStrictlySortedBy}
use Rattle.std.proofs.lemmas.Bool.{eqb-false, ne_eqb, ltb-true}
use Rattle.std.proofs.lemmas.Cmp.{then_total, on_total}
use Rattle.std.proofs.lemmas.Map.Keys.{sorted_head, sorted_tail}
use Rattle.std.proofs.lemmas.Map.Lookups.{CmpEqualImpliesEq, exact_pairs, exact_signed, exact_unsigned}
use Rattle.manifest_form.specs.declared.state.StoredSegment.{StoredSegment}
use Rattle.manifest_form.specs.States.{placed, without}
use Rattle.manifest_form.specs.Slots.{place_cmp, somes, present, Fits, AllFit, has_id}
use Rattle.manifest_form.specs.Whole.{HasNone}

abbrev Entries : Type 0
Entries = List ((ℤ × ℕ) × Option StoredSegment)

abbrev pub Sorted : List ((ℤ × ℕ) × Option StoredSegment) → Type 0
Sorted es = IsStrictlySortedBy place_cmp (keys_of es)

abbrev pub Above : ℤ × ℕ → List ((ℤ × ℕ) × Option StoredSegment) → Type 0
Above p es = AllByRecursion (λ q. place_cmp p q ≡ Less) (keys_of es)

pub place_total : IsTotalOrder place_cmp
place_total = then_total {R = λ a b. int_cmp a.0 b.0} {S = λ a b. nat_cmp a.1 b.1} (on_total (λ a. a.0) int_cmp_total) (on_total (λ a. a.1) nat_cmp_total)

pub place_exact : CmpEqualImpliesEq place_cmp
place_exact = exact_pairs int_cmp nat_cmp exact_signed exact_unsigned

irrefl : (p : ℤ × ℕ) → place_cmp p p ≡ Less → ⊥
irrefl p less = absurd (cc (sym less ∙ tied_itself place_total p))

pub same_place : (p q : ℤ × ℕ) → is_at (place_cmp p) q ≡ true → p ≡ q
same_place p q at = place_exact p q ((Equal-is (place_cmp p q)).0 at)

other_place : (p q : ℤ × ℕ) → is_at (place_cmp p) q ≡ false → p ≡ q → ⊥
other_place p q at is = absurd (cc (sym at ∙ ap is_eq (ap (place_cmp p) (sym is) ∙ tied_itself place_total p)))

some_same : {X : Type 0} (a b : X) (o : Option X) → o ≡ Some a → o ≡ Some b → a ≡ b
some_same a b o x y = cc (sym x ∙ y)

-- ---- by ids

pub without_absent : (id : ℕ) (ss : List StoredSegment) → HasNone id ss → without id ss ≡ ss
without_absent id [] none = refl
without_absent id (s ∷ ss) none = rw (ne_eqb s.id id none.0) (ap (λ (xs : List StoredSegment). s ∷ xs) (without_absent id ss none.1))

-- of an id that isn't known there is no segment
pub unknown_none : (found : ℕ → Option (ℤ × ℕ)) (turn id : ℕ) (es : List ((ℤ × ℕ) × Option StoredSegment)) → AllFit found turn es → found id ≡ None → HasNone id (present es)
unknown_none found turn id [] fits unknown = tt
unknown_none found turn id ((p, None) ∷ es) fits unknown = unknown_none found turn id es fits.1 unknown
unknown_none found turn id ((p, Some s) ∷ es) fits unknown = (λ is. absurd (cc (sym fits.0.2 ∙ ap found is ∙ unknown)), unknown_none found turn id es fits.1 unknown)

-- behind its place there is no segment with this id
none_above : (found : ℕ → Option (ℤ × ℕ)) (turn id : ℕ) (p : ℤ × ℕ) (es : List ((ℤ × ℕ) × Option StoredSegment)) → AllFit found turn es → found id ≡ Some p → Above p es → HasNone id (present es)
none_above found turn id p [] fits known above = tt
none_above found turn id p ((q, None) ∷ es) fits known above = none_above found turn id p es fits.1 known above.1
none_above found turn id p ((q, Some s) ∷ es) fits known above = (
  λ is. irrefl p (subst (λ (x : ℤ × ℕ). place_cmp p x ≡ Less) (some_same q p (found id) (ap found (sym is) ∙ fits.0.2) known) above.0),
  none_above found turn id p es fits.1 known above.1,
)

-- Where the segment with this id doesn't stand at its place, there is none.
pub none_there : (found : ℕ → Option (ℤ × ℕ)) (turn id : ℕ) (p : ℤ × ℕ) (es : List ((ℤ × ℕ) × Option StoredSegment)) → Sorted es → AllFit found turn es → found id ≡ Some p → has_id id (lookup (is_at (place_cmp p)) es) ≡ false → HasNone id (present es)
none_there found turn id p [] sorted fits known lacks = tt
none_there found turn id p ((q, slot) ∷ es) sorted fits known lacks = by (λ no. none_there found turn id p es (sorted_tail place_cmp q (keys_of es) sorted) fits.1 known no) (is_at (place_cmp p) q) refl slot fits lacks
  where
    by : (has_id id (lookup (is_at (place_cmp p)) es) ≡ false → HasNone id (present es)) → (b : Bool) → is_at (place_cmp p) q ≡ b → (slot : Option StoredSegment) → Fits found turn (q, slot) × AllFit found turn es → has_id id (cond b (Some slot) (lookup (is_at (place_cmp p)) es)) ≡ false → HasNone id (somes (slot ∷ values_of es))
    by again true at None fits lacks = none_above found turn id p es fits.1 known (subst (λ (x : ℤ × ℕ). Above x es) (sym (same_place p q at)) (sorted_head place_cmp q (keys_of es) sorted))
    by again true at (Some s) fits lacks = (eqb-false s.id id lacks, none_above found turn id p es fits.1 known (subst (λ (x : ℤ × ℕ). Above x es) (sym (same_place p q at)) (sorted_head place_cmp q (keys_of es) sorted)))
    by again false at None fits lacks = again lacks
    by again false at (Some s) fits lacks = (
      λ is. other_place p q at (some_same p q (found id) known (ap found (sym is) ∙ fits.0.2)),
      again lacks,
    )

-- ---- a slot that is taken away

-- with the segment that is found by its id
pub taken_out : (found : ℕ → Option (ℤ × ℕ)) (turn id : ℕ) (p : ℤ × ℕ) (es : List ((ℤ × ℕ) × Option StoredSegment)) → Sorted es → AllFit found turn es → found id ≡ Some p → has_id id (lookup (is_at (place_cmp p)) es) ≡ true → present (remove_entry (is_at (place_cmp p)) es) ≡ without id (present es)
taken_out found turn id p [] sorted fits known has = refl
taken_out found turn id p ((q, slot) ∷ es) sorted fits known has = by (λ yes. taken_out found turn id p es (sorted_tail place_cmp q (keys_of es) sorted) fits.1 known yes) (is_at (place_cmp p) q) refl slot fits has
  where
    by : (has_id id (lookup (is_at (place_cmp p)) es) ≡ true → present (remove_entry (is_at (place_cmp p)) es) ≡ without id (present es)) → (b : Bool) → is_at (place_cmp p) q ≡ b → (slot : Option StoredSegment) → Fits found turn (q, slot) × AllFit found turn es → has_id id (cond b (Some slot) (lookup (is_at (place_cmp p)) es)) ≡ true → present (cond b es ((q, slot) ∷ remove_entry (is_at (place_cmp p)) es)) ≡ without id (somes (slot ∷ values_of es))
    by again true at None fits has = absurd (cc has)
    by again true at (Some s) fits has = rw has (sym (without_absent id (present es) (none_above found turn id p es fits.1 known (subst (λ (x : ℤ × ℕ). Above x es) (sym (same_place p q at)) (sorted_head place_cmp q (keys_of es) sorted)))))
    by again false at None fits has = again has
    by again false at (Some s) fits has =
        rw (ne_eqb s.id id (λ is. other_place p q at (some_same p q (found id) known (ap found (sym is) ∙ fits.0.2))))
        (ap (λ (xs : List StoredSegment). s ∷ xs) (again has))

-- with no segment
pub vacated : (test : ℤ × ℕ → Bool) (es : List ((ℤ × ℕ) × Option StoredSegment)) → lookup test es ≡ Some None → present (remove_entry test es) ≡ present es
vacated test [] vacant = refl
vacated test ((q, slot) ∷ es) vacant = by (λ none. vacated test es none) (test q) slot vacant
  where
    by : (lookup test es ≡ Some None → present (remove_entry test es) ≡ present es) → (b : Bool) (slot : Option StoredSegment) → cond b (Some slot) (lookup test es) ≡ Some None → present (cond b es ((q, slot) ∷ remove_entry test es)) ≡ somes (slot ∷ values_of es)
    by again true None vacant = refl
    by again true (Some s) vacant = absurd (cc vacant)
    by again false None vacant = again vacant
    by again false (Some s) vacant = ap (λ (xs : List StoredSegment). s ∷ xs) (again vacant)

pub fits_removed : (found : ℕ → Option (ℤ × ℕ)) (turn : ℕ) (test : ℤ × ℕ → Bool) (es : List ((ℤ × ℕ) × Option StoredSegment)) → AllFit found turn es → AllFit found turn (remove_entry test es)
fits_removed found turn test [] fits = tt
fits_removed found turn test (e ∷ es) fits = by (fits_removed found turn test es fits.1) (test e.0)
  where
    by : AllFit found turn (remove_entry test es) → (b : Bool) → AllFit found turn (cond b es (e ∷ remove_entry test es))
    by again true = fits.1
    by again false = (fits.0, again)

-- ---- a slot that is put

pub fits_inserted : (found : ℕ → Option (ℤ × ℕ)) (turn : ℕ) (p : ℤ × ℕ) (slot : Option StoredSegment) (es : List ((ℤ × ℕ) × Option StoredSegment)) → Fits found turn (p, slot) → AllFit found turn es → AllFit found turn (insert_entry place_cmp es p slot)
fits_inserted found turn p slot [] fit fits = (fit, tt)
fits_inserted found turn p slot (e ∷ es) fit fits = by (fits_inserted found turn p slot es fit fits.1) (place_cmp p e.0) refl
  where
    by : AllFit found turn (insert_entry place_cmp es p slot) → (o : Ordering) → place_cmp p e.0 ≡ o → AllFit found turn (match_ordering o ((p, slot) ∷ e ∷ es) ((e.0, slot) ∷ es) (e ∷ insert_entry place_cmp es p slot))
    by again Less is = (fit, fits)
    by again Equal is = (subst (λ (x : ℤ × ℕ). Fits found turn (x, slot)) (place_exact p e.0 is) fit, fits.1)
    by again Greater is = (fits.0, again)

-- with no segment, where there was none
pub made : (p : ℤ × ℕ) (es : List ((ℤ × ℕ) × Option StoredSegment)) → lookup (is_at (place_cmp p)) es ≡ None → present (insert_entry place_cmp es p None) ≡ present es
made p [] none = refl
made p ((q, slot) ∷ es) none = by (λ no. made p es no) (place_cmp p q) slot none
  where
    by : (lookup (is_at (place_cmp p)) es ≡ None → present (insert_entry place_cmp es p None) ≡ present es) → (o : Ordering) (slot : Option StoredSegment) → cond (is_eq o) (Some slot) (lookup (is_at (place_cmp p)) es) ≡ None → present (match_ordering o ((p, None) ∷ (q, slot) ∷ es) ((q, None) ∷ es) ((q, slot) ∷ insert_entry place_cmp es p None)) ≡ somes (slot ∷ values_of es)
    by again Less slot none = refl
    by again Equal slot none = absurd (cc none)
    by again Greater None none = again none
    by again Greater (Some s) none = ap (λ (xs : List StoredSegment). s ∷ xs) (again none)

-- ---- tables of ids that change

pub fits_known : (found other : ℕ → Option (ℤ × ℕ)) (turn next id : ℕ) (es : List ((ℤ × ℕ) × Option StoredSegment)) → turn ≤ next → ((i : ℕ) → i ≢ id → other i ≡ found i) → HasNone id (present es) → AllFit found turn es → AllFit other next es
fits_known found other turn next id [] later same none fits = tt
fits_known found other turn next id ((p, None) ∷ es) later same none fits = (tt, fits_known found other turn next id es later same none fits.1)
fits_known found other turn next id ((p, Some s) ∷ es) later same none fits = (
  (fits.0.0, omega (arith, fits.0.1, later), same s.id none.0 ∙ fits.0.2),
  fits_known found other turn next id es later same none.1 fits.1,
)

-- ---- turns

-- A segment that is found at its place was put before this turn.
pub put_before : (found : ℕ → Option (ℤ × ℕ)) (turn id : ℕ) (p : ℤ × ℕ) (es : List ((ℤ × ℕ) × Option StoredSegment)) → AllFit found turn es → has_id id (lookup (is_at (place_cmp p)) es) ≡ true → p.1 < turn
put_before found turn id p [] fits has = absurd (cc has)
put_before found turn id p ((q, slot) ∷ es) fits has = by (λ yes. put_before found turn id p es fits.1 yes) (is_at (place_cmp p) q) refl slot fits has
  where
    by : (has_id id (lookup (is_at (place_cmp p)) es) ≡ true → p.1 < turn) → (b : Bool) → is_at (place_cmp p) q ≡ b → (slot : Option StoredSegment) → Fits found turn (q, slot) × AllFit found turn es → has_id id (cond b (Some slot) (lookup (is_at (place_cmp p)) es)) ≡ true → p.1 < turn
    by again true at None fits has = absurd (cc has)
    by again true at (Some s) fits has = subst (λ (x : ℤ × ℕ). x.1 < turn) (sym (same_place p q at)) fits.0.1
    by again false at slot fits has = again has

-- Where the slot at one place is taken away, those at later turns stay.
pub later_stay : (p q : ℤ × ℕ) (turn : ℕ) (old new : Option (Option StoredSegment)) → p.1 < turn → turn ≤ q.1 → new ≡ cond (is_at (place_cmp p) q) None old → is_some old ≡ true → is_some new ≡ true
later_stay p q turn old new before later is there = by (is_at (place_cmp p) q) refl is
  where
    by : (b : Bool) → is_at (place_cmp p) q ≡ b → new ≡ cond b None old → is_some new ≡ true
    by true at is = absurd (other p q turn before later (same_place p q at))
      where
        other : (p q : ℤ × ℕ) (turn : ℕ) → p.1 < turn → turn ≤ q.1 → p ≡ q → ⊥
        other p q turn before later same = let e : p.1 ≡ q.1 = ap (λ (x : ℤ × ℕ). x.1) same in omega (arith, before, later, e)
    by false at is = rw is there

-- ---- a segment that is put

lt_of : (x y : ℤ) → int_cmp x y ≡ Less → int_lt x y ≡ true
lt_of x y = by (int_lt x y) (int_lt y x)
  where
    by : (b e : Bool) → cond b Less (cond e Greater Equal) ≡ Less → b ≡ true
    by true e is = refl
    by false true is = absurd (cc is)
    by false false is = absurd (cc is)

not_lt_of : (x y : ℤ) (o : Ordering) → int_cmp x y ≡ o → (o ≡ Less → ⊥) → int_lt x y ≡ false
not_lt_of x y = by (int_lt x y) (int_lt y x)
  where
    by : (b e : Bool) (o : Ordering) → cond b Less (cond e Greater Equal) ≡ o → (o ≡ Less → ⊥) → b ≡ false
    by true e o is apart = absurd (apart (sym is))
    by false e o is apart = refl

nat_less : (x y : ℕ) → nat_cmp x y ≡ Less → x < y
nat_less x y is = ltb-true x y (by (ltb x y) (eqb x y) is)
  where
    by : (b e : Bool) → cond b Less (cond e Equal Greater) ≡ Less → b ≡ true
    by true e is = refl
    by false true is = absurd (cc is)
    by false false is = absurd (cc is)

-- A place behind one of a later turn has a greater low end.
lower : (p q : ℤ × ℕ) → place_cmp p q ≡ Less → q.1 < p.1 → int_lt p.0 q.0 ≡ true
lower p q = by (int_cmp p.0 q.0) refl
  where
    by : (o : Ordering) → int_cmp p.0 q.0 ≡ o → ordering_then o (nat_cmp p.1 q.1) ≡ Less → q.1 < p.1 → int_lt p.0 q.0 ≡ true
    by Less is less before = lt_of p.0 q.0 is
    by Equal is less before = absurd (never (nat_less p.1 q.1 less) before)
      where
        never : {x y : ℕ} → x < y → y < x → ⊥
        never a b = omega (arith, a, b)
    by Greater is less before = absurd (cc less)

not_lower : (p q : ℤ × ℕ) → place_cmp p q ≡ Greater → int_lt p.0 q.0 ≡ false
not_lower p q = by (int_cmp p.0 q.0) refl
  where
    by : (o : Ordering) → int_cmp p.0 q.0 ≡ o → ordering_then o (nat_cmp p.1 q.1) ≡ Greater → int_lt p.0 q.0 ≡ false
    by Less is more = absurd (cc more)
    by Equal is more = not_lt_of p.0 q.0 Equal is (λ e. absurd (cc e))
    by Greater is more = not_lt_of p.0 q.0 Greater is (λ e. absurd (cc e))

pub above_above : (p q : ℤ × ℕ) (es : List ((ℤ × ℕ) × Option StoredSegment)) → place_cmp p q ≡ Less → Above q es → Above p es
above_above p q [] less above = tt
above_above p q (e ∷ es) less above = (place_total.trans p q e.0 less above.0, above_above p q es less above.1)

-- before all that stand behind its place
front : (found : ℕ → Option (ℤ × ℕ)) (turn : ℕ) (p : ℤ × ℕ) (s : StoredSegment) (es : List ((ℤ × ℕ) × Option StoredSegment)) → AllFit found turn es → Above p es → s.range.low ≡ p.0 → p.1 ≡ turn → placed s (present es) ≡ s ∷ present es
front found turn p s [] fits above low at = refl
front found turn p s ((q, None) ∷ es) fits above low at = front found turn p s es fits.1 above.1 low at
front found turn p s ((q, Some other) ∷ es) fits above low at = rw (low, fits.0.0, lower p q above.0 (omega (arith, fits.0.1, at))) refl

pub put_in : (found : ℕ → Option (ℤ × ℕ)) (turn : ℕ) (p : ℤ × ℕ) (s : StoredSegment) (es : List ((ℤ × ℕ) × Option StoredSegment)) → Sorted es → AllFit found turn es → s.range.low ≡ p.0 → p.1 ≡ turn → present (insert_entry place_cmp es p (Some s)) ≡ placed s (present es)
put_in found turn p s [] sorted fits low at = refl
put_in found turn p s ((q, slot) ∷ es) sorted fits low at = by (put_in found turn p s es (sorted_tail place_cmp q (keys_of es) sorted) fits.1 low at) (place_cmp p q) refl slot fits
  where
    by : present (insert_entry place_cmp es p (Some s)) ≡ placed s (present es) → (o : Ordering) → place_cmp p q ≡ o → (slot : Option StoredSegment) → Fits found turn (q, slot) × AllFit found turn es → present (match_ordering o ((p, Some s) ∷ (q, slot) ∷ es) ((q, Some s) ∷ es) ((q, slot) ∷ insert_entry place_cmp es p (Some s))) ≡ placed s (somes (slot ∷ values_of es))
    by again Less is slot fits = sym (front found turn p s ((q, slot) ∷ es) fits (is, above_above p q es is (sorted_head place_cmp q (keys_of es) sorted)) low at)
    by again Equal is None fits = sym (front found turn p s es fits.1 (subst (λ (x : ℤ × ℕ). Above x es) (sym (place_exact p q is)) (sorted_head place_cmp q (keys_of es) sorted)) low at)
    by again Equal is (Some other) fits = let e : p.1 ≡ q.1 = ap (λ (x : ℤ × ℕ). x.1) (place_exact p q is) in let b = fits.0.1 in absurd (omega (arith, e, b, at))
    by again Greater is None fits = again
    by again Greater is (Some other) fits =
        let past : int_lt s.range.low other.range.low ≡ false = ap (λ x. int_lt x other.range.low) low ∙ ap (int_lt p.0) fits.0.0 ∙ not_lower p q is in
        rw past (ap (λ (xs : List StoredSegment). other ∷ xs) again)

-- ---- one id

pub own_id : (id : ℕ) (a b : Option (ℤ × ℕ)) → cond (is_at (nat_cmp id) id) a b ≡ a
own_id id a b = ap (λ t. cond (is_eq t) a b) (tied_itself nat_cmp_total id)

pub is_none : {X : Type 0} (o : Option X) → is_some o ≡ false → o ≡ None
is_none None lacks = refl
is_none (Some x) lacks = absurd (cc lacks)

-- ---- where there may be no memory

pub made_or : (r : Result (Unit {0}) AllocError) (p : ℤ × ℕ) (es new : List ((ℤ × ℕ) × Option StoredSegment)) → lookup (is_at (place_cmp p)) es ≡ None → OnOk r (new ≡ insert_entry place_cmp es p None) → OnErr r (new ≡ es) → present new ≡ present es
made_or (Ok x) p es new none ok err = ap present ok ∙ made p es none
made_or (Err e) p es new none ok err = ap present err

pub fits_made_or : (r : Result (Unit {0}) AllocError) (found : ℕ → Option (ℤ × ℕ)) (turn : ℕ) (p : ℤ × ℕ) (es new : List ((ℤ × ℕ) × Option StoredSegment)) → OnOk r (new ≡ insert_entry place_cmp es p None) → OnErr r (new ≡ es) → AllFit found turn es → AllFit found turn new
fits_made_or (Ok x) found turn p es new ok err fits = rw ok (fits_inserted found turn p None es tt fits)
fits_made_or (Err e) found turn p es new ok err fits = rw err fits
