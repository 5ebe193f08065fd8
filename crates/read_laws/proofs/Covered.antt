-- Each handle is of a segment, and one that is asked for of a segment that the read needs.
use Rattle.std.proofs.Common.{◌≡◌, ◌∙◌, refl, sym, ap, ℕ, suc, ℤ, Bool, true, false, true≢false, ◌&&◌, ◌||◌, int_le, int_lt, List, [], ◌∷◌, Option, Some, None, slice_get, arith}
use Rattle.std.proofs.lemmas.Int.{ints}
use Rattle.std.specs.List.{list_any}
use Rattle.flash_types.specs.Ranges.{holds, is_below, meets}
use Rattle.flash_types.specs.declared.range.HandleRange.{HandleRange}
use Rattle.flash_types.specs.declared.refusal.Cut.{Cut}
use Rattle.good_replica.specs.Good.{CoversFrom}
use Rattle.good_replica.specs.Trail.{Segment}
use Rattle.learner_read.specs.Pieces.{is_needed}
use Rattle.learner_read.specs.Rows.{is_asked}
use Rattle.read_laws.specs.Reads.{HasNeeded}

both_true : (a b : Bool) → (a && b) ≡ true → (a ≡ true) × (b ≡ true)
both_true true b e = (refl, e)
both_true false b e = absurd (true≢false (sym e))

and_true : (a b : Bool) → a ≡ true → b ≡ true → (a && b) ≡ true
and_true true b e f = f
and_true false b e f = absurd (true≢false (sym e))

le_same : (a b h : ℤ) → a ≡ b → int_le b h ≡ true → int_le a h ≡ true
le_same a b h e f = ap (λ x. int_le x h) e ∙ f

not_less : (h a : ℤ) → int_lt h a ≡ false → int_le a h ≡ true
not_less h a e = grind (arith, ints)

pub covered : (low : ℤ) (ss : List Segment) → CoversFrom low ss → (h : ℤ) → int_le low h ≡ true → (k : ℕ) × (s : Segment) × (slice_get ss k ≡ Some s) × (holds s.range h ≡ true)
covered low [] c h le = absurd (true≢false (sym (c)))
covered low (s ∷ []) c h le = (0, s, refl, (λ i. le_same s.range.low low h c.0 le i && is_below h (c.1 i)))
covered low (s ∷ t ∷ more) c h le = by (int_lt h t.range.low) refl (covered t.range.low (t ∷ more) c.3 h)
  where
    by : (b : Bool) → int_lt h t.range.low ≡ b → (int_le t.range.low h ≡ true → (k : ℕ) × (x : Segment) × (slice_get (t ∷ more) k ≡ Some x) × (holds x.range h ≡ true)) → (k : ℕ) × (x : Segment) × (slice_get (s ∷ t ∷ more) k ≡ Some x) × (holds x.range h ≡ true)
    by true is rest = (0, s, refl, and_true (int_le s.range.low h) (is_below h s.range.high) (le_same s.range.low low h c.0 le) (ap (is_below h) c.1 ∙ is))
    by false is rest = (let r = rest (not_less h t.range.low is) in (suc r.0, r.1, r.2, r.3))

-- ---- needed

under : (a h b : ℤ) → int_le a h ≡ true → int_lt h b ≡ true → int_lt a b ≡ true
under a h b e f = grind (arith, ints)

below : (a h : ℤ) (high : Option ℤ) → int_le a h ≡ true → is_below h high ≡ true → is_below a high ≡ true
below a h None e f = refl
below a h (Some b) e f = under a h b e f

-- ranges that have a handle in common meet
meet : (a b : HandleRange) (h : ℤ) → holds a h ≡ true → holds b h ≡ true → meets a b ≡ true
meet a b h e f =
    let x = both_true (int_le a.low h) (is_below h a.high) e in
    let y = both_true (int_le b.low h) (is_below h b.high) f in
    and_true (is_below a.low b.high) (is_below b.low a.high) (below a.low h b.high x.0 y.1) (below b.low h a.high y.0 x.1)

some_meets : (range : HandleRange) (h : ℤ) → holds range h ≡ true → (cuts : List Cut) → list_any (λ (cut : Cut). holds cut.range h) cuts ≡ true → list_any (λ (cut : Cut). meets range cut.range) cuts ≡ true
some_meets range h held [] e = e
some_meets range h held (cut ∷ cuts) e = by (holds cut.range h) refl e (some_meets range h held cuts)
  where
    or_first : (a b : Bool) → a ≡ true → (a || b) ≡ true
    or_first true b e = refl
    or_first false b e = absurd (true≢false (sym e))

    or_second : (a b : Bool) → b ≡ true → (a || b) ≡ true
    or_second true b e = refl
    or_second false b e = e

    by : (b : Bool) → holds cut.range h ≡ b → (b || list_any (λ (cut : Cut). holds cut.range h) cuts) ≡ true → (list_any (λ (cut : Cut). holds cut.range h) cuts ≡ true → list_any (λ (cut : Cut). meets range cut.range) cuts ≡ true) → (meets range cut.range || list_any (λ (cut : Cut). meets range cut.range) cuts) ≡ true
    by true is e rest = or_first (meets range cut.range) (list_any (λ (cut : Cut). meets range cut.range) cuts) (meet range cut.range h held is)
    by false is e rest = or_second (meets range cut.range) (list_any (λ (cut : Cut). meets range cut.range) cuts) (rest e)

pub needed : (clip : HandleRange) (cuts : List Cut) (range : HandleRange) (h : ℤ) → is_asked clip cuts h ≡ true → holds range h ≡ true → is_needed clip cuts range ≡ true
needed clip cuts range h asked held =
    let both = both_true (holds clip h) (list_any (λ (cut : Cut). holds cut.range h) cuts) asked in
    and_true (meets range clip) (list_any (λ (cut : Cut). meets range cut.range) cuts) (meet range clip h held both.0) (some_meets range h held cuts both.1)

le_le : (a b h : ℤ) → int_le a b ≡ true → int_le b h ≡ true → int_le a h ≡ true
le_le a b h e f = grind (arith, ints)

-- each handle that is asked for is of a segment that the read needs, where the clip begins not below the first
pub asked_is_covered : (low : ℤ) (ss : List Segment) → CoversFrom low ss → (clip : HandleRange) (cuts : List Cut) → int_le low clip.low ≡ true → (h : ℤ) → is_asked clip cuts h ≡ true →
    HasNeeded clip cuts ss h
asked_is_covered low ss c clip cuts le h asked =
    let both = both_true (holds clip h) (list_any (λ (cut : Cut). holds cut.range h) cuts) asked in
    let parts = both_true (int_le clip.low h) (is_below h clip.high) both.0 in
    let found = covered low ss c h (le_le low clip.low h le parts.0) in
    record { place = found.0; segment = found.1; here = found.2; held = found.3; needed = needed clip cuts found.1.range h asked found.3 }
