-- Segments with the same trails are good together.
use Rattle.std.proofs.Common.{◌≡◌, ◌∙◌, inl, inr, refl, sym, ap, subst, ℕ, ℤ, Bool, true, false, true≢false, cond, ◌&&◌, int_le, int_lt, List, [], ◌∷◌, Option, Some, None, arith}
use Rattle.std.proofs.lemmas.Int.{ints}
use Rattle.flash_types.specs.Ranges.{holds, is_below}
use Rattle.flash_types.specs.declared.range.HandleRange.{HandleRange}
use Rattle.committed_log.specs.Log.{Log}
use Rattle.good_replica.specs.Front.{front}
use Rattle.good_replica.specs.Good.{AreGood, CoversFrom, EachGood, IsGoodOn, IsGoodSegment, least_handle}
use Rattle.good_replica.specs.Trail.{Trail, Segment, DeltaFile, Puts, Clears, Cleared, trail, step_on}
use Rattle.prefix_laws.specs.Same.{IsSame, AreSame, HasTrail}
use Rattle.prefix_laws.specs.Clipped.{speaks}

module _ (log : Log) (A : ℕ → Bool) (m safe : ℕ) where
  pub good_same : (s t : Segment) → IsSame s t → IsGoodSegment log A m safe s → IsGoodSegment log A m safe t
  good_same s t same good h held =
      let within : holds s.range h ≡ true = ap (λ (r : HandleRange). holds r h) (sym same.range) ∙ held in
      subst (IsGoodOn log h (front log A h) m safe) (sym (same.trails h within)) (good h within)

  pub each_same : (ss ts : List Segment) → AreSame ss ts → EachGood log A m safe ss → EachGood log A m safe ts
  each_same [] [] same good = tt
  each_same [] (t ∷ ts) same good = absurd same
  each_same (s ∷ ss) [] same good = absurd same
  each_same (s ∷ ss) (t ∷ ts) same good = (good_same s t same.0 good.0, each_same ss ts same.1 good.1)

  -- each trail of the segment is one of good segments
  trail_good : (ss : List Segment) (h : ℤ) (t : Trail) → HasTrail h t ss → EachGood log A m safe ss → IsGoodOn log h (front log A h) m safe t
  trail_good [] h t has good = absurd has
  trail_good (s ∷ ss) h t (inl here) good = subst (IsGoodOn log h (front log A h) m safe) here.1 (good.0 h here.0)
  trail_good (s ∷ ss) h t (inr more) good = trail_good ss h t more good.1

  pub from_trails : (ss : List Segment) (t : Segment) → ((h : ℤ) → holds t.range h ≡ true → HasTrail h (trail h t) ss) → EachGood log A m safe ss → IsGoodSegment log A m safe t
  from_trails ss t has good h held = trail_good ss h (trail h t) (has h held) good

covers_same : (low : ℤ) (ss ts : List Segment) → AreSame ss ts → CoversFrom low ss → CoversFrom low ts
covers_same low [] [] same c = c
covers_same low [] (t ∷ ts) same c = absurd same
covers_same low (s ∷ ss) [] same c = absurd same
covers_same low (s ∷ []) (t ∷ []) same c = (ap (λ (r : HandleRange). r.low) same.0.range ∙ c.0, ap (λ (r : HandleRange). r.high) same.0.range ∙ c.1)
covers_same low (s ∷ []) (t ∷ u ∷ ts) same c = absurd same.1
covers_same low (s ∷ x ∷ ss) (t ∷ []) same c = absurd same.1
covers_same low (s ∷ x ∷ ss) (t ∷ u ∷ ts) same c = (
  ap (λ (r : HandleRange). r.low) same.0.range ∙ c.0,
  ap (λ (r : HandleRange). r.high) same.0.range ∙ c.1 ∙ ap (λ (r : HandleRange). Some r.low) (sym same.1.0.range),
  ap (λ (r : HandleRange). is_below r.low r.high) same.0.range ∙ c.2,
  subst (λ z. CoversFrom z (u ∷ ts)) (sym (ap (λ (r : HandleRange). r.low) same.1.0.range)) (covers_same x.range.low (x ∷ ss) (u ∷ ts) same.1 c.3),
)

pub all_same : (log : Log) (A : ℕ → Bool) (m safe : ℕ) (ss ts : List Segment) → AreSame ss ts → AreGood log A m safe ss → AreGood log A m safe ts
all_same log A m safe ss ts same good = record {
  cover = covers_same least_handle ss ts same good.cover;
  mark = good.mark;
  handles = each_same log A m safe ss ts same good.handles;
}

-- the other way round
turned_one : (s t : Segment) → IsSame s t → IsSame t s
turned_one s t same = record {
  range = sym same.range;
  trails = λ h held. sym (same.trails h (ap (λ (r : HandleRange). holds r h) (sym same.range) ∙ held));
}

pub turned : (ss ts : List Segment) → AreSame ss ts → AreSame ts ss
turned [] [] same = tt
turned [] (t ∷ ts) same = absurd same
turned (s ∷ ss) [] same = absurd same
turned (s ∷ ss) (t ∷ ts) same = (turned_one s t same.0, turned ss ts same.1)

-- ---- files that say nothing

both_true : (a b : Bool) → (a && b) ≡ true → (a ≡ true) × (b ≡ true)
both_true true b e = (refl, e)
both_true false b e = absurd (true≢false (sym e))

between : (l h e : ℤ) → int_le l h ≡ true → int_lt h e ≡ true → int_lt l e ≡ true
between l h e a b = grind (arith, ints)

filled : (l h : ℤ) (high : Option ℤ) → int_le l h ≡ true → is_below h high ≡ true → is_below l high ≡ true
filled l h None a b = refl
filled l h (Some e) a b = between l h e a b

holds_none : (range : HandleRange) (h : ℤ) → is_below range.low range.high ≡ false → holds range h ≡ false
holds_none range h out = by (holds range h) refl
  where
    by : (b : Bool) → holds range h ≡ b → holds range h ≡ false
    by false e = e
    by true e = (let both = both_true (int_le range.low h) (is_below h range.high) e in absurd (true≢false (sym (filled range.low h range.high both.0 both.1) ∙ out)))

pub silent : (h : ℤ) (f : DeltaFile) → speaks f ≡ false → step_on h f ≡ None
silent h (Puts []) e = refl
silent h (Puts (v ∷ vs)) e = absurd (true≢false e)
silent h (Clears range) e = ap (λ b. cond b (Some Cleared) None) (holds_none range h e)
