-- How files change the trails of a segment's handles.
use Rattle.std.proofs.Common.{◌≡◌, ◌∙◌, refl, sym, ap, subst, ℕ, zero, suc, ◌+◌, ℤ, Bool, true, false, true≢false, cond, ◌&&◌, ◌||◌, List, [], ◌∷◌, ◌++◌, Option, Some, None, length, drop, map, filter, arith, int_le, int_lt}
use Rattle.std.proofs.lemmas.Int.{ints}
use Rattle.std.specs.List.{cons_option}
use Rattle.std.specs.Ordering.{int_eq}
use Rattle.std.proofs.lemmas.List.{append-nil}
use Rattle.std.proofs.lemmas.List.Elements.{filter_map-append}
use Rattle.std.proofs.lemmas.List.Folds.{list_any-append}
use Rattle.std.proofs.Math.Seq.{drop-append-add}
use Rattle.flash_types.specs.Ranges.{holds, is_below}
use Rattle.flash_types.specs.declared.range.HandleRange.{HandleRange}
use Rattle.column_block.specs.declared.cell.Version.{Version}
use Rattle.good_replica.specs.Changed.{ShowsSame, SaysNothing}
use Rattle.good_replica.specs.Effect.{with_file, common, lower_end, clipped}
use Rattle.good_replica.specs.Good.{IsGoodAt}
use Rattle.good_replica.specs.Trail.{Trail, Segment, DeltaFile, Puts, Clears, Step, Cleared, Wrote, trail, steps_on, step_on, versions_on, wrote_unless_empty, after_versions, after_steps, after_step, writes, write}
use Rattle.good_replica.specs.Versions.{Versions}
use Rattle.good_replica.proofs.Kept.{repack}
use Rattle.good_replica.proofs.Apply.{pushed, present_pushed, write_pushed, reaches}
use Rattle.good_replica.proofs.Facts.{int_same}
use Rattle.std.proofs.lemmas.List.Sums.{fold-append}

-- ---- one file more
steps_one : (h : ℤ) (f : DeltaFile) (o : Option Step) → step_on h f ≡ o → steps_on h (f ∷ []) ≡ elim o [ None ↦ [] | Some s ↦ s ∷ [] ]
steps_one h f None is = ap (λ o. cons_option o []) is
steps_one h f (Some s) is = ap (λ o. cons_option o []) is

trail_with : Trail → List Step → Trail
trail_with t ss = record { stable = t.stable; steps = t.steps ++ ss }

module _ (h : ℤ) (s : Segment) (f : DeltaFile) where
  pub trail_some : (st : Step) → step_on h f ≡ Some st → trail h (with_file s f) ≡ pushed (trail h s) st
  trail_some st is = ap (λ ss. record { stable = versions_on h s.stable; steps = ss }) (filter_map-append (step_on h) s.delta (f ∷ []) ∙ ap (λ ss. steps_on h s.delta ++ ss) (steps_one h f (Some st) is))

  pub trail_none : step_on h f ≡ None → trail h (with_file s f) ≡ trail h s
  trail_none is = ap (λ ss. record { stable = versions_on h s.stable; steps = ss }) (filter_map-append (step_on h) s.delta (f ∷ []) ∙ ap (λ ss. steps_on h s.delta ++ ss) (steps_one h f None is) ∙ append-nil (steps_on h s.delta))

-- a step that writes nothing may be left out
or_false_end : (a b : Bool) → (a || (b && false)) ≡ a
or_false_end true b = refl
or_false_end false true = refl
or_false_end false false = refl

without_empty : (t : Trail) → ShowsSame (pushed t (Wrote [])) t
without_empty t = record {
  same = λ ts. sym (present_pushed t (Wrote []) ts);
  rests = λ k. (k, λ ts. sym (write_pushed ts k t.steps (Wrote []) ∙ or_false_end (write ts (drop k t.steps)) (reaches k t.steps)));
}

module _ (written : ℕ → Versions) (clears : ℕ → Bool) (n m safe : ℕ) (h : ℤ) (s : Segment) where
  -- a block, by the law for its versions of the handle
  pub absorb_puts : (versions : List Version) → IsGoodAt written clears n m safe (pushed (trail h s) (Wrote (versions_on h versions))) → IsGoodAt written clears n m safe (trail h (with_file s (Puts versions)))
  absorb_puts versions good = by (versions_on h versions) refl good
    where
      by : (vs : List Version) → versions_on h versions ≡ vs → IsGoodAt written clears n m safe (pushed (trail h s) (Wrote vs)) → IsGoodAt written clears n m safe (trail h (with_file s (Puts versions)))
      by [] is g = subst (IsGoodAt written clears n m safe) (sym (trail_none h s (Puts versions) (ap wrote_unless_empty is))) (repack written clears n m safe (pushed (trail h s) (Wrote [])) (trail h s) (without_empty (trail h s)) g)
      by (v ∷ vs) is g = subst (IsGoodAt written clears n m safe) (sym (trail_some h s (Puts versions) (Wrote (v ∷ vs)) (ap wrote_unless_empty is))) g

  -- a delete-range that holds the handle
  pub absorb_clears : (range : HandleRange) → holds range h ≡ true → IsGoodAt written clears n m safe (pushed (trail h s) Cleared) → IsGoodAt written clears n m safe (trail h (with_file s (Clears range)))
  absorb_clears range is g = subst (IsGoodAt written clears n m safe) (sym (trail_some h s (Clears range) Cleared (ap (λ b. cond b (Some Cleared) None) is))) g

-- ---- a run of steps gives way to one, or to none
abbrev pub steps_of : Option Step → List Step
steps_of None = []
steps_of (Some s) = s ∷ []

module _ (run : List Step) (one : Option Step) (writes_same : (ts : ℕ) → write ts (steps_of one) ≡ write ts run) (rest : List Step) where
  rests_of : (before : List Step) (k : ℕ) → (j : ℕ) × ((ts : ℕ) → write ts (drop k (before ++ (steps_of one ++ rest))) ≡ write ts (drop j (before ++ (run ++ rest))))
  rests_of [] zero = (0, λ ts. list_any-append (writes ts) (steps_of one) rest ∙ ap (λ b. b || write ts rest) (writes_same ts) ∙ sym (list_any-append (writes ts) run rest))
  rests_of [] (suc k) = by one
    where
      by : (o : Option Step) → (j : ℕ) × ((ts : ℕ) → write ts (drop (suc k) (steps_of o ++ rest)) ≡ write ts (drop j (run ++ rest)))
      by None = (length run + suc k, λ ts. ap (write ts) (sym (drop-append-add run rest (suc k))))
      by (Some s) = (length run + k, λ ts. ap (write ts) (sym (drop-append-add run rest k)))
  rests_of (s ∷ before) zero = (
    0,
    λ ts. ap (λ b. writes ts s || b) (list_any-append (writes ts) before (steps_of one ++ rest)
        ∙ ap (λ b. write ts before || b) (list_any-append (writes ts) (steps_of one) rest ∙ ap (λ b. b || write ts rest) (writes_same ts) ∙ sym (list_any-append (writes ts) run rest))
        ∙ sym (list_any-append (writes ts) before (run ++ rest))),
  )
  rests_of (s ∷ before) (suc k) = let r = rests_of before k in (suc r.0, r.1)

  pub run_to_one : (stable : List Version) (before : List Step) → ((ts : ℕ) (o : Option Version) → after_steps ts o (steps_of one) ≡ after_steps ts o run) → ShowsSame (record { stable = stable; steps = before ++ (run ++ rest) }) (record { stable = stable; steps = before ++ (steps_of one ++ rest) })
  run_to_one stable before same = record {
    same = λ ts.
        let o = after_steps ts (after_versions ts None stable) before in
        fold-append (after_step ts) (after_versions ts None stable) before (steps_of one ++ rest)
        ∙ fold-append (after_step ts) o (steps_of one) rest
        ∙ ap (λ x. after_steps ts x rest) (same ts o)
        ∙ sym (fold-append (after_step ts) o run rest)
        ∙ sym (fold-append (after_step ts) (after_versions ts None stable) before (run ++ rest));
    rests = rests_of before;
  }

-- ---- files of other handles, and files clipped to a range
pub steps_nothing : (h : ℤ) (fs : List DeltaFile) → SaysNothing h fs → steps_on h fs ≡ []
steps_nothing h [] e = refl
steps_nothing h (f ∷ fs) e = ap (λ o. cons_option o (steps_on h fs)) e.0 ∙ steps_nothing h fs e.1

-- the files of two segments, for a handle of the first
pub steps_left : (h : ℤ) (fs gs : List DeltaFile) → SaysNothing h gs → steps_on h (fs ++ gs) ≡ steps_on h fs
steps_left h fs gs e = filter_map-append (step_on h) fs gs ∙ ap (λ ss. steps_on h fs ++ ss) (steps_nothing h gs e) ∙ append-nil (steps_on h fs)

low_common : (x y h : ℤ) → int_le x h ≡ true → int_le (cond (int_le x y) y x) h ≡ int_le y h
low_common x y h e = by (int_le x y) refl
  where
    up : int_le x y ≡ false → int_le x h ≡ true → int_le x h ≡ int_le y h
    up a b = grind (arith, ints)

    by : (b : Bool) → int_le x y ≡ b → int_le (cond b y x) h ≡ int_le y h
    by true a = refl
    by false a = up a e

high_common : (x y : Option ℤ) (h : ℤ) → is_below h x ≡ true → is_below h (lower_end x y) ≡ is_below h y
high_common None y h e = refl
high_common (Some x) None h e = e
high_common (Some x) (Some y) h e = by (int_le x y) refl
  where
    up : int_le x y ≡ true → int_lt h x ≡ true → int_lt h x ≡ int_lt h y
    up a b = grind (arith, ints)

    by : (b : Bool) → int_le x y ≡ b → int_lt h (cond b x y) ≡ int_lt h y
    by true a = up a e
    by false a = refl

holds_common : (a b : HandleRange) (h : ℤ) → holds a h ≡ true → holds (common a b) h ≡ holds b h
holds_common a b h is = (λ i. low_common a.low b.low h parts.0 i && high_common a.high b.high h parts.1 i)
  where
    both : (x y : Bool) → (x && y) ≡ true → (x ≡ true) × (y ≡ true)
    both true y e = (refl, e)
    both false y e = absurd (true≢false (sym e))

    parts : (int_le a.low h ≡ true) × (is_below h a.high ≡ true)
    parts = both (int_le a.low h) (is_below h a.high) is

pub versions_clipped : (range : HandleRange) (h : ℤ) (vs : List Version) → holds range h ≡ true → versions_on h (filter (λ (v : Version). holds range v.handle) vs) ≡ versions_on h vs
versions_clipped range h [] is = refl
versions_clipped range h (v ∷ vs) is = by (holds range v.handle) (int_eq v.handle h) refl refl (versions_clipped range h vs is)
  where
    by : (a b : Bool) → holds range v.handle ≡ a → int_eq v.handle h ≡ b → versions_on h (filter (λ (v : Version). holds range v.handle) vs) ≡ versions_on h vs → versions_on h (cond a (v ∷ filter (λ (v : Version). holds range v.handle) vs) (filter (λ (v : Version). holds range v.handle) vs)) ≡ cond b (v ∷ versions_on h vs) (versions_on h vs)
    by true b i j rest = (λ k. cond (j k) (v ∷ rest k) (rest k))
    by false true i j rest = absurd (true≢false (sym is ∙ sym (ap (holds range) (int_same v.handle h j)) ∙ i))
    by false false i j rest = rest

pub step_clipped : (range : HandleRange) (h : ℤ) (f : DeltaFile) → holds range h ≡ true → step_on h (clipped range f) ≡ step_on h f
step_clipped range h (Puts vs) is = ap wrote_unless_empty (versions_clipped range h vs is)
step_clipped range h (Clears other) is = ap (λ b. cond b (Some Cleared) None) (holds_common range other h is)

-- clipping to a range that holds the handle leaves what is said of it
pub steps_clipped : (range : HandleRange) (h : ℤ) (fs : List DeltaFile) → holds range h ≡ true → steps_on h (map (clipped range) fs) ≡ steps_on h fs
steps_clipped range h [] is = refl
steps_clipped range h (f ∷ fs) is = (λ i. cons_option (step_clipped range h f is i) (steps_clipped range h fs is i))
