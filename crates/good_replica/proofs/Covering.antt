-- Segments go on to cover the handles as some give way to others; and files that were clipped to a range say nothing of other handles.
use Rattle.std.proofs.Common.{◌≡◌, ◌∙◌, refl, sym, ap, subst, ℤ, Bool, true, false, true≢false, cond, List, [], ◌∷◌, ◌++◌, Option, Some, None, map, filter, int_le, int_lt, arith}
use Rattle.std.proofs.lemmas.Int.{ints}
use Rattle.std.specs.Ordering.{int_eq}
use Rattle.column_block.specs.declared.cell.Version.{Version}
use Rattle.flash_types.specs.Ranges.{holds, is_below}
use Rattle.flash_types.specs.declared.range.HandleRange.{HandleRange}
use Rattle.committed_log.proofs.Faults.{both_true}
use Rattle.good_replica.specs.Changed.{SaysNothing}
use Rattle.good_replica.specs.Effect.{common, lower_end, clipped}
use Rattle.good_replica.specs.Good.{CoversFrom}
use Rattle.good_replica.specs.Trail.{Segment, DeltaFile, Puts, Clears, Cleared, versions_on, wrote_unless_empty}
use Rattle.good_replica.proofs.Facts.{and_true, int_same}

-- ---- one segment gives way to one with its range

pub covers_changed : (low : ℤ) (before : List Segment) (s t : Segment) (after : List Segment) → t.range ≡ s.range → CoversFrom low (before ++ (s ∷ after)) → CoversFrom low (before ++ (t ∷ after))
covers_changed low [] s t [] same c = (ap (λ (r : HandleRange). r.low) same ∙ c.0, ap (λ (r : HandleRange). r.high) same ∙ c.1)
covers_changed low [] s t (a ∷ after) same c = (ap (λ (r : HandleRange). r.low) same ∙ c.0, ap (λ (r : HandleRange). r.high) same ∙ c.1, ap (λ (r : HandleRange). is_below r.low r.high) same ∙ c.2, c.3)
covers_changed low (b ∷ []) s t after same c = (c.0, c.1 ∙ ap (λ (r : HandleRange). Some r.low) (sym same), c.2, subst (λ z. CoversFrom z (t ∷ after)) (sym (ap (λ (r : HandleRange). r.low) same)) (covers_changed s.range.low [] s t after same c.3))
covers_changed low (b ∷ d ∷ before) s t after same c = (c.0, c.1, c.2, covers_changed d.range.low (d ∷ before) s t after same c.3)

-- ---- a split

module _ (s lower upper : Segment) (begins : lower.range.low ≡ s.range.low) (meets : lower.range.high ≡ Some upper.range.low) (ends : upper.range.high ≡ s.range.high)
    (below : is_below lower.range.low lower.range.high ≡ true) (above : is_below upper.range.low upper.range.high ≡ true) where
  pub covers_split : (low : ℤ) (before after : List Segment) → CoversFrom low (before ++ (s ∷ after)) → CoversFrom low (before ++ (lower ∷ upper ∷ after))
  covers_split low [] [] c = (begins ∙ c.0, meets, below, (refl, ends ∙ c.1))
  covers_split low [] (a ∷ after) c = (begins ∙ c.0, meets, below, (refl, ends ∙ c.1, above, c.3))
  covers_split low (b ∷ []) after c = (c.0, c.1 ∙ ap (λ z. Some z) (sym begins), c.2, subst (λ z. CoversFrom z (lower ∷ upper ∷ after)) (sym begins) (covers_split s.range.low [] after c.3))
  covers_split low (b ∷ d ∷ before) after c = (c.0, c.1, c.2, covers_split d.range.low (d ∷ before) after c.3)

-- ---- a merge

module _ (left right one : Segment) (begins : one.range.low ≡ left.range.low) (ends : one.range.high ≡ right.range.high) where
  wider : (a b : ℤ) (high : Option ℤ) → is_below a (Some b) ≡ true → is_below b high ≡ true → is_below a high ≡ true
  wider a b None e f = refl
  wider a b (Some h) e f = less a b h e f
    where
      less : (a b h : ℤ) → int_lt a b ≡ true → int_lt b h ≡ true → int_lt a h ≡ true
      less a b h e f = grind (arith, ints)

  pub covers_merged : (low : ℤ) (before after : List Segment) → CoversFrom low (before ++ (left ∷ right ∷ after)) → CoversFrom low (before ++ (one ∷ after))
  covers_merged low [] [] c = (begins ∙ c.0, ends ∙ c.3.1)
  covers_merged low [] (a ∷ after) c = (
    begins ∙ c.0,
    ends ∙ c.3.1,
    (λ i. is_below (begins i) (ends i)) ∙ wider left.range.low right.range.low right.range.high (ap (is_below left.range.low) (sym c.1) ∙ c.2) c.3.2,
    c.3.3,
  )
  covers_merged low (b ∷ []) after c = (c.0, c.1 ∙ ap (λ z. Some z) (sym begins), c.2, subst (λ z. CoversFrom z (one ∷ after)) (sym begins) (covers_merged left.range.low [] after c.3))
  covers_merged low (b ∷ d ∷ before) after c = (c.0, c.1, c.2, covers_merged d.range.low (d ∷ before) after c.3)

-- ---- clipped files

low_under : (x y h : ℤ) → int_le (cond (int_le x y) y x) h ≡ true → int_le x h ≡ true
low_under x y h e = by (int_le x y) refl e
  where
    up : int_le x y ≡ true → int_le y h ≡ true → int_le x h ≡ true
    up a b = grind (arith, ints)

    by : (b : Bool) → int_le x y ≡ b → int_le (cond b y x) h ≡ true → int_le x h ≡ true
    by true a e = up a e
    by false a e = e

high_over : (x y : Option ℤ) (h : ℤ) → is_below h (lower_end x y) ≡ true → is_below h x ≡ true
high_over None y h e = refl
high_over (Some x) None h e = e
high_over (Some x) (Some y) h e = by (int_le x y) refl e
  where
    up : int_le x y ≡ false → int_lt h y ≡ true → int_lt h x ≡ true
    up a b = grind (arith, ints)

    by : (b : Bool) → int_le x y ≡ b → int_lt h (cond b x y) ≡ true → int_lt h x ≡ true
    by true a e = e
    by false a e = up a e

out_of_common : (a b : HandleRange) (h : ℤ) → holds a h ≡ false → holds (common a b) h ≡ false
out_of_common a b h out = by (holds (common a b) h) refl
  where
    by : (t : Bool) → holds (common a b) h ≡ t → holds (common a b) h ≡ false
    by false is = is
    by true is =
        let both = both_true (int_le (common a b).low h) (is_below h (common a b).high) is in
        absurd (true≢false (sym (and_true (int_le a.low h) (is_below h a.high) (low_under a.low b.low h both.0) (high_over a.high b.high h both.1)) ∙ out))

none_clipped : (range : HandleRange) (h : ℤ) → holds range h ≡ false → (vs : List Version) → versions_on h (filter (λ (v : Version). holds range v.handle) vs) ≡ []
none_clipped range h out [] = refl
none_clipped range h out (v ∷ vs) = by (holds range v.handle) refl (int_eq v.handle h) refl (none_clipped range h out vs)
  where
    by : (a : Bool) → holds range v.handle ≡ a → (b : Bool) → int_eq v.handle h ≡ b → versions_on h (filter (λ (v : Version). holds range v.handle) vs) ≡ [] → versions_on h (cond a (v ∷ filter (λ (v : Version). holds range v.handle) vs) (filter (λ (v : Version). holds range v.handle) vs)) ≡ []
    by false i b j rest = rest
    by true i true j rest = absurd (true≢false (sym i ∙ ap (holds range) (int_same v.handle h j) ∙ out))
    by true i false j rest = (λ k. cond (j k) (v ∷ rest k) (rest k))

-- files clipped to a range say nothing of a handle outside of it
pub clipped_silent : (range : HandleRange) (h : ℤ) → holds range h ≡ false → (fs : List DeltaFile) → SaysNothing h (map (clipped range) fs)
clipped_silent range h out [] = tt
clipped_silent range h out (Puts vs ∷ fs) = (ap wrote_unless_empty (none_clipped range h out vs), clipped_silent range h out fs)
clipped_silent range h out (Clears other ∷ fs) = (ap (λ b. cond b (Some Cleared) None) (out_of_common range other h out), clipped_silent range h out fs)
