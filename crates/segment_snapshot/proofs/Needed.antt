-- Which segments a read needs, where they cover the handles.
use Rattle.std.proofs.Common.{◌≡◌, ◌∙◌, refl, sym, ap, subst, ℕ, zero, suc, ◌+◌, ◌<◌, ℤ, Bool, true, false, true≢false, cond, ◌&&◌, int_le, int_lt, nat_le, pos, negsuc, ◌-◌, ◌^◌, FitsSigned, w64, List, [], ◌∷◌, ◌++◌, Option, Some, None, filter, length, map, take, drop, get_or, arith}
use Rattle.std.specs.Prelude.{option_map, position}
use Rattle.std.specs.List.{All, AllByRecursion, list_any}
use Rattle.std.proofs.lemmas.List.Elements.{All-nil, All-push}
use Rattle.std.proofs.lemmas.Int.{ints}
use Rattle.std.proofs.lemmas.Bool.Decides.{nat_tests}
use Rattle.std.proofs.lemmas.List.{append-nil, take-append-drop, take_more}
use Rattle.std.proofs.lemmas.List.Quantifiers.{position-Some}
use Rattle.flash_types.specs.Ranges.{holds, is_below, least_handle}
use Rattle.flash_types.specs.declared.range.HandleRange.{HandleRange}
use Rattle.flash_types.specs.declared.refusal.Cut.{Cut}
use Rattle.good_replica.specs.Good.{CoversFrom}
use Rattle.delta_layer.specs.declared.view.SegmentView.{SegmentView}
use Rattle.learner_read.specs.Pieces.{meets}
use Rattle.segment_list.specs.Lists.{range_alone}
use Rattle.segment_list.specs.Slots.{Slotted, view_of}
use Rattle.segment_list.proofs.Places.{found_behind, found_here}
use Rattle.segment_snapshot.specs.Views.{AreNeeded, HasOpenFile, needed_views, needs_slot}

out_first : (a b c : Bool) → a ≡ false → ((a && b) && c) ≡ false
out_first true b c e = absurd (true≢false e)
out_first false b c e = refl

out_second : (a b c : Bool) → b ≡ false → ((a && b) && c) ≡ false
out_second true true c e = absurd (true≢false e)
out_second true false c e = refl
out_second false b c e = refl

both : (a b : Bool) → a ≡ true → b ≡ true → (a && b) ≡ true
both true b e f = f
both false b e f = absurd (true≢false (sym e))

second_out : (a b : Bool) → b ≡ false → (a && b) ≡ false
second_out true b e = e
second_out false b e = refl

not_less : (a b : ℤ) → int_lt a b ≡ false → int_le b a ≡ true
not_less a b e = grind (arith, ints)

-- what isn't below an end isn't so further up
later : (a b : ℤ) (high : Option ℤ) → int_lt a b ≡ true → is_below a high ≡ false → is_below b high ≡ false
later a b None less out = out
later a b (Some high) less out = further a b high less out
  where
    further : (a b high : ℤ) → int_lt a b ≡ true → int_lt a high ≡ false → int_lt b high ≡ false
    further a b high less out = grind (arith, ints)

one_less : (o : Option ℕ) (p : ℕ) → option_map suc o ≡ Some (suc p) → o ≡ Some p
one_less None p e = cc e
one_less (Some q) p e = cc e

-- a number of 64 bits with a sign is a handle
pub is_handle : (h : ℤ) → FitsSigned w64 h → int_le least_handle h ≡ true
is_handle (pos n) fits = refl
is_handle (negsuc n) fits = (let small : n < 2 ^ 63 = fits.sfits in let e : nat_le n (2 ^ 63 - 1) ≡ true = grind (arith, nat_tests) in e)

module _ {G : Type 0} (clip : HandleRange) (cuts : List Cut) where
  abbrev some_cut : Slotted G → Bool
  some_cut s = list_any (λ (cut : Cut). meets s.range cut.range) cuts

  ends_low : (s : Slotted G) → is_below clip.low s.range.high ≡ false → needs_slot clip cuts s ≡ false
  ends_low s e = out_second (is_below s.range.low clip.high) (is_below clip.low s.range.high) (some_cut s) e

  begins_high : (s : Slotted G) → is_below s.range.low clip.high ≡ false → needs_slot clip cuts s ≡ false
  begins_high s e = out_first (is_below s.range.low clip.high) (is_below clip.low s.range.high) (some_cut s) e

  abbrev views : List (Slotted G) → List (SegmentView G)
  views slots = needed_views clip cuts slots

  pub passed_over : (s : Slotted G) (slots : List (Slotted G)) → needs_slot clip cuts s ≡ false → views (s ∷ slots) ≡ views slots
  passed_over s slots e = ap (λ (b : Bool). map view_of (cond b (s ∷ filter (needs_slot clip cuts) slots) (filter (needs_slot clip cuts) slots))) e

  pub shared : (s : Slotted G) (slots : List (Slotted G)) → needs_slot clip cuts s ≡ true → views (s ∷ slots) ≡ view_of s ∷ views slots
  shared s slots e = ap (λ (b : Bool). map view_of (cond b (s ∷ filter (needs_slot clip cuts) slots) (filter (needs_slot clip cuts) slots))) e

  pub together : (first others : List (Slotted G)) → views (first ++ others) ≡ views first ++ views others
  together [] others = refl
  together (s ∷ first) others = by (needs_slot clip cuts s) refl (together first others)
    where
      by : (b : Bool) → needs_slot clip cuts s ≡ b → views (first ++ others) ≡ views first ++ views others → views (s ∷ (first ++ others)) ≡ views (s ∷ first) ++ views others
      by true e rest = shared s (first ++ others) e ∙ ap (λ vs. view_of s ∷ vs) rest ∙ sym (ap (λ vs. vs ++ views others) (shared s first e))
      by false e rest = passed_over s (first ++ others) e ∙ rest ∙ sym (ap (λ vs. vs ++ views others) (passed_over s first e))

  pub one_more : (slots : List (Slotted G)) (i : ℕ) (d : Slotted G) → i < length slots → views (take (i + 1) slots) ≡ views (take i slots) ++ views (get_or slots i d ∷ [])
  one_more slots i d less = ap views (take_more slots i d less) ∙ together (take i slots) (get_or slots i d ∷ [])

  -- what holds of each segment's view holds of the pieces
  pub each_piece : (P : SegmentView G → Type 0) (slots : List (Slotted G)) → AllByRecursion (λ (s : Slotted G). P (view_of s)) slots → AllByRecursion P (views slots)
  each_piece P [] all = tt
  each_piece P (s ∷ slots) all = by (needs_slot clip cuts s) refl (each_piece P slots all.1)
    where
      by : (b : Bool) → needs_slot clip cuts s ≡ b → AllByRecursion P (views slots) → AllByRecursion P (views (s ∷ slots))
      by true is rest = subst (AllByRecursion P) (sym (shared s slots is)) (all.0, rest)
      by false is rest = subst (AllByRecursion P) (sym (passed_over s slots is)) rest

  -- ---- before the segment that has the clip's low end

  abbrev has : Slotted G → Bool
  has s = holds s.range clip.low

  pub none_before : (low : ℤ) (slots : List (Slotted G)) (p : ℕ) → CoversFrom low (map range_alone slots) → int_le low clip.low ≡ true → position (λ (s : Slotted G). holds s.range clip.low) slots ≡ Some p → views (take p slots) ≡ []
  none_before low [] p c le at = absurd (cc at)
  none_before low (s ∷ []) zero c le at = refl
  none_before low (s ∷ []) (suc p) c le at = (let found = position-Some has (s ∷ []) (suc p) s at in absurd (omega (arith, found.0)))
  none_before low (s ∷ t ∷ more) p c le at = by (is_below clip.low s.range.high) refl p at (λ q. none_before t.range.low (t ∷ more) q c.3)
    where
      begins : int_le s.range.low clip.low ≡ true
      begins = ap (λ (x : ℤ). int_le x clip.low) c.0 ∙ le

      by : (b : Bool) → is_below clip.low s.range.high ≡ b → (p : ℕ) → position has (s ∷ t ∷ more) ≡ Some p → ((q : ℕ) → int_le t.range.low clip.low ≡ true → position has (t ∷ more) ≡ Some q → views (take q (t ∷ more)) ≡ []) → views (take p (s ∷ t ∷ more)) ≡ []
      by b e zero at rest = refl
      by true e (suc q) at rest = absurd (cc (sym at ∙ found_here has s (t ∷ more) (both (int_le s.range.low clip.low) (is_below clip.low s.range.high) begins e)))
      by false e (suc q) at rest =
          passed_over s (take q (t ∷ more)) (ends_low s e)
          ∙ rest q (not_less clip.low t.range.low (sym (ap (is_below clip.low) c.1) ∙ e)) (one_less (position has (t ∷ more)) q (sym (found_behind has s (t ∷ more) (second_out (int_le s.range.low clip.low) (is_below clip.low s.range.high) e)) ∙ at))

  -- ---- from a segment on that begins behind the clip

  none_behind : (low : ℤ) (slots : List (Slotted G)) → CoversFrom low (map range_alone slots) → is_below low clip.high ≡ false → views slots ≡ []
  none_behind low [] c out = refl
  none_behind low (s ∷ []) c out = passed_over s [] (begins_high s (ap (λ (x : ℤ). is_below x clip.high) c.0 ∙ out))
  none_behind low (s ∷ t ∷ more) c out =
      let here : is_below s.range.low clip.high ≡ false = ap (λ (x : ℤ). is_below x clip.high) c.0 ∙ out in
      passed_over s (t ∷ more) (begins_high s here) ∙ none_behind t.range.low (t ∷ more) c.3 (later s.range.low t.range.low clip.high (sym (ap (is_below s.range.low) c.1) ∙ c.2) here)

  covers_from : (low : ℤ) (slots : List (Slotted G)) (i : ℕ) (d : Slotted G) → CoversFrom low (map range_alone slots) → i < length slots → CoversFrom (get_or slots i d).range.low (map range_alone (drop i slots))
  covers_from low [] i d c less = absurd (omega (arith, less))
  covers_from low (s ∷ []) zero d c less = (refl, c.1)
  covers_from low (s ∷ []) (suc i) d c less = absurd (omega (arith, less))
  covers_from low (s ∷ t ∷ more) zero d c less = (refl, c.1, c.2, c.3)
  covers_from low (s ∷ t ∷ more) (suc i) d c less = covers_from t.range.low (t ∷ more) i d c.3 (omega (arith, less))

  pub all_before : (low : ℤ) (slots : List (Slotted G)) (i : ℕ) (d : Slotted G) → CoversFrom low (map range_alone slots) → i < length slots → is_below (get_or slots i d).range.low clip.high ≡ false → views (take i slots) ≡ views slots
  all_before low slots i d c less out =
      sym (append-nil (views (take i slots)))
      ∙ ap (λ vs. views (take i slots) ++ vs) (sym (none_behind (get_or slots i d).range.low (drop i slots) (covers_from low slots i d c less) out))
      ∙ sym (together (take i slots) (drop i slots))
      ∙ ap views (take-append-drop i slots)

  -- ---- the walk

  pub none_yet : (slots : List (Slotted G)) (first : ℕ) → views (take first slots) ≡ [] → AreNeeded clip cuts (take first slots) []
  none_yet slots first none = record { views = sym none; opened = All-nil HasOpenFile }

  pub with_next : (slots : List (Slotted G)) (i : ℕ) (s : Slotted G) (pieces new : List (SegmentView G)) → i < length slots → s ≡ get_or slots i s → HasOpenFile (view_of s) → new ≡ pieces ++ views (s ∷ []) → AreNeeded clip cuts (take i slots) pieces → AreNeeded clip cuts (take (i + 1) slots) new
  with_next slots i s pieces new less is opened more are = record {
    views = more ∙ (λ j. are.views j ++ views (is j ∷ [])) ∙ sym (one_more slots i s less);
    opened = subst (All HasOpenFile) (sym more) (by (needs_slot clip cuts s) refl);
  }
    where
      by : (b : Bool) → needs_slot clip cuts s ≡ b → All HasOpenFile (pieces ++ views (s ∷ []))
      by true e = subst (λ vs. All HasOpenFile (pieces ++ vs)) (sym (shared s [] e)) (All-push HasOpenFile pieces (view_of s) are.opened opened)
      by false e = subst (λ vs. All HasOpenFile (pieces ++ vs)) (sym (passed_over s [] e)) (subst (All HasOpenFile) (sym (append-nil pieces)) are.opened)

  pub all_needed : (slots : List (Slotted G)) (i : ℕ) (pieces : List (SegmentView G)) → views (take i slots) ≡ views slots → AreNeeded clip cuts (take i slots) pieces → AreNeeded clip cuts slots pieces
  all_needed slots i pieces same are = record { views = are.views ∙ same; opened = are.opened }
