-- Slots that take the place of others.
use Rattle.std.proofs.Common.{◌≡◌, ◌≢◌, ◌∙◌, refl, sym, ap, subst, ℕ, zero, suc, ◌+◌, ◌-◌, ◌<◌, ◌≤◌, ℤ, Bool, true, false, Option, Some, None, List, [], ◌∷◌, ◌++◌, length, map, take, drop, get_or, reverse, nat_lt, arith}
use Rattle.std.specs.Prelude.{filter, slice_get}
use Rattle.std.proofs.lemmas.Bool.{false≢true}
use Rattle.std.proofs.lemmas.Bool.Decides.{nat_tests}
use Rattle.std.proofs.lemmas.List.{append_assoc, append-nil, get_or-append-add, get_or_append_left, get_or-drop, get_or-take, length-append, length-drop, length-take-le, map-append, reverse-append, reverse-reverse, take-append-drop}
use Rattle.std.proofs.lemmas.List.Elements.{filter-append}
use Rattle.column_file.specs.declared.file.ColumnFile.{ColumnFile}
use Rattle.flash_types.specs.Ranges.{has_any, least_handle}
use Rattle.flash_types.specs.declared.range.HandleRange.{HandleRange}
use Rattle.good_replica.specs.Good.{CoversFrom}
use Rattle.segment_list.specs.Lists.{AreNoted, AreSegments, HaveNoted, CoverAlike, CoverTo, NumbersDiffer, range_alone, with_slots}
use Rattle.segment_list.specs.Slots.{Slotted, clip_file, clip_files, file_speaks}
use Rattle.segment_list.proofs.Listed.{cover_from, get_same}

-- ---- lists that are moved

-- the last of some first elements is the first of the others
pub one_less : {X : Type 0} (all front : List X) (x : X) (n : ℕ) → length front ≡ n → take (suc n) all ≡ front ++ x ∷ [] → (front ≡ take n all) × (drop n all ≡ x ∷ drop (suc n) all)
one_less [] [] x n long e = absurd (cc e)
one_less [] (f ∷ fs) x n long e = absurd (cc e)
one_less {X = X} (a ∷ all) [] x zero long e = (refl, (let same : a ≡ x = cc e in ap (λ (y : X). y ∷ all) same))
one_less (a ∷ all) [] x (suc n) long e = absurd (omega (arith, long))
one_less (a ∷ all) (f ∷ fs) x zero long e = absurd (omega (arith, long))
one_less {X = X} (a ∷ all) (f ∷ fs) x (suc n) long e =
    let same : a ≡ f = cc e in
    let more : take (suc n) all ≡ fs ++ x ∷ [] = cc e in
    let rest = one_less all fs x n (omega (arith, long)) more in
    (ap (λ (y : X). y ∷ fs) (sym same) ∙ ap (λ (ys : List X). a ∷ ys) rest.0, rest.1)

pub one_moved : {X : Type 0} (to all : List X) (x : X) (n : ℕ) → drop n all ≡ x ∷ drop (suc n) all → (to ++ reverse (drop (suc n) all)) ++ x ∷ [] ≡ to ++ reverse (drop n all)
one_moved {X = X} to all x n e =
    append_assoc to (reverse (drop (suc n) all)) (x ∷ [])
    ∙ ap (λ (r : List X). to ++ r) (sym (reverse-append (x ∷ []) (drop (suc n) all)) ∙ ap reverse (sym e))

pub all_moved : {X : Type 0} (a b c : List X) → reverse ((([] ++ reverse c) ++ reverse b) ++ reverse a) ≡ a ++ (b ++ c)
all_moved {X = X} a b c =
    reverse-append (reverse c ++ reverse b) (reverse a)
    ∙ ap (λ (r : List X). r ++ reverse (reverse c ++ reverse b)) (reverse-reverse a)
    ∙ ap (λ (r : List X). a ++ r) (reverse-append (reverse c) (reverse b) ∙ ap (λ (r : List X). r ++ reverse (reverse c)) (reverse-reverse b) ∙ ap (λ (r : List X). b ++ r) (reverse-reverse c))

pub no_item : {X : Type 0} (xs : List X) → length xs ≡ 0 → xs ≡ []
no_item [] e = refl
no_item (x ∷ xs) e = absurd (omega arith)

pub take_again : {X : Type 0} (n m : ℕ) (xs : List X) → n ≤ m → take n (take m xs) ≡ take n xs
take_again zero m xs le = refl
take_again (suc n) zero xs le = absurd (omega arith)
take_again (suc n) (suc m) [] le = refl
take_again {X = X} (suc n) (suc m) (x ∷ xs) le = ap (λ (r : List X). x ∷ r) (take_again n m xs (omega arith))

none_left : {X : Type 0} (n : ℕ) → ◌≡◌ {A = List X} (drop n []) []
none_left zero = refl
none_left (suc n) = refl

pub drop_again : {X : Type 0} (n m : ℕ) (xs : List X) → drop m (drop n xs) ≡ drop (n + m) xs
drop_again {X = X} zero m xs = let same : m ≡ 0 + m = omega arith in ap (λ (k : ℕ). drop k xs) same
drop_again (suc n) m [] = none_left m ∙ sym (none_left (suc n + m))
drop_again {X = X} (suc n) m (x ∷ xs) = let same : suc (n + m) ≡ suc n + m = omega arith in drop_again n m xs ∙ ap (λ (k : ℕ). drop k (x ∷ xs)) same

pub taken_at : {X : Type 0} (n : ℕ) (xs : List X) (k : ℕ) → k < n → slice_get (take n xs) k ≡ slice_get xs k
taken_at zero xs k lt = absurd (omega (arith, lt))
taken_at (suc n) [] k lt = refl
taken_at (suc n) (x ∷ xs) zero lt = refl
taken_at (suc n) (x ∷ xs) (suc k) lt = taken_at n xs k (omega (arith, lt))

one_taken : {X : Type 0} (xs : List X) (k : ℕ) (x : X) → slice_get xs k ≡ Some x → take (suc k) xs ≡ take k xs ++ x ∷ []
one_taken [] k x e = absurd (cc e)
one_taken {X = X} (y ∷ ys) zero x e = let same : y ≡ x = cc e in ap (λ (z : X). z ∷ []) same
one_taken {X = X} (y ∷ ys) (suc k) x e = ap (λ (r : List X). y ∷ r) (one_taken ys k x e)

-- one more file, clipped
pub named_more : (range : HandleRange) (before files : List ColumnFile) (n : ℕ) (f : ColumnFile) → slice_get files n ≡ Some f → (before ++ clip_files range (take n files)) ++ filter file_speaks (clip_file range f ∷ []) ≡ before ++ clip_files range (take (suc n) files)
named_more range before files n f e =
    append_assoc before (clip_files range (take n files)) (filter file_speaks (clip_file range f ∷ []))
    ∙ ap (λ (r : List ColumnFile). before ++ r)
    (sym (filter-append file_speaks (map (clip_file range) (take n files)) (clip_file range f ∷ []))
    ∙ ap (filter file_speaks) (sym (map-append (clip_file range) (take n files) (f ∷ [])) ∙ ap (map (clip_file range)) (sym (one_taken files n f e))))

-- what stands before a place, `count` behind it, and what stands behind those
pub in_three : {X : Type 0} (place count : ℕ) (xs : List X) → take place xs ++ (take count (drop place xs) ++ drop (place + count) xs) ≡ xs
in_three {X = X} place count xs =
    ap (λ (r : List X). take place xs ++ (take count (drop place xs) ++ r)) (sym (drop_again place count xs))
    ∙ ap (λ (r : List X). take place xs ++ r) (take-append-drop count (drop place xs))
    ∙ take-append-drop place xs

module _ {G : Type 0} where
  -- ---- the handles

  relow : (high : Option ℤ) (low m : ℤ) (t : Slotted G) (more : List (Slotted G)) → CoverTo high m (t ∷ more) → low ≡ m → CoverTo high low (t ∷ more)
  relow high low m t [] c e = (c.0 ∙ sym e, c.1, c.2)
  relow high low m t (u ∷ more) c e = (c.0 ∙ sym e, c.1, c.2, c.3)

  begins : (high : Option ℤ) (low : ℤ) (t : Slotted G) (more : List (Slotted G)) → CoverTo high low (t ∷ more) → t.range.low ≡ low
  begins high low t [] c = c.0
  begins high low t (u ∷ more) c = c.0

  -- two parts meet somewhere
  meet : (high : Option ℤ) (low : ℤ) (s : Slotted G) (xs : List (Slotted G)) (t : Slotted G) (ys : List (Slotted G)) → CoverTo high low ((s ∷ xs) ++ t ∷ ys) → CoverTo (Some t.range.low) low (s ∷ xs) × CoverTo high t.range.low (t ∷ ys)
  meet high low s [] t ys c = ((c.0, c.1, c.2), c.3)
  meet high low s (u ∷ xs) t ys c = (let rest = meet high u.range.low u xs t ys c.3 in ((c.0, c.1, c.2, rest.0), rest.1))

  join : (high : Option ℤ) (low m : ℤ) (xs : List (Slotted G)) (t : Slotted G) (ys : List (Slotted G)) → CoverTo (Some m) low xs → CoverTo high m (t ∷ ys) → CoverTo high low (xs ++ t ∷ ys)
  join high low m [] t ys a b = absurd (false≢true a)
  join high low m (s ∷ []) t ys a b = (a.0, a.1 ∙ ap (λ (z : ℤ). Some z) (sym (begins high m t ys b)), a.2, relow high t.range.low m t ys b (begins high m t ys b))
  join high low m (s ∷ u ∷ xs) t ys a b = (a.0, a.1, a.2, join high u.range.low m (u ∷ xs) t ys a.3 b)

  -- others stand in the place of the first ones
  others_first : (high : Option ℤ) (low : ℤ) (o : Slotted G) (olds news ys : List (Slotted G)) → CoverAlike (o ∷ olds) news → CoverTo high low ((o ∷ olds) ++ ys) → CoverTo high low (news ++ ys)
  others_first high low o olds news [] alike c =
      subst (CoverTo high low) (sym (append-nil news)) (alike (record { low = low; high = high }) (subst (CoverTo high low) (append-nil (o ∷ olds)) c))
  others_first high low o olds news (t ∷ ys) alike c =
      let both = meet high low o olds t ys c in
      join high low t.range.low news t ys (alike (record { low = low; high = Some t.range.low }) both.0) both.1

  -- others stand in the place of some
  others_between : (high : Option ℤ) (low : ℤ) (xs : List (Slotted G)) (o : Slotted G) (olds news ys : List (Slotted G)) → CoverAlike (o ∷ olds) news → CoverTo high low (xs ++ ((o ∷ olds) ++ ys)) → CoverTo high low (xs ++ (news ++ ys))
  others_between high low [] o olds news ys alike c = others_first high low o olds news ys alike c
  others_between high low (s ∷ []) o olds news ys alike c = linked high low s (news ++ ys) c.0 c.1 c.2 (others_first high o.range.low o olds news ys alike c.3)
    where
      linked : (high : Option ℤ) (low : ℤ) (s : Slotted G) (zs : List (Slotted G)) → s.range.low ≡ low → s.range.high ≡ Some o.range.low → has_any s.range ≡ true → CoverTo high o.range.low zs → CoverTo high low (s ∷ zs)
      linked high low s [] a b d e = absurd (false≢true e)
      linked high low s (z ∷ zs) a b d e = (a, b ∙ ap (λ (w : ℤ). Some w) (sym (begins high o.range.low z zs e)), d, relow high z.range.low o.range.low z zs e (begins high o.range.low z zs e))
  others_between high low (s ∷ u ∷ xs) o olds news ys alike c = (c.0, c.1, c.2, others_between high u.range.low (u ∷ xs) o olds news ys alike c.3)

  cover_back : (low : ℤ) (slots : List (Slotted G)) → CoverTo None low slots → CoversFrom low (map range_alone slots)
  cover_back low [] c = c
  cover_back low (s ∷ []) c = (c.0, c.1)
  cover_back low (s ∷ t ∷ more) c = (c.0, c.1, c.2, cover_back t.range.low (t ∷ more) c.3)

  pub still_cover : (place count : ℕ) (news slots : List (Slotted G)) → 0 < count → place + count ≤ length slots → CoverAlike (take count (drop place slots)) news → CoversFrom least_handle (map range_alone slots) → CoversFrom least_handle (map range_alone (with_slots place count news slots))
  still_cover place count news slots some within alike c =
      let long : length (take count (drop place slots)) ≡ count = length-take-le count (drop place slots) (omega (arith, within, length-drop place slots)) in
      by (take count (drop place slots)) refl (omega (arith, long, some))
    where
      by : (olds : List (Slotted G)) → take count (drop place slots) ≡ olds → 0 < length olds → CoversFrom least_handle (map range_alone (with_slots place count news slots))
      by [] e lt = absurd (omega (arith, lt))
      by (o ∷ olds) e lt =
          cover_back least_handle (with_slots place count news slots)
          (others_between None least_handle (take place slots) o olds news (drop (place + count) slots)
          (subst (λ (os : List (Slotted G)). CoverAlike os news) e alike)
          (subst (CoverTo None least_handle) (sym (in_three place count slots) ∙ ap (λ (os : List (Slotted G)). take place slots ++ (os ++ drop (place + count) slots)) e) (cover_from least_handle slots c)))

  -- ---- the numbers

  pub ends_differ : (xs ys : List (Slotted G)) → NumbersDiffer (xs ++ ys) → NumbersDiffer ys
  ends_differ xs ys differ i j d less lt e =
      differ (length xs + i) (length xs + j) d (omega (arith, less)) (omega (arith, lt, length-append xs ys))
      (ap (λ (s : Slotted G). s.id) (get_or-append-add xs ys i d) ∙ e ∙ ap (λ (s : Slotted G). s.id) (sym (get_or-append-add xs ys j d)))

  pub fronts_differ : (xs ys : List (Slotted G)) → NumbersDiffer (xs ++ ys) → NumbersDiffer xs
  fronts_differ xs ys differ i j d less lt e =
      differ i j d less (omega (arith, lt, length-append xs ys))
      (ap (λ (s : Slotted G). s.id) (get_or_append_left xs ys d i (omega (arith, less, lt))) ∙ e ∙ ap (λ (s : Slotted G). s.id) (sym (get_or_append_left xs ys d j lt)))

  -- of two parts each of the one and each of the other
  pub parts_differ : (xs ys : List (Slotted G)) → NumbersDiffer (xs ++ ys) → (i j : ℕ) (d : Slotted G) → i < length xs → j < length ys → (get_or xs i d).id ≢ (get_or ys j d).id
  parts_differ xs ys differ i j d a b e =
      differ i (length xs + j) d (omega (arith, a)) (omega (arith, b, length-append xs ys))
      (ap (λ (s : Slotted G). s.id) (get_or_append_left xs ys d i a) ∙ e ∙ ap (λ (s : Slotted G). s.id) (sym (get_or-append-add xs ys j d)))

  pub news_differ : (place count : ℕ) (news slots : List (Slotted G)) → NumbersDiffer (with_slots place count news slots) → NumbersDiffer news
  news_differ place count news slots differ = fronts_differ news (drop (place + count) slots) (ends_differ (take place slots) (news ++ drop (place + count) slots) differ)

  all_both : (low_of : ℕ → Option ℤ) (xs ys : List (Slotted G)) → AreNoted low_of xs → AreNoted low_of ys → AreNoted low_of (xs ++ ys)
  all_both low_of xs ys a b k d lt = by (nat_lt k (length xs)) refl
    where
      by : (t : Bool) → nat_lt k (length xs) ≡ t → low_of (get_or (xs ++ ys) k d).id ≡ Some (get_or (xs ++ ys) k d).range.low
      by true e = (
          let inside : k < length xs = grind (arith, nat_tests) in
          let same : get_or (xs ++ ys) k d ≡ get_or xs k d = get_or_append_left xs ys d k inside in
          ap (λ (s : Slotted G). low_of s.id) same ∙ a k d inside ∙ ap (λ (s : Slotted G). Some s.range.low) (sym same))
      by false e = (
          let outside : length xs ≤ k = grind (arith, nat_tests) in
          let far : length xs + (k - length xs) ≡ k = omega (arith, outside) in
          let same : get_or (xs ++ ys) k d ≡ get_or ys (k - length xs) d = ap (λ (n : ℕ). get_or (xs ++ ys) n d) (sym far) ∙ get_or-append-add xs ys (k - length xs) d in
          ap (λ (s : Slotted G). low_of s.id) same ∙ b (k - length xs) d (omega (arith, lt, outside, length-append xs ys)) ∙ ap (λ (s : Slotted G). Some s.range.low) (sym same))

  -- Some numbers are forgotten and others noted; all that stay are known as before.
  pub still_found : (place count : ℕ) (news slots : List (Slotted G)) (before between after : ℕ → Option ℤ) → place + count ≤ length slots → NumbersDiffer slots → NumbersDiffer (with_slots place count news slots) → AreNoted before slots → ((q : ℕ) → ((k : ℕ) (d : Slotted G) → place ≤ k → k < place + count → (get_or slots k d).id ≢ q) → between q ≡ before q) → AreNoted after news → ((q : ℕ) → ((k : ℕ) (d : Slotted G) → k < length news → (get_or news k d).id ≢ q) → after q ≡ between q) → AreNoted after (with_slots place count news slots)
  still_found place count news slots before between after within olds differ noted forgot new_noted others =
      all_both after (take place slots) (news ++ drop (place + count) slots) first (all_both after news (drop (place + count) slots) new_noted last)
    where
      long : length (take place slots) ≡ place
      long = length-take-le place slots (omega (arith, within))

      first : AreNoted after (take place slots)
      first k d lt = (
          let low : k < place = omega (arith, lt, long) in
          let same : get_or (take place slots) k d ≡ get_or slots k d = get_or-take place slots k d low in
          others (get_or (take place slots) k d).id (λ j e lj is. parts_differ (take place slots) (news ++ drop (place + count) slots) differ k j d lt (omega (arith, lj, length-append news (drop (place + count) slots))) (sym is ∙ ap (λ (s : Slotted G). s.id) (get_same news j e d lj ∙ sym (get_or_append_left news (drop (place + count) slots) d j lj))))
          ∙ forgot (get_or (take place slots) k d).id (λ j e ge lj is. olds k j d (omega (arith, low, ge)) (omega (arith, lj, within)) (ap (λ (s : Slotted G). s.id) (sym same) ∙ sym is ∙ ap (λ (s : Slotted G). s.id) (get_same slots j e d (omega (arith, lj, within)))))
          ∙ ap (λ (s : Slotted G). before s.id) same ∙ noted k d (omega (arith, low, within)) ∙ ap (λ (s : Slotted G). Some s.range.low) (sym same))

      last : AreNoted after (drop (place + count) slots)
      last k d lt = (
          let there : place + count + k < length slots = omega (arith, lt, length-drop (place + count) slots, within) in
          let same : get_or (drop (place + count) slots) k d ≡ get_or slots (place + count + k) d = get_or-drop (place + count) slots k d in
          others (get_or (drop (place + count) slots) k d).id (λ j e lj is. parts_differ news (drop (place + count) slots) (ends_differ (take place slots) (news ++ drop (place + count) slots) differ) j k d lj lt (ap (λ (s : Slotted G). s.id) (get_same news j d e lj) ∙ is))
          ∙ forgot (get_or (drop (place + count) slots) k d).id (λ j e ge lj is. olds j (place + count + k) d (omega (arith, lj)) there (ap (λ (s : Slotted G). s.id) (get_same slots j d e (omega (arith, lj, within))) ∙ is ∙ ap (λ (s : Slotted G). s.id) same))
          ∙ ap (λ (s : Slotted G). before s.id) same ∙ noted (place + count + k) d there ∙ ap (λ (s : Slotted G). Some s.range.low) (sym same))

  pub replaced_segments : (before between after : ℕ → Option ℤ) (was is : Bool) (place count : ℕ) (news slots : List (Slotted G)) → 0 < count → place + count ≤ length slots → CoverAlike (take count (drop place slots)) news → NumbersDiffer (with_slots place count news slots) → AreSegments before was slots → ((q : ℕ) → ((k : ℕ) (d : Slotted G) → place ≤ k → k < place + count → (get_or slots k d).id ≢ q) → between q ≡ before q) → (is ≡ true → HaveNoted between after news × (was ≡ true)) → AreSegments after is (with_slots place count news slots)
  replaced_segments before between after was is place count news slots some within alike differ are forgot noted = record {
    cover = still_cover place count news slots some within alike are.cover;
    numbers = differ;
    found = λ yes. let both = noted yes in still_found place count news slots before between after within are.numbers differ (are.found both.1) forgot both.0.noted both.0.others;
  }
