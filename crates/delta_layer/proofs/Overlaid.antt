-- The versions that are present, and that there is one list of them.
use Rattle.std.proofs.Common.{◌≡◌, ◌∙◌, refl, sym, ap, subst, ℕ, zero, suc, ℤ, Bool, true, false, true≢false, not, cond, ◌&&◌, List, [], ◌∷◌, ◌++◌, ◌+◌, length, take, drop, slice_get, filter, Option, Some, None}
use Rattle.std.proofs.lemmas.Cmp.{tied_itself}
use Rattle.std.proofs.lemmas.List.{append-nil, take_at, drop_at}
use Rattle.std.proofs.lemmas.List.Elements.{filter-append, filter_map-append}
use Rattle.std.proofs.lemmas.Map.Entries.{lookup-filter-keys}
use Rattle.std.specs.BTreeMap.{is_at}
use Rattle.std.specs.List.{AllByRecursion, cons_option}
use Rattle.std.specs.List.Sorted.{IsStrictlySortedBy}
use Rattle.std.specs.Map.{keys_of}
use Rattle.std.specs.Option.{option_or, option_and_then}
use Rattle.std.specs.Ordering.{is_eq, ordering_reverse}
use Rattle.std.specs.declared.cmp.Ordering.{Ordering}
use Rattle.std.specs.declared.cmp.Ordering.TheVariants.{Less, Equal, Greater}
use Rattle.column_block.specs.declared.cell.Version.{Version}
use Rattle.column_file.specs.declared.file.ColumnFile.{ColumnFile}
use Rattle.flash_types.specs.Ranges.{holds}
use Rattle.flash_types.specs.declared.range.HandleRange.{HandleRange}
use Rattle.delta_index.specs.Indexes.{Entry, AreRising}
use Rattle.column_block.specs.Order.{key_cmp}
use Rattle.column_block.proofs.Ordered.{key_cmp_total, key, Above, Up, above_more, up_filter, rise_from_up, up_from_rise}
use Rattle.good_replica.specs.Changed.{had, view}
use Rattle.good_replica.specs.Trail.{DeltaFile}
use Rattle.delta_layer.specs.Files.{files_of, index_of}
use Rattle.delta_layer.specs.Overlay.{at_place, placed, in_range, clears_in, any_holds, picked, stays, merged}
use Rattle.delta_layer.specs.Present.{ArePresent, AreWithin}
use Rattle.delta_layer.proofs.Order.{key_is, is_at_key, at, had_is, none_above}
use Rattle.delta_layer.proofs.Merging.{each_merged, up_merged, at_merged}
use Rattle.delta_layer.proofs.Places.{take_more}
use Rattle.delta_layer.proofs.Deltas.{IsPlaced, ArePlaced, found, place_of, exact, placed_filter, Knows, knows}

-- ---- versions where an index has them

key_of : (files : List ColumnFile) (entry : Entry) (one : IsPlaced files entry) → key one.version ≡ entry.0
key_of files entry one = λ i. (one.handle i, one.ts i)

-- one entry's version in front
first_placed : (files : List ColumnFile) (entry : Entry) (entries : List Entry) (one : IsPlaced files entry) → placed files (entry ∷ entries) ≡ one.version ∷ placed files entries
first_placed files entry entries one = ap (λ o. cons_option o (placed files entries)) one.there

at_placed : (files : List ColumnFile) (entries : List Entry) (h : ℤ) (ts : ℕ) → ArePlaced files entries → at h ts (placed files entries) ≡ found files entries h ts
at_placed files [] h ts all = refl
at_placed files (entry ∷ entries) h ts all =
    ap (at h ts) (first_placed files entry entries all.0)
    ∙ ap (λ k. cond (is_eq (key_cmp (h, ts) k)) (Some all.0.version) (at h ts (placed files entries))) (key_of files entry all.0)
    ∙ by (is_eq (key_cmp (h, ts) entry.0)) (at_placed files entries h ts all.1)
  where
    by : (b : Bool) → at h ts (placed files entries) ≡ found files entries h ts → cond b (Some all.0.version) (at h ts (placed files entries)) ≡ option_and_then (at_place files) (cond b (Some entry.1) (place_of h ts entries))
    by true rest = sym all.0.there
    by false rest = rest

above_placed : (files : List ColumnFile) (v : Version) (k : ℤ × ℕ) (entries : List Entry) → key v ≡ k → AllByRecursion (λ y. key_cmp k y ≡ Less) (keys_of entries) → ArePlaced files entries → Above v (placed files entries)
above_placed files v k [] is above all = tt
above_placed files v k (entry ∷ entries) is above all =
    subst (Above v) (sym (first_placed files entry entries all.0))
    ((λ i. key_cmp (is i) (key_of files entry all.0 i)) ∙ above.0, above_placed files v k entries is above.1 all.1)

up_placed : (files : List ColumnFile) (entries : List Entry) → AreRising entries → ArePlaced files entries → Up (placed files entries)
unfolding IsStrictlySortedBy
up_placed files [] up all = tt
up_placed files (entry ∷ entries) up all =
    subst Up (sym (first_placed files entry entries all.0)) (above_placed files all.0.version entry.0 entries (key_of files entry all.0) up.0 all.1, up_placed files entries up.1 all.1)

rising_filter : (p : Entry → Bool) (entries : List Entry) → AreRising entries → AreRising (filter p entries)
unfolding IsStrictlySortedBy
rising_filter p [] up = up
rising_filter p (entry ∷ entries) up = elim (p entry) as (λ b. AreRising (cond b (entry ∷ filter p entries) (filter p entries))) [ true ↦ (above_filter entry.0 entries up.0, rising_filter p entries up.1) | false ↦ rising_filter p entries up.1 ]
  where
    above_filter : (k : ℤ × ℕ) (es : List Entry) → AllByRecursion (λ y. key_cmp k y ≡ Less) (keys_of es) → AllByRecursion (λ y. key_cmp k y ≡ Less) (keys_of (filter p es))
    above_filter k [] a = tt
    above_filter k (e ∷ es) a = elim (p e) as (λ b. AllByRecursion (λ y. key_cmp k y ≡ Less) (keys_of (cond b (e ∷ filter p es) (filter p es)))) [ true ↦ (a.0, above_filter k es a.1) | false ↦ above_filter k es a.1 ]

module _ (files : List ColumnFile) (range : HandleRange) where
  within : (entries : List Entry) → ArePlaced files entries → AreWithin range (placed files (in_range range entries))
  within [] all = tt
  within (entry ∷ entries) all = by (holds range entry.0.0) refl (within entries all.1)
    where
      by : (b : Bool) → holds range entry.0.0 ≡ b → AreWithin range (placed files (in_range range entries)) → AreWithin range (placed files (cond b (entry ∷ in_range range entries) (in_range range entries)))
      by true is rest = subst (AreWithin range) (sym (first_placed files entry (in_range range entries) all.0)) (ap (holds range) all.0.handle ∙ is, rest)
      by false is rest = rest

  equal : (o : Ordering) → is_eq o ≡ true → o ≡ Equal
  equal Less e = absurd (true≢false (sym e))
  equal Equal e = refl
  equal Greater e = absurd (true≢false (sym e))

  in_range_at : (entries : List Entry) (h : ℤ) (ts : ℕ) → holds range h ≡ true → place_of h ts (in_range range entries) ≡ place_of h ts entries
  in_range_at entries h ts in' =
      lookup-filter-keys (is_at (key_cmp (h, ts))) (λ k. holds range k.0) true (λ k e. ap (holds range) (sym (exact (h, ts) k (equal (key_cmp (h, ts) k) e)).0) ∙ in') entries

-- ---- stable versions that count

module _ (h : ℤ) (ts : ℕ) where
  at_filter : (p : Version → Bool) (b : Bool) → ((v : Version) → v.handle ≡ h → p v ≡ b) → (vs : List Version) → at h ts (filter p vs) ≡ cond b (at h ts vs) None
  at_filter p true is [] = refl
  at_filter p false is [] = refl
  at_filter p b is (v ∷ vs) = by (is_at_key h ts v) refl (p v) refl b refl (at_filter p b is vs)
    where
      same : is_at_key h ts v ≡ true → v.handle ≡ h
      same e = sym (exact (h, ts) (key v) (key_is h ts v e)).0

      by : (k : Bool) → is_at_key h ts v ≡ k → (q : Bool) → p v ≡ q → (c : Bool) → b ≡ c → at h ts (filter p vs) ≡ cond b (at h ts vs) None → at h ts (cond q (v ∷ filter p vs) (filter p vs)) ≡ cond c (cond k (Some v) (at h ts vs)) None
      by true e true f true g rest = ap (λ x. cond x (Some v) (at h ts (filter p vs))) e
      by true e true f false g rest = absurd (true≢false (sym f ∙ is v (same e) ∙ g))
      by true e false f true g rest = absurd (true≢false (sym g ∙ sym (is v (same e)) ∙ f))
      by true e false f false g rest = rest ∙ ap (λ x. cond x (at h ts vs) None) g
      by false e true f c g rest = ap (λ x. cond x (Some v) (at h ts (filter p vs))) e ∙ rest ∙ ap (λ x. cond x (at h ts vs) None) g
      by false e false f c g rest = rest ∙ ap (λ x. cond x (at h ts vs) None) g

stays_within : (range : HandleRange) (ranges : List HandleRange) (vs : List Version) → AreWithin range (filter (stays range ranges) vs)
stays_within range ranges [] = tt
stays_within range ranges (v ∷ vs) = by (holds range v.handle) refl (not (any_holds ranges v.handle)) (stays_within range ranges vs)
  where
    by : (b : Bool) → holds range v.handle ≡ b → (c : Bool) → AreWithin range (filter (stays range ranges) vs) → AreWithin range (cond (b && c) (v ∷ filter (stays range ranges) vs) (filter (stays range ranges) vs))
    by true is true rest = (is, rest)
    by true is false rest = rest
    by false is c rest = rest

-- ---- together

pub are_present : (range : HandleRange) (stable : List Version) (files : List ColumnFile) (ranges : List HandleRange) → Up stable → ((h : ℤ) → any_holds ranges h ≡ any_holds (clears_in files) h)
    → ArePresent range stable (files_of files) (merged (filter (stays range ranges) stable) (placed files (in_range range (index_of files))))
are_present range stable files ranges up same = record {
  rise = rise_from_up (merged olds news) all_up;
  within = each_merged (λ (v : Version). holds range v.handle ≡ true) olds news (stays_within range ranges stable) (within files range (index_of files) index.placed);
  here = here;
}
  where
    index : Knows files (index_of files)
    index = knows files

    olds : List Version
    olds = filter (stays range ranges) stable

    news : List Version
    news = placed files (in_range range (index_of files))

    news_up : Up (placed files (in_range range (index_of files)))
    news_up = up_placed files (in_range range (index_of files)) (rising_filter (λ (entry : Entry). holds range entry.0.0) (index_of files) (knows files).up) (placed_filter files (λ (entry : Entry). holds range entry.0.0) (index_of files) (knows files).placed)

    all_up : Up (merged (filter (stays range ranges) stable) (placed files (in_range range (index_of files))))
    all_up = up_merged (filter (stays range ranges) stable) (placed files (in_range range (index_of files))) (up_filter (stays range ranges) stable up) news_up

    turned : (c : Bool) (o : Option Version) → cond (true && not c) o None ≡ cond c None o
    turned true o = refl
    turned false o = refl

    here : (h : ℤ) (ts : ℕ) → holds range h ≡ true → had h (merged (filter (stays range ranges) stable) (placed files (in_range range (index_of files)))) ts ≡ view h stable (files_of files) ts
    here h ts in' =
        had_is h ts (merged (filter (stays range ranges) stable) (placed files (in_range range (index_of files)))) all_up
        ∙ at_merged h ts (filter (stays range ranges) stable) (placed files (in_range range (index_of files))) (up_filter (stays range ranges) stable up) news_up
        ∙ (λ i. option_or
        ((at_placed files (in_range range (index_of files)) h ts (placed_filter files (λ (entry : Entry). holds range entry.0.0) (index_of files) (knows files).placed)
        ∙ ap (option_and_then (at_place files)) (in_range_at files range (index_of files) h ts in')) i)
        ((at_filter h ts (stays range ranges) (holds range h && not (any_holds ranges h)) (λ v e. ap (λ x. holds range x && not (any_holds ranges x)) e) stable
        ∙ (λ j. cond (in' j && not (same h j)) (at h ts stable) None)
        ∙ turned (any_holds (clears_in files) h) (at h ts stable)
        ∙ ap (cond (any_holds (clears_in files) h) None) (sym (had_is h ts stable up))) i))
        ∙ sym ((knows files).shows h ts (had h stable ts))

-- the same, as the calls tell it
pub overlay_is : (range : HandleRange) (stable news all block : List Version) (files : List ColumnFile) (ranges : List HandleRange) (olds places : List ℕ) (count : ℕ) → Up stable → count ≡ length stable → news ≡ placed files (in_range range (index_of files)) → all ≡ stable ++ news
    → ((h : ℤ) → any_holds ranges h ≡ any_holds (clears_in files) h) → picked all olds ≡ filter (stays range ranges) (take count all) → picked all places ≡ merged (picked all olds) (drop count all) → block ≡ picked all places
    → ArePresent range stable (files_of files) block
overlay_is range stable news all block files ranges olds places count up n new whole same kept both is =
    let first : take count all ≡ stable = ap (take count) whole ∙ take_at stable news count (sym n) in
    let second : drop count all ≡ news = ap (drop count) whole ∙ drop_at stable news count (sym n) in
    let made : merged (filter (stays range ranges) stable) (placed files (in_range range (index_of files))) ≡ block =
    (λ i. merged (filter (stays range ranges) (sym first i)) ((sym new ∙ sym second) i)) ∙ (λ i. merged (sym kept i) (drop count all)) ∙ sym both ∙ sym is in
    subst (λ vs. ArePresent range stable (files_of files) vs) made (are_present range stable files ranges up same)

-- ---- the loop over an index

placed_at : (files : List ColumnFile) (entries : List Entry) (k : ℕ) (e : Entry) → ArePlaced files entries → slice_get entries k ≡ Some e → IsPlaced files e
placed_at files [] k e all at' = cc at'
placed_at files (x ∷ entries) zero e all at' = (let same : x ≡ e = cc at' in subst (IsPlaced files) same all.0)
placed_at files (x ∷ entries) (suc k) e all at' = placed_at files entries k e all.1 at'

pub news_step : (files : List ColumnFile) (range : HandleRange) (entries : List Entry) (k : ℕ) (e : Entry) (news more : List Version) → entries ≡ index_of files → slice_get entries k ≡ Some e → news ≡ placed files (in_range range (take k (index_of files)))
    → ((v : Version) → at_place files e.1 ≡ Some v → more ≡ cond (holds range e.0.0) (news ++ v ∷ []) news) → more ≡ placed files (in_range range (take (k + 1) (index_of files)))
news_step files range entries k e news more is at' so_far step = by (holds range e.0.0) refl
  where
    there : slice_get (index_of files) k ≡ Some e
    there = ap (λ es. slice_get es k) (sym is) ∙ at'

    one : IsPlaced files e
    one = placed_at files (index_of files) k e (knows files).placed (ap (λ es. slice_get es k) (sym is) ∙ at')

    parts : (b : Bool) → holds range e.0.0 ≡ b → placed files (in_range range (take (k + 1) (index_of files))) ≡ placed files (in_range range (take k (index_of files))) ++ placed files (cond b (e ∷ []) [])
    parts b c =
        ap (λ es. placed files (in_range range es)) (take_more (index_of files) k ∙ ap (λ o. take k (index_of files) ++ cons_option o []) (ap (λ es. slice_get es k) (sym is) ∙ at'))
        ∙ ap (placed files) (filter-append (λ (entry : Entry). holds range entry.0.0) (take k (index_of files)) (e ∷ []))
        ∙ filter_map-append (λ (entry : Entry). at_place files entry.1) (in_range range (take k (index_of files))) (in_range range (e ∷ []))
        ∙ ap (λ b. placed files (in_range range (take k (index_of files))) ++ placed files (cond b (e ∷ []) [])) c

    added : (b : Bool) → holds range e.0.0 ≡ b → (v : Version) → at_place files e.1 ≡ Some v → more ≡ cond b (news ++ v ∷ []) news
    added b c v w = step v w ∙ ap (λ b. cond b (news ++ v ∷ []) news) c

    by : (b : Bool) → holds range e.0.0 ≡ b → more ≡ placed files (in_range range (take (k + 1) (index_of files)))
    by true c =
        let o = placed_at files (index_of files) k e (knows files).placed (ap (λ es. slice_get es k) (sym is) ∙ at') in
        step o.version o.there ∙ ap (λ b. cond b (news ++ o.version ∷ []) news) c
        ∙ (λ i. so_far i ++ cons_option (sym o.there i) [])
        ∙ sym (parts true c)
    by false c =
        let o = placed_at files (index_of files) k e (knows files).placed (ap (λ es. slice_get es k) (sym is) ∙ at') in
        step o.version o.there ∙ ap (λ b. cond b (news ++ o.version ∷ []) news) c
        ∙ so_far ∙ sym (append-nil (placed files (in_range range (take k (index_of files)))))
        ∙ sym (parts false c)

-- ---- one list alone

found_at : (v : Version) (vs : List Version) → at v.handle v.ts (v ∷ vs) ≡ Some v
found_at v vs = ap (λ o. cond (is_eq o) (Some v) (at v.handle v.ts vs)) (tied_itself key_cmp_total (key v))

not_found : (v : Version) (vs : List Version) → Above v vs → at v.handle v.ts vs ≡ None
not_found v vs above = none_above v.handle v.ts v vs (ap is_eq (tied_itself key_cmp_total (key v))) above

abbrev SameAt : List Version → List Version → Type 0
SameAt xs ys = (h : ℤ) (ts : ℕ) → at h ts xs ≡ at h ts ys

firsts_same : (x y : Version) (xs ys : List Version) → Up (x ∷ xs) → Up (y ∷ ys) → SameAt (x ∷ xs) (y ∷ ys) → x ≡ y
firsts_same x y xs ys up up' same = by (key_cmp (key x) (key y)) refl
  where
    some_is : (v w : Version) → Some v ≡ Some w → v ≡ w
    some_is v w e = cc e

    none_some : (v : Version) → None ≡ Some v → ⊥
    none_some v e = cc e

    by : (o : Ordering) → key_cmp (key x) (key y) ≡ o → x ≡ y
    by Less is = absurd (none_some x (sym (not_found x (y ∷ ys) (is, above_more x y ys is up'.0)) ∙ sym (same x.handle x.ts) ∙ found_at x xs))
    by Equal is = some_is x y (sym (found_at x xs) ∙ same x.handle x.ts ∙ ap (λ o. cond (is_eq o) (Some y) (at x.handle x.ts ys)) is)
    by Greater is =
        let less : key_cmp (key y) (key x) ≡ Less = key_cmp_total.antisymm (key y) (key x) ∙ ap ordering_reverse is in
        absurd (none_some y (sym (not_found y (x ∷ xs) (less, above_more y x xs less up.0)) ∙ same y.handle y.ts ∙ found_at y ys))

rests_same : (x y : Version) (xs ys : List Version) → Up (x ∷ xs) → Up (y ∷ ys) → x ≡ y → SameAt (x ∷ xs) (y ∷ ys) → SameAt xs ys
rests_same x y xs ys up up' is same h ts = by (is_at_key h ts x) refl
  where
    by : (b : Bool) → is_at_key h ts x ≡ b → at h ts xs ≡ at h ts ys
    by true here = none_above h ts x xs here up.0 ∙ sym (none_above h ts y ys (ap (is_at_key h ts) (sym is) ∙ here) up'.0)
    by false here =
        sym (ap (λ b. cond b (Some x) (at h ts xs)) here) ∙ same h ts
        ∙ ap (λ b. cond b (Some y) (at h ts ys)) (ap (is_at_key h ts) (sym is) ∙ here)

lists_same : (xs ys : List Version) → Up xs → Up ys → SameAt xs ys → xs ≡ ys
lists_same [] [] up up' same = refl
lists_same [] (y ∷ ys) up up' same = cc (same y.handle y.ts, found_at y ys)
lists_same (x ∷ xs) [] up up' same = cc (same x.handle x.ts, found_at x xs)
lists_same (x ∷ xs) (y ∷ ys) up up' same =
    let is = firsts_same x y xs ys up up' same in
    (λ i. is i ∷ lists_same xs ys up.1 up'.1 (rests_same x y xs ys up up' is same) i)

-- of a handle outside of the range there is nothing
none_outside : (range : HandleRange) (vs : List Version) (h : ℤ) (ts : ℕ) → holds range h ≡ false → AreWithin range vs → at h ts vs ≡ None
none_outside range [] h ts out all = refl
none_outside range (v ∷ vs) h ts out all = by (is_at_key h ts v) refl (none_outside range vs h ts out all.1)
  where
    by : (b : Bool) → is_at_key h ts v ≡ b → at h ts vs ≡ None → cond b (Some v) (at h ts vs) ≡ None
    by true here rest = absurd (true≢false (sym all.0 ∙ ap (holds range) (sym (exact (h, ts) (key v) (key_is h ts v here)).0) ∙ out))
    by false here rest = rest

pub unique : (range : HandleRange) (stable : List Version) (files : List DeltaFile) (some others : List Version) → ArePresent range stable files some → ArePresent range stable files others → some ≡ others
unique range stable files some others a b = lists_same some others up up' (λ h ts. by h ts (holds range h) refl)
  where
    up : Up some
    up = up_from_rise some a.rise

    up' : Up others
    up' = up_from_rise others b.rise

    by : (h : ℤ) (ts : ℕ) (c : Bool) → holds range h ≡ c → at h ts some ≡ at h ts others
    by h ts true in' = sym (had_is h ts some (up_from_rise some a.rise)) ∙ a.here h ts in' ∙ sym (b.here h ts in') ∙ had_is h ts others (up_from_rise others b.rise)
    by h ts false out = none_outside range some h ts out a.within ∙ sym (none_outside range others h ts out b.within)
