-- The entries of an index that lie in a range, of which only those from the range's low end on are looked at.
use Rattle.std.proofs.Common.{◌≡◌, ◌∙◌, refl, sym, ap, ℕ, zero, suc, ℤ, ◌<◌, ◌<ℤ◌, ◌≤ℤ◌, Bool, true, false, true≢false, cond, ◌&&◌, List, [], ◌∷◌, Option, Some, None, take, slice_get, arith}
use Rattle.std.specs.Prelude.{int_le, int_lt}
use Rattle.std.specs.List.{AllByRecursion}
use Rattle.std.specs.List.Sorted.{IsStrictlySortedBy}
use Rattle.std.specs.Map.{keys_of}
use Rattle.std.specs.Ordering.{int_cmp, nat_cmp, ordering_then}
use Rattle.std.specs.declared.cmp.Ordering.{Ordering}
use Rattle.std.specs.declared.cmp.Ordering.TheVariants.{Less, Equal, Greater}
use Rattle.std.proofs.lemmas.Int.{ints}
use Rattle.column_file.specs.declared.file.ColumnFile.{ColumnFile}
use Rattle.delta_index.specs.Indexes.{Entry, AreRising, IsFirstFrom}
use Rattle.column_block.specs.Order.{key_cmp}
use Rattle.flash_types.specs.Ranges.{holds, is_below}
use Rattle.flash_types.specs.declared.range.HandleRange.{HandleRange}
use Rattle.delta_layer.specs.Files.{index_of}
use Rattle.delta_layer.specs.Overlay.{in_range, placed}

not_from : (low h : ℤ) → h <ℤ low → int_le low h ≡ false
not_from low h less = grind (arith, ints)

second_false : (a b : Bool) → b ≡ false → (a && b) ≡ false
second_false true b e = e
second_false false b e = refl

-- none of the entries before the first from the low end on
none_before : (range : HandleRange) (entries : List Entry) (k : ℕ) → ((j : ℕ) (e : Entry) → j < k → slice_get entries j ≡ Some e → e.0.0 <ℤ range.low) → in_range range (take k entries) ≡ []
none_before range entries zero before = refl
none_before range [] (suc k) before = refl
none_before range (x ∷ entries) (suc k) before =
    ap (λ b. cond (b && is_below x.0.0 range.high) (x ∷ in_range range (take k entries)) (in_range range (take k entries))) (not_from range.low x.0.0 (before zero x (omega arith) refl))
    ∙ none_before range entries k (λ j e less at. before (suc j) e (omega (arith, less)) at)

pub starts : (files : List ColumnFile) (range : HandleRange) (entries : List Entry) (place : ℕ) → entries ≡ index_of files → IsFirstFrom range.low entries place → [] ≡ placed files (in_range range (take place (index_of files)))
starts files range entries place is first = sym (ap (placed files) (ap (λ es. in_range range (take place es)) (sym is) ∙ none_before range entries place (λ j e less at. first.before j e less at)))

not_lower : (k l : ℤ × ℕ) → key_cmp k l ≡ Less → k.0 ≤ℤ l.0
not_lower k l e = by (int_cmp k.0 l.0) refl e
  where
    lower : (a b : ℤ) → int_cmp a b ≡ Less → a ≤ℤ b
    lower a b e = grind (arith, ints)

    level : (a b : ℤ) → int_cmp a b ≡ Equal → a ≤ℤ b
    level a b e = grind (arith, ints)

    by : (o : Ordering) → int_cmp k.0 l.0 ≡ o → ordering_then o (nat_cmp k.1 l.1) ≡ Less → k.0 ≤ℤ l.0
    by Less is e = lower k.0 l.0 is
    by Equal is e = level k.0 l.0 is
    by Greater is e = cc e

not_below : (h k : ℤ) (high : Option ℤ) → h ≤ℤ k → is_below h high ≡ false → is_below k high ≡ false
not_below h k None le e = e
not_below h k (Some high) le e = more h k high le e
  where
    more : (h k high : ℤ) → h ≤ℤ k → int_lt h high ≡ false → int_lt k high ≡ false
    more h k high le e = grind (arith, ints)

none_above : (range : HandleRange) (k : ℤ × ℕ) (entries : List Entry) → is_below k.0 range.high ≡ false → AllByRecursion (λ y. key_cmp k y ≡ Less) (keys_of entries) → in_range range entries ≡ []
none_above range k [] past above = refl
none_above range k (x ∷ entries) past above =
    ap (λ b. cond b (x ∷ in_range range entries) (in_range range entries)) (second_false (int_le range.low x.0.0) (is_below x.0.0 range.high) (not_below k.0 x.0.0 range.high (not_lower k x.0 above.0) past))
    ∙ none_above range k entries past above.1

-- none from an entry on that isn't below the high end
rest_none : (range : HandleRange) (entries : List Entry) (k : ℕ) (e : Entry) → AreRising entries → slice_get entries k ≡ Some e → is_below e.0.0 range.high ≡ false → in_range range (take k entries) ≡ in_range range entries
unfolding IsStrictlySortedBy
rest_none range [] k e up at past = cc at
rest_none range (x ∷ entries) zero e up at past =
    let same : x ≡ e = cc at in
    sym (ap (λ b. cond b (x ∷ in_range range entries) (in_range range entries)) (second_false (int_le range.low x.0.0) (is_below x.0.0 range.high) (ap (λ (y : Entry). is_below y.0.0 range.high) same ∙ past)) ∙ none_above range x.0 entries (ap (λ (y : Entry). is_below y.0.0 range.high) same ∙ past) up.0)
rest_none range (x ∷ entries) (suc k) e up at past = ap (λ es. cond (holds range x.0.0) (x ∷ es) es) (rest_none range entries k e up.1 at past)

pub ends : (files : List ColumnFile) (range : HandleRange) (entries : List Entry) (k : ℕ) (e : Entry) → entries ≡ index_of files → AreRising entries → slice_get entries k ≡ Some e → is_below e.0.0 range.high ≡ false → placed files (in_range range (take k (index_of files))) ≡ placed files (in_range range (index_of files))
ends files range entries k e is up at past = ap (λ es. placed files (in_range range (take k es))) (sym is) ∙ ap (placed files) (rest_none range entries k e up at past) ∙ ap (λ es. placed files (in_range range es)) is
