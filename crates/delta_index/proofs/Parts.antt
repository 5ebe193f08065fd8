-- The new entries that go into a chunk, and the chunks that a range doesn't touch.
use Rattle.std.proofs.Common.{◌≡◌, ◌≢◌, ◌∙◌, refl, sym, ap, subst, ℕ, ℤ, zero, suc, ◌+◌, ◌-◌, ◌<◌, ◌≤◌, ◌<ℤ◌, ◌≤ℤ◌, Bool, true, false, not, ◌&&◌, cond, Some, List, [], ◌∷◌, ◌++◌, length, take, drop, get_or, slice_get, filter, fold, arith}
use Rattle.std.proofs.Math.Bool.{and-false}
use Rattle.std.proofs.Math.ListN.{drop_of_length-le}
use Rattle.std.proofs.Math.Seq.{take-length, drop-length}
use Rattle.std.proofs.lemmas.Int.{ints}
use Rattle.std.proofs.lemmas.List.{append-nil, drop_more, take-append-drop}
use Rattle.std.proofs.lemmas.Option.{slice_get_within}
use Rattle.std.specs.declared.cmp.Ordering.{Ordering}
use Rattle.std.specs.declared.cmp.Ordering.TheVariants.{Less, Equal, Greater}
use Rattle.std.specs.Prelude.{int_le, int_lt}
use Rattle.std.specs.List.Sorted.{IsStrictlySortedBy}
use Rattle.flash_types.specs.Ranges.{holds, is_below}
use Rattle.flash_types.specs.declared.range.HandleRange.{HandleRange}
use Rattle.delta_index.specs.Chunks.{flat, AreAbove, AreBelow, IsCut, IsPart}
use Rattle.delta_index.specs.Indexes.{Entry, put, cleared, AreRising}
use Rattle.column_block.specs.Order.{key_cmp}
use Rattle.delta_index.proofs.Handles.{handles_rise}
use Rattle.delta_index.proofs.Pieces.{drop_chunk}
use Rattle.delta_index.proofs.Puts.{turned, above_more, rising_none, rising_stays}
use Rattle.column_block.proofs.Ordered.{key_cmp_total}
use Rattle.delta_index.proofs.Splits.{in_parts}

-- ---- parts of what rises

above_front : (k : ℤ × ℕ) (xs ys : List Entry) → AreAbove k (xs ++ ys) → AreAbove k xs
above_front k [] ys a = tt
above_front k (x ∷ xs) ys a = (a.0, above_front k xs ys a.1)

above_middle : (k : ℤ × ℕ) (xs ys : List Entry) (y : Entry) → AreAbove k (xs ++ (y ∷ ys)) → key_cmp k y.0 ≡ Less
above_middle k [] ys y a = a.0
above_middle k (x ∷ xs) ys y a = above_middle k xs ys y a.1

rising_front : (xs ys : List Entry) → AreRising (xs ++ ys) → AreRising xs
unfolding IsStrictlySortedBy
rising_front [] ys up = tt
rising_front (x ∷ xs) ys up = (above_front x.0 xs ys up.0, rising_front xs ys up.1)

rising_behind : (xs ys : List Entry) → AreRising (xs ++ ys) → AreRising ys
unfolding IsStrictlySortedBy
rising_behind [] ys up = up
rising_behind (x ∷ xs) ys up = rising_behind xs ys up.1

rising_take : (n : ℕ) (es : List Entry) → AreRising es → AreRising (take n es)
rising_take n es up = rising_front (take n es) (drop n es) (subst AreRising (sym (take-append-drop n es)) up)

rising_drop : (n : ℕ) (es : List Entry) → AreRising es → AreRising (drop n es)
rising_drop n es up = rising_behind (take n es) (drop n es) (subst AreRising (sym (take-append-drop n es)) up)

rising_from : (cs : List (List Entry)) (j : ℕ) → AreRising (flat cs) → AreRising (flat (drop j cs))
rising_from cs zero up = up
rising_from [] (suc j) up = up
rising_from (c ∷ cs) (suc j) up = rising_from cs j (rising_behind c (flat cs) up)

pub rising_chunk : (cs : List (List Entry)) (j : ℕ) → j < length cs → AreRising (flat cs) → AreRising (get_or cs j [])
rising_chunk cs j lt up = rising_front (get_or cs j []) (flat (drop (j + 1) cs)) (subst AreRising (drop_chunk cs j lt) (rising_from cs j up))

below_next : (es rs : List Entry) (r : Entry) → AreRising (es ++ (r ∷ rs)) → AreBelow r.0 es
unfolding IsStrictlySortedBy
below_next [] rs r up = tt
below_next (e ∷ es) rs r up = (above_middle e.0 es rs r up.0, below_next es rs r up.1)

-- ---- where new entries are cut

module _ (key k : ℤ × ℕ) (e : Entry) (less : key_cmp k key ≡ Less) where
  less_than_first : (r : Ordering) → key_cmp e.0 key ≡ r → r ≢ Less → key_cmp k e.0 ≡ Less
  less_than_first Less is isnt = absurd (isnt refl)
  less_than_first Equal is isnt = turned e.0 k Greater (key_cmp_total.congr e.0 key k is ∙ turned k key Less less)
  less_than_first Greater is isnt = key_cmp_total.trans k key e.0 less (turned e.0 key Greater is)

  above_from : (es : List Entry) → AreRising (e ∷ es) → key_cmp e.0 key ≢ Less → AreAbove k (e ∷ es)
  unfolding IsStrictlySortedBy
  above_from es up isnt = let first : key_cmp k e.0 ≡ Less = less_than_first (key_cmp e.0 key) refl isnt in (first, above_more k e.0 es first up.0)

pub cut_here : (key : ℤ × ℕ) (news : List Entry) (n : ℕ) (d : Entry) → AreRising news → n < length news → AreBelow key (take n news) → key_cmp (get_or news n d).0 key ≢ Less → IsCut key news n
cut_here key news n d up lt below isnt = record {
  within = omega (arith, lt);
  below = below;
  from = λ k less. subst (AreAbove k) (sym (drop_more news n d lt)) (above_from key k (get_or news n d) less (drop (n + 1) news) (subst AreRising (drop_more news n d lt) (rising_drop n news up)) isnt);
}

-- ---- what a chunk takes of new entries

pub last_part : (cs : List (List Entry)) (j n : ℕ) (news mine others : List Entry) → j < length cs → length cs - j ≡ 1 → AreRising news → n ≡ length news
    → mine ≡ take n news → others ≡ drop n news → IsPart cs j news mine others
last_part cs j n news mine others lt one up all front back =
    record {
      same = ap (λ t. fold put t news) (drop_chunk cs j lt ∙ ap (λ t. get_or cs j [] ++ t) none ∙ append-nil (get_or cs j [])) ∙ ap (fold put (get_or cs j [])) (sym whole)
          ∙ sym (append-nil (fold put (get_or cs j []) mine)) ∙ ap (λ t. fold put (get_or cs j []) mine ++ t) (sym (ap (λ t. fold put t others) none ∙ ap (fold put []) rest));
      mine_rise = subst AreRising (sym whole) up;
      others_rise = subst AreRising (sym rest) rising_none;
    }
  where
    none : flat (drop (j + 1) cs) ≡ []
    none = ap flat (drop_of_length-le cs {i = j + 1} (omega (arith, one)))

    whole : mine ≡ news
    whole = front ∙ ap (λ m. take m news) all ∙ take-length news

    rest : others ≡ []
    rest = back ∙ ap (λ m. drop m news) all ∙ drop-length news

headed : (xs : List Entry) (d : Entry) → 1 ≤ length xs → xs ≡ get_or xs 0 d ∷ drop 1 xs
headed [] d some = absurd (omega (arith, some))
headed (x ∷ xs) d some = refl

pub cut_part : (cs : List (List Entry)) (j n : ℕ) (news mine others next : List Entry) (d : Entry) → j + 1 < length cs → AreRising (flat cs) → AreRising news → next ≡ get_or cs (j + 1) [] → 1 ≤ length next
    → IsCut (get_or next 0 d).0 news n → mine ≡ take n news → others ≡ drop n news → IsPart cs j news mine others
cut_part cs j n news mine others next d lt up news_up at some cut front back =
    record {
      same = ap (λ t. fold put t news) whole ∙ ap (fold put (get_or cs j [] ++ (r ∷ rs))) (sym (take-append-drop n news) ∙ ap (λ t. t ++ drop n news) (sym front) ∙ ap (λ t. mine ++ t) (sym back))
          ∙ in_parts (get_or cs j []) mine others r rs (below_next (get_or cs j []) rs r (subst AreRising whole (rising_from cs j up))) (subst (AreBelow r.0) (sym front) cut.below)
          (λ k less. subst (AreAbove k) (sym back) (cut.from k less))
          ∙ ap (λ t. fold put (get_or cs j []) mine ++ fold put t others) (sym behind);
      mine_rise = subst AreRising (sym front) (rising_take n news news_up);
      others_rise = subst AreRising (sym back) (rising_drop n news news_up);
    }
  where
    r : Entry
    r = get_or next 0 d

    rs : List Entry
    rs = drop 1 next ++ flat (drop (j + 1 + 1) cs)

    behind : flat (drop (j + 1) cs) ≡ r ∷ rs
    behind = drop_chunk cs (j + 1) lt ∙ ap (λ t. t ++ flat (drop (j + 1 + 1) cs)) (sym at ∙ headed next d some)

    whole : flat (drop j cs) ≡ get_or cs j [] ++ (r ∷ rs)
    whole = drop_chunk cs j (omega (arith, lt)) ∙ ap (λ t. get_or cs j [] ++ t) behind

-- after the last chunk, what is left of the new entries stands at the end
pub at_end : (cs : List (List Entry)) (j : ℕ) (out news total all : List Entry) → length cs ≤ j → out ++ fold put (flat (drop j cs)) news ≡ total → AreRising news → all ≡ out ++ news → all ≡ total
at_end cs j out news total all le made up is =
    let none : flat (drop j cs) ≡ [] = ap flat (drop_of_length-le cs {i = j} le) in
    is ∙ ap (λ t. out ++ t) (sym (ap (λ t. fold put t news) none ∙ rising_stays news up)) ∙ made

-- ---- what a range leaves of a chunk

keeps_all : (p : Entry → Bool) (es : List Entry) → ((k : ℕ) (e : Entry) → slice_get es k ≡ Some e → p e ≡ true) → filter p es ≡ es
keeps_all p [] all = refl
keeps_all p (e ∷ es) all = ap (λ b. cond b (e ∷ filter p es) (filter p es)) (all 0 e refl) ∙ ap (λ t. e ∷ t) (keeps_all p es (λ k x is. all (suc k) x is))

not_held_below : (range : HandleRange) (h : ℤ) → h <ℤ range.low → holds range h ≡ false
not_held_below range h less = by (int_le range.low h) refl
  where
    by : (t : Bool) → int_le range.low h ≡ t → (t && is_below h range.high) ≡ false
    by true e = absurd (omega (arith, ints, less))
    by false e = refl

not_held_above : (range : HandleRange) (high h : ℤ) → range.high ≡ Some high → high ≤ℤ h → holds range h ≡ false
not_held_above range high h is le = ap (λ o. int_le range.low h && is_below h o) is ∙ by (int_lt h high) refl
  where
    by : (t : Bool) → int_lt h high ≡ t → (int_le range.low h && t) ≡ false
    by true e = absurd (omega (arith, ints, le))
    by false e = and-false (int_le range.low h)

pub kept_below : (es : List Entry) (range : HandleRange) (last : Entry) → AreRising es → slice_get es (length es - 1) ≡ Some last → last.0.0 <ℤ range.low → cleared es range ≡ es
kept_below es range last up at less =
    keeps_all (λ (entry : Entry). not (holds range entry.0.0)) es
    (λ k e is. ap not (not_held_below range e.0.0 (omega (arith, ints, less, handles_rise es k (length es - 1) e last up (omega (arith, slice_get_within es k e is)) is at))))

pub kept_above : (es : List Entry) (range : HandleRange) (high : ℤ) (first : Entry) → AreRising es → slice_get es 0 ≡ Some first → range.high ≡ Some high → high ≤ℤ first.0.0 → cleared es range ≡ es
kept_above es range high first up at to le =
    keeps_all (λ (entry : Entry). not (holds range entry.0.0)) es
    (λ k e is. ap not (not_held_above range high e.0.0 to (omega (arith, ints, le, handles_rise es 0 k first e up (omega arith) at is))))
