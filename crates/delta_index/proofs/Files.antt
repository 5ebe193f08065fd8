-- The entries of a file one by one, and the order of what is left of an index.
use Rattle.std.proofs.Common.{◌≡◌, ◌∙◌, sym, ap, subst, ℕ, ℤ, ◌+◌, ◌<◌, Bool, true, false, cond, not, List, [], ◌∷◌, ◌++◌, length, map, filter, fold, take, get_or, slice_get, Some, arith}
use Rattle.std.proofs.lemmas.List.{take_more, map-append, length-take-le}
use Rattle.std.proofs.lemmas.List.Sums.{fold-append}
use Rattle.std.proofs.lemmas.Option.{slice_get-get_or}
use Rattle.std.specs.List.{enumerate_from}
use Rattle.std.specs.List.Sorted.{IsStrictlySortedBy}
use Rattle.column_block.specs.declared.cell.Version.{Version}
use Rattle.flash_types.specs.Ranges.{holds}
use Rattle.flash_types.specs.declared.range.HandleRange.{HandleRange}
use Rattle.delta_index.specs.Indexes.{Entry, put, entry_of, entries_of, extended, cleared, AreRising}
use Rattle.delta_index.specs.Chunks.{AreAbove}
use Rattle.delta_index.proofs.Puts.{rising_all, rising_none, own_first}

enumerate_more : (n : ℕ) (vs : List Version) (v : Version) → enumerate_from n (vs ++ v ∷ []) ≡ enumerate_from n vs ++ (n + length vs, v) ∷ []
enumerate_more n [] v = let e : n ≡ n + 0 = omega arith in ap (λ m. (m, v) ∷ []) e
enumerate_more n (x ∷ vs) v =
    let e : n + 1 + length vs ≡ n + length (x ∷ vs) = omega arith in
    ap (λ t. (n, x) ∷ t) (enumerate_more (n + 1) vs v ∙ ap (λ m. enumerate_from (n + 1) vs ++ (m, v) ∷ []) e)

taken : (vs : List Version) (i : ℕ) (v : Version) → i < length vs → slice_get vs i ≡ Some v → take (i + 1) vs ≡ take i vs ++ v ∷ []
taken vs i v lt is = let same : get_or vs i v ≡ v = cc (is, slice_get-get_or vs i v lt) in take_more vs i v lt ∙ ap (λ t. take i vs ++ t ∷ []) same

with_last : (number : ℕ) (es : List Entry) (vs : List Version) (v : Version) → extended es number (vs ++ v ∷ []) ≡ put (extended es number vs) (entry_of number (length vs, v))
with_last number es vs v =
    ap (λ t. fold put es (map (entry_of number) t)) (enumerate_more 0 vs v)
    ∙ ap (fold put es) (map-append (entry_of number) (enumerate_from 0 vs) ((0 + length vs, v) ∷ []))
    ∙ fold-append put es (entries_of number vs) (entry_of number (0 + length vs, v) ∷ [])
    ∙ ap (λ m. put (extended es number vs) (entry_of number (m, v))) all_of_them
  where
    all_of_them : 0 + length vs ≡ length vs
    all_of_them = omega arith

-- one more version of a file
pub one_more : (number : ℕ) (vs : List Version) (i : ℕ) (v : Version) (before after : List Entry) → i < length vs → slice_get vs i ≡ Some v
    → before ≡ extended [] number (take i vs) → after ≡ put before ((v.handle, v.ts), (number, i)) → after ≡ extended [] number (take (i + 1) vs)
one_more number vs i v before after lt is so_far step =
    let n : length (take i vs) ≡ i = length-take-le i vs (omega arith) in
    step ∙ ap (λ t. put t ((v.handle, v.ts), (number, i))) so_far
    ∙ ap (λ m. put (extended [] number (take i vs)) (entry_of number (m, v))) (sym n)
    ∙ sym (ap (extended [] number) (taken vs i v lt is) ∙ with_last number [] (take i vs) v)

-- ---- the order

pub rising_empty : (es : List Entry) → es ≡ [] → AreRising es
rising_empty es is = subst AreRising (sym is) rising_none

pub rising_file : (number : ℕ) (vs : List Version) (es : List Entry) → es ≡ extended [] number vs → AreRising es
rising_file number vs es is = subst AreRising (sym is) (rising_all [] (entries_of number vs) rising_none)

pub rising_by : (es file all : List Entry) → AreRising es → all ≡ fold put es file → AreRising all
rising_by es file all up is = subst AreRising (sym is) (rising_all es file up)

pub extended_by : (es file all : List Entry) (number : ℕ) (vs : List Version) → file ≡ extended [] number vs → all ≡ fold put es file → all ≡ extended es number vs
extended_by es file all number vs own is = is ∙ ap (fold put es) own ∙ own_first es (entries_of number vs)

module _ (p : Entry → Bool) where
  above_filter : (l : ℤ × ℕ) (es : List Entry) → AreAbove l es → AreAbove l (filter p es)
  above_filter l [] a = tt
  above_filter l (e ∷ es) a = elim (p e) as (λ b. AreAbove l (cond b (e ∷ filter p es) (filter p es))) [ true ↦ (a.0, above_filter l es a.1) | false ↦ above_filter l es a.1 ]

  rising_filter : (es : List Entry) → AreRising es → AreRising (filter p es)
  unfolding IsStrictlySortedBy
  rising_filter [] up = up
  rising_filter (e ∷ es) up = elim (p e) as (λ b. AreRising (cond b (e ∷ filter p es) (filter p es))) [ true ↦ (above_filter e.0 es up.0, rising_filter es up.1) | false ↦ rising_filter es up.1 ]

pub rising_left : (es left : List Entry) (range : HandleRange) → AreRising es → left ≡ cleared es range → AreRising left
rising_left es left range up is = subst AreRising (sym is) (rising_filter (λ (entry : Entry). not (holds range entry.0.0)) es up)
