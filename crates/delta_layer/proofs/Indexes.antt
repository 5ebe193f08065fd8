-- The indexes of a layer as its files come and go.
use Rattle.std.proofs.Common.{◌≡◌, ◌∙◌, ◌⊎◌, inl, inr, refl, sym, ap, subst, ℕ, zero, suc, ◌+◌, ◌<◌, ◌≤◌, List, [], ◌∷◌, ◌++◌, length, take, fold, Some, slice_get, arith, length-append, length-take-le}
use Rattle.std.proofs.lemmas.List.{map-append, take-append-le, take-map, take-take, take_all, take_at}
use Rattle.std.proofs.lemmas.List.Sums.{fold-append}
use Rattle.std.specs.List.{enumerate_from}
use Rattle.column_file.specs.declared.file.ColumnFile.{ColumnFile}
use Rattle.delta_index.specs.Indexes.{Entry}
use Rattle.delta_layer.specs.Files.{IsLayered, indexed, with_file, index_of}
use Rattle.std.specs.Arc.{arc_value}
use Rattle.delta_layer.specs.Slots.{AreSlots, files_in, indexes_in}
use Rattle.delta_layer.specs.declared.slots.Slot.{Slot}
use Rattle.delta_layer.proofs.Pairs.{pairs_none}
use Rattle.delta_layer.proofs.Layers.{Before, front_is_layered}

pub get_left : {X : Type 0} (xs ys : List X) (i : ℕ) → i < length xs → slice_get (xs ++ ys) i ≡ slice_get xs i
get_left [] ys i lt = absurd (omega (arith, lt))
get_left (x ∷ xs) ys zero lt = refl
get_left (x ∷ xs) ys (suc i) lt = get_left xs ys i (omega (arith, lt))

pub get_last : {X : Type 0} (xs : List X) (x : X) → slice_get (xs ++ x ∷ []) (length xs) ≡ Some x
get_last [] x = refl
get_last (y ∷ xs) x = get_last xs x

pub get_take : {X : Type 0} (n : ℕ) (xs : List X) (i : ℕ) → i < n → slice_get (take n xs) i ≡ slice_get xs i
get_take zero xs i lt = absurd (omega (arith, lt))
get_take (suc n) [] i lt = refl
get_take (suc n) (x ∷ xs) zero lt = refl
get_take (suc n) (x ∷ xs) (suc i) lt = get_take n xs i (omega (arith, lt))

pub enumerate_more : {X : Type 0} (n : ℕ) (xs : List X) (x : X) → enumerate_from n (xs ++ x ∷ []) ≡ enumerate_from n xs ++ (n + length xs, x) ∷ []
enumerate_more n [] x = let e : n ≡ n + 0 = omega arith in ap (λ m. (m, x) ∷ []) e
enumerate_more n (y ∷ xs) x =
    let e : n + 1 + length xs ≡ n + length (y ∷ xs) = omega arith in
    ap (λ t. (n, y) ∷ t) (enumerate_more (n + 1) xs x ∙ ap (λ m. enumerate_from (n + 1) xs ++ (m, x) ∷ []) e)

pub index_more : (files : List ColumnFile) (f : ColumnFile) → index_of (files ++ f ∷ []) ≡ indexed (length files) (index_of files) f
index_more files f =
    let e : 0 + length files ≡ length files = omega arith in
    ap (fold with_file []) (enumerate_more 0 files f)
    ∙ fold-append with_file [] (enumerate_from 0 files) ((0 + length files, f) ∷ [])
    ∙ ap (λ n. indexed n (index_of files) f) e

pub slots_none : (files : List ColumnFile) (indexes : List (List Entry)) → files ≡ [] → indexes ≡ [] → AreSlots files indexes
slots_none [] [] e f = record { layered = pairs_none Before; count = refl; each = λ i lt. absurd (omega (arith, lt)) }
slots_none [] (x ∷ indexes) e f = cc f
slots_none (g ∷ files) indexes e f = cc e

pub slots_more : (files : List ColumnFile) (indexes : List (List Entry)) (f : ColumnFile) (index : List Entry) → AreSlots files indexes → IsLayered (files ++ f ∷ []) → index ≡ indexed (length files) (index_of files) f
    → AreSlots (files ++ f ∷ []) (indexes ++ index ∷ [])
slots_more files indexes f index s layered is = record {
  layered = layered;
  count = length-append indexes (index ∷ []) ∙ ap (λ n. n + 1) s.count ∙ sym (length-append files (f ∷ []));
  each = λ i lt. by i (cases i (omega (arith, lt, length-append files (f ∷ []))));
}
  where
    cases : (i : ℕ) → i < length files + 1 → (i < length files) ⊎ (i ≡ length files)
    cases i lt = grind arith

    by : (i : ℕ) → (i < length files) ⊎ (i ≡ length files) → slice_get (indexes ++ index ∷ []) i ≡ Some (index_of (take (i + 1) (files ++ f ∷ [])))
    by i (inl lt) = get_left indexes (index ∷ []) i (omega (arith, lt, s.count)) ∙ s.each i lt ∙ ap (λ fs. Some (index_of fs)) (sym (take-append-le (i + 1) files (f ∷ []) (omega (arith, lt))))
    by i (inr same) =
        ap (slice_get (indexes ++ index ∷ [])) (same ∙ sym s.count) ∙ get_last indexes index
        ∙ ap (λ x. Some x) (is ∙ sym (index_more files f))
        ∙ ap (λ fs. Some (index_of fs)) (sym (take_all (i + 1) (files ++ f ∷ []) (omega (arith, same, length-append files (f ∷ [])))))

pub slots_take : (files : List ColumnFile) (indexes : List (List Entry)) (n : ℕ) → n ≤ length files → AreSlots files indexes → AreSlots (take n files) (take n indexes)
slots_take files indexes n le s = record {
  layered = front_is_layered files n s.layered;
  count = length-take-le n indexes (omega (arith, le, s.count)) ∙ sym (length-take-le n files le);
  each = λ i lt. at i (omega (arith, lt, length-take-le n files le));
}
  where
    at : (i : ℕ) → i < n → slice_get (take n indexes) i ≡ Some (index_of (take (i + 1) (take n files)))
    at i lt = get_take n indexes i lt ∙ s.each i (omega (arith, lt, le)) ∙ ap (λ fs. Some (index_of fs)) (sym (take-take (i + 1) n files (omega (arith, lt))))

-- the layer without its last file
pub slots_less : (files : List ColumnFile) (indexes : List (List Entry)) (f : ColumnFile) (index : List Entry) → AreSlots (files ++ f ∷ []) (indexes ++ index ∷ []) → AreSlots files indexes
slots_less files indexes f index s =
    let n : length indexes ≡ length files = omega (arith, s.count, length-append indexes (index ∷ []), length-append files (f ∷ [])) in
    let part = slots_take (files ++ f ∷ []) (indexes ++ index ∷ []) (length files) (omega (arith, length-append files (f ∷ []))) s in
    subst (λ xs. AreSlots xs indexes) (take_at files (f ∷ []) (length files) refl) (subst (λ xs. AreSlots (take (length files) (files ++ f ∷ [])) xs) (take_at indexes (index ∷ []) (length files) n) part)

-- the last index is that over all files
pub last_index : (files : List ColumnFile) (indexes : List (List Entry)) (i : ℕ) → i + 1 ≡ length files → AreSlots files indexes → slice_get indexes i ≡ Some (index_of files)
last_index files indexes i last s = s.each i (omega (arith, last)) ∙ ap (λ fs. Some (index_of fs)) (take_all (i + 1) files (omega (arith, last)))

-- ---- the slots themselves

abbrev file_in : Slot → ColumnFile
file_in slot = arc_value slot.file

abbrev index_in : Slot → List Entry
index_in slot = arc_value slot.index

pub slots_push : (old new : List Slot) (slot : Slot) (f : ColumnFile) (index : List Entry) → AreSlots (files_in old) (indexes_in old) → IsLayered (files_in old ++ f ∷ []) → index ≡ indexed (length (files_in old)) (index_of (files_in old)) f
    → new ≡ old ++ slot ∷ [] → arc_value slot.file ≡ f → arc_value slot.index ≡ index → AreSlots (files_in new) (indexes_in new)
slots_push old new slot f index s layered is added file_is index_is =
    let files : files_in new ≡ files_in old ++ f ∷ [] = ap files_in added ∙ map-append file_in old (slot ∷ []) ∙ ap (λ x. files_in old ++ x ∷ []) file_is in
    let indexes : indexes_in new ≡ indexes_in old ++ index ∷ [] = ap indexes_in added ∙ map-append index_in old (slot ∷ []) ∙ ap (λ x. indexes_in old ++ x ∷ []) index_is in
    subst (λ fs. AreSlots fs (indexes_in new)) (sym files) (subst (AreSlots (files_in old ++ f ∷ [])) (sym indexes) (slots_more (files_in old) (indexes_in old) f index s layered is))

pub slots_pop : (old new : List Slot) (slot : Slot) → old ≡ new ++ slot ∷ [] → AreSlots (files_in old) (indexes_in old) → AreSlots (files_in new) (indexes_in new)
slots_pop old new slot is s =
    let files : files_in old ≡ files_in new ++ file_in slot ∷ [] = ap files_in is ∙ map-append file_in new (slot ∷ []) in
    let indexes : indexes_in old ≡ indexes_in new ++ index_in slot ∷ [] = ap indexes_in is ∙ map-append index_in new (slot ∷ []) in
    slots_less (files_in new) (indexes_in new) (file_in slot) (index_in slot) (subst (AreSlots (files_in new ++ file_in slot ∷ [])) indexes (subst (λ fs. AreSlots fs (indexes_in old)) files s))

pub slots_front : (slots copy : List Slot) (n : ℕ) → n ≤ length (files_in slots) → AreSlots (files_in slots) (indexes_in slots) → files_in copy ≡ files_in (take n slots) → indexes_in copy ≡ indexes_in (take n slots) → AreSlots (files_in copy) (indexes_in copy)
slots_front slots copy n le s files indexes =
    subst (λ fs. AreSlots fs (indexes_in copy)) (sym (files ∙ sym (take-map file_in n slots))) (subst (AreSlots (take n (files_in slots))) (sym (indexes ∙ sym (take-map index_in n slots))) (slots_take (files_in slots) (indexes_in slots) n le s))
