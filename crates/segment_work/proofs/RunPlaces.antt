-- Tiny files side by side, one place more each time.
use Rattle.std.proofs.Common.{◌≡◌, ◌≢◌, ◌∙◌, refl, sym, ap, subst, ℕ, zero, suc, ◌+◌, ◌-◌, ◌<◌, ◌≤◌, Bool, true, false, ◌&&◌, ◌||◌, List, [], ◌∷◌, ◌++◌, Some, None, length, map, take, drop, get_or, arith, add-one, append-nil}
use Rattle.std.specs.Prelude.{slice_get, slice_range}
use Rattle.std.specs.List.{flat_map}
use Rattle.std.proofs.lemmas.Grind.{flat_map-append}
use Rattle.std.proofs.lemmas.List.{map-append}
use Rattle.std.proofs.lemmas.Option.{slice_get-get_or}
use Rattle.column_block.specs.declared.cell.Version.{Version}
use Rattle.column_file.specs.declared.file.ColumnFile.{ColumnFile}
use Rattle.delta_layer.specs.Overlay.{block_in}
use Rattle.segment_laws.specs.Runs.{run_of, tiny_at_place}
use Rattle.segment_list.proofs.Rows.{one_more}
use Rattle.segment_list.specs.Slots.{Slotted, view_of}
use Rattle.segment_work.specs.Jobs.{has_run}

-- ---- the first two

pub has_run_from : (files : List ColumnFile) (i : ℕ) → i < length files → has_run (drop i files) ≡ ((tiny_at_place files i && tiny_at_place files (suc i)) || has_run (drop (suc i) files))
has_run_from [] i within = absurd (omega arith)
has_run_from (f ∷ fs) zero within = refl
has_run_from (f ∷ fs) (suc i) within = has_run_from fs i (omega arith)

-- what two tests of neighbouring places tell
pub both_tiny : (files : List ColumnFile) (i : ℕ) (a b : Bool) → a ≡ tiny_at_place files i → b ≡ tiny_at_place files (i + 1) → a ≡ true → b ≡ true → (tiny_at_place files i && tiny_at_place files (suc i)) ≡ true
both_tiny files i a b x y at bt =
    ap (λ (t : Bool). t && tiny_at_place files (suc i)) (sym x ∙ at) ∙ ap (tiny_at_place files) (sym (add-one i)) ∙ sym y ∙ bt

pub first_other : (files : List ColumnFile) (i : ℕ) (a : Bool) → a ≡ tiny_at_place files i → a ≡ false → (tiny_at_place files i && tiny_at_place files (suc i)) ≡ false
first_other files i a x af = ap (λ (t : Bool). t && tiny_at_place files (suc i)) (sym x ∙ af)

pub second_other : (files : List ColumnFile) (i : ℕ) (a b : Bool) → a ≡ tiny_at_place files i → b ≡ tiny_at_place files (i + 1) → a ≡ true → b ≡ false → (tiny_at_place files i && tiny_at_place files (suc i)) ≡ false
second_other files i a b x y at bf =
    ap (λ (t : Bool). t && tiny_at_place files (suc i)) (sym x ∙ at) ∙ ap (tiny_at_place files) (sym (add-one i)) ∙ sym y ∙ bf

pub run_here : (files : List ColumnFile) (i : ℕ) → i < length files → (tiny_at_place files i && tiny_at_place files (suc i)) ≡ true → has_run (drop i files) ≡ true
run_here files i within both = has_run_from files i within ∙ ap (λ (b : Bool). b || has_run (drop (suc i) files)) both

pub no_run_here : (files : List ColumnFile) (i : ℕ) → i < length files → (tiny_at_place files i && tiny_at_place files (suc i)) ≡ false → has_run (drop i files) ≡ has_run (drop (i + 1) files)
no_run_here files i within not_both = has_run_from files i within ∙ ap (λ (b : Bool). b || has_run (drop (suc i) files)) not_both ∙ ap (λ (n : ℕ). has_run (drop n files)) (sym (add-one i))

-- ---- their versions

get_from : {X : Type 0} (files : List X) (from k : ℕ) → slice_get (drop from files) k ≡ slice_get files (from + k)
get_from files zero k = let e : k ≡ 0 + k = omega arith in ap (slice_get files) e
get_from [] (suc from) k = refl
get_from (f ∷ fs) (suc from) k = let e : suc (from + k) ≡ suc from + k = omega arith in get_from fs from k ∙ ap (slice_get (f ∷ fs)) e

pub run_more : (files : List ColumnFile) (from i : ℕ) (f : ColumnFile) → from ≤ i → slice_get files i ≡ Some f → run_of files from (i + 1) ≡ run_of files from i ++ block_in f
run_more files from i f order at =
    let next : (i + 1) - from ≡ suc (i - from) = omega arith in
    let place : from + (i - from) ≡ i = omega arith in
    let here : slice_get (drop from files) (i - from) ≡ Some f = get_from files from (i - from) ∙ ap (slice_get files) place ∙ at in
    ap (λ (n : ℕ). flat_map block_in (take n (drop from files))) next
    ∙ ap (flat_map block_in) (one_more (drop from files) (i - from) f here)
    ∙ flat_map-append block_in (take (i - from) (drop from files)) (f ∷ [])
    ∙ ap (λ (vs : List Version). run_of files from i ++ vs) (append-nil (block_in f))

-- ---- views of slots, one more each time

pub views_more : {G : Type 0} (slots : List (Slotted G)) (place i : ℕ) (s : Slotted G) → place ≤ i → i < length slots → s ≡ get_or slots i s → map view_of (take ((i + 1) - place) (drop place slots)) ≡ map view_of (take (i - place) (drop place slots)) ++ view_of s ∷ []
views_more slots place i s order within at =
    let next : (i + 1) - place ≡ suc (i - place) = omega arith in
    let same : place + (i - place) ≡ i = omega arith in
    let here : slice_get (drop place slots) (i - place) ≡ Some s = get_from slots place (i - place) ∙ ap (slice_get slots) same ∙ slice_get-get_or slots i s within ∙ ap Some (sym at) in
    ap (λ (n : ℕ). map view_of (take n (drop place slots))) next
    ∙ ap (map view_of) (one_more (drop place slots) (i - place) s here)
    ∙ map-append view_of (take (i - place) (drop place slots)) (s ∷ [])
