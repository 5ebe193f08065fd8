-- Versions by their places, and the steps of the loops over them.
use Rattle.std.proofs.Common.{◌≡◌, ◌∙◌, refl, sym, ap, subst, ℕ, zero, suc, ◌+◌, ◌-◌, ◌<◌, ◌≤◌, Bool, true, false, cond, List, [], ◌∷◌, ◌++◌, length, map, take, drop, filter, slice_get, slice_range, get_or, Option, Some, arith, append_assoc}
use Rattle.std.proofs.lemmas.List.{drop-drop, drop_all, take-append-drop, append-nil}
use Rattle.std.proofs.lemmas.List.Elements.{filter_map-append, filter-append, All-push, All-nil}
use Rattle.std.specs.List.{cons_option, prefix_len}
use Rattle.std.proofs.lemmas.Option.{slice_get-get_or}
use Rattle.column_block.specs.declared.cell.Version.{Version}
use Rattle.column_block.specs.Order.{is_before}
use Rattle.delta_layer.specs.Overlay.{picked, ArePlaces, count_before, own, merged}

pub drop_here : {X : Type 0} (xs : List X) (i : ℕ) (x : X) → slice_get xs i ≡ Some x → drop i xs ≡ x ∷ drop (i + 1) xs
drop_here [] i x e = cc e
drop_here (y ∷ xs) zero x e = (let same : y ≡ x = cc e in ap (λ z. z ∷ xs) same)
drop_here (y ∷ xs) (suc i) x e = (let n : suc i + 1 ≡ suc (i + 1) = omega arith in drop_here xs i x e ∙ ap (λ k. x ∷ drop k (y ∷ xs)) (sym n))

pub one_taken : {X : Type 0} (xs : List X) (i : ℕ) → take 1 (drop i xs) ≡ cons_option (slice_get xs i) []
one_taken [] zero = refl
one_taken [] (suc i) = refl
one_taken (x ∷ xs) zero = refl
one_taken (x ∷ xs) (suc i) = one_taken xs i

pub take_split : {X : Type 0} (m n : ℕ) (xs : List X) → take (m + n) xs ≡ take m xs ++ take n (drop m xs)
take_split zero n xs = (let e : 0 + n ≡ n = omega arith in ap (λ k. take k xs) e)
take_split {X = X} (suc m) n [] = (let e : suc m + n ≡ suc (m + n) = omega arith in ap (λ k. take {A = X} k []) e ∙ sym (none n))
  where
    none : (n : ℕ) → take {A = X} n [] ≡ []
    none zero = refl
    none (suc n) = refl
take_split (suc m) n (x ∷ xs) = (let e : suc m + n ≡ suc (m + n) = omega arith in ap (λ k. take k (x ∷ xs)) e ∙ ap (λ t. x ∷ t) (take_split m n xs))

-- a run of places with one more
pub run_more : {X : Type 0} (xs : List X) (from to : ℕ) → from ≤ to → slice_range xs from (to + 1) ≡ slice_range xs from to ++ cons_option (slice_get xs to) []
run_more xs from to le =
    let n : to + 1 - from ≡ to - from + 1 = omega (arith, le) in
    let m : from + (to - from) ≡ to = omega (arith, le) in
    ap (λ k. take k (drop from xs)) n ∙ take_split (to - from) 1 (drop from xs)
    ∙ ap (λ t. slice_range xs from to ++ take 1 t) (drop-drop (to - from) from xs ∙ ap (λ k. drop k xs) m)
    ∙ ap (λ t. slice_range xs from to ++ t) (one_taken xs to)

pub take_more : {X : Type 0} (xs : List X) (i : ℕ) → take (i + 1) xs ≡ take i xs ++ cons_option (slice_get xs i) []
take_more xs i = take_split i 1 xs ∙ ap (λ t. take i xs ++ t) (one_taken xs i)

pub run_none : {X : Type 0} (xs : List X) (from : ℕ) → slice_range xs from from ≡ []
run_none xs from = (let e : from - from ≡ 0 = omega arith in ap (λ k. take k (drop from xs)) e)

pub picked_more : (all : List Version) (places : List ℕ) (place : ℕ) → picked all (places ++ place ∷ []) ≡ picked all places ++ cons_option (slice_get all place) []
picked_more all places place = filter_map-append (slice_get all) places (place ∷ [])

pub places_more : (all : List Version) (places : List ℕ) (place : ℕ) → place < length all → ArePlaces all places → ArePlaces all (places ++ place ∷ [])
places_more all places place lt are = All-push (λ (p : ℕ). p < length all) places place are lt

pub places_none : (all : List Version) → ArePlaces all []
places_none all = All-nil (λ (p : ℕ). p < length all)

-- what a run of places adds, place by place
pub run_step : (all : List Version) (before places more : List ℕ) (from place : ℕ) → from ≤ place → picked all places ≡ picked all before ++ slice_range all from place → more ≡ places ++ place ∷ []
    → picked all more ≡ picked all before ++ slice_range all from (place + 1)
run_step all before places more from place le so_far is =
    ap (picked all) is ∙ picked_more all places place ∙ ap (λ t. t ++ cons_option (slice_get all place) []) so_far
    ∙ append_assoc (picked all before) (slice_range all from place) (cons_option (slice_get all place) [])
    ∙ ap (λ t. picked all before ++ t) (sym (run_more all from place le))

-- a block from its places
pub block_is : (all block : List Version) (places : List ℕ) → map {A = Version} {B = Option Version} Some block ≡ map (slice_get all) places → block ≡ picked all places
block_is all [] [] e = refl
block_is all [] (p ∷ places) e = cc e
block_is all (v ∷ block) [] e = cc e
block_is all (v ∷ block) (p ∷ places) e =
    let first : Some v ≡ slice_get all p = cc e in
    let rest : map {A = Version} {B = Option Version} Some block ≡ map (slice_get all) places = cc e in
    ap (λ t. v ∷ t) (block_is all block places rest) ∙ ap (λ o. cons_option o (picked all places)) first

-- ---- how many in front pass a test

module _ {X : Type 0} (p : X → Bool) where
  pub prefix_on : (xs : List X) (i : ℕ) (x : X) → slice_get xs i ≡ Some x → p x ≡ true → i + prefix_len p (drop i xs) ≡ i + 1 + prefix_len p (drop (i + 1) xs)
  prefix_on xs i x at is =
      let step : prefix_len p (drop i xs) ≡ 1 + prefix_len p (drop (i + 1) xs) = ap (prefix_len p) (drop_here xs i x at) ∙ ap (λ b. cond b (1 + prefix_len p (drop (i + 1) xs)) 0) is in
      omega (arith, step)

  pub prefix_stop : (xs : List X) (i : ℕ) (x : X) → slice_get xs i ≡ Some x → p x ≡ false → i + prefix_len p (drop i xs) ≡ i
  prefix_stop xs i x at is =
      let step : prefix_len p (drop i xs) ≡ 0 = ap (prefix_len p) (drop_here xs i x at) ∙ ap (λ b. cond b (1 + prefix_len p (drop (i + 1) xs)) 0) is in
      omega (arith, step)

  pub prefix_end : (xs : List X) (i : ℕ) → length xs ≤ i → i + prefix_len p (drop i xs) ≡ i
  prefix_end xs i le =
      let step : prefix_len p (drop i xs) ≡ 0 = ap (prefix_len p) (drop_all i xs le) in
      omega (arith, step)

-- ---- an old version and the newer ones before it

pub own_at_end : (v : Version) (all : List Version) (to : ℕ) → length all ≤ to → own v (drop to all) ≡ v ∷ []
own_at_end v all to le = ap (own v) (drop_all to all le)

pub own_here : (v : Version) (all : List Version) (to : ℕ) (w : Version) → slice_get all to ≡ Some w → own v (drop to all) ≡ cond (is_before v w) (v ∷ []) []
own_here v all to w at = ap (own v) (drop_here all to w at)

pub both_added : (all : List Version) (before run places : List ℕ) (v : Version) (old from to : ℕ) (b : Bool) → slice_get all old ≡ Some v → picked all run ≡ picked all before ++ slice_range all from to
    → own v (drop to all) ≡ cond b (v ∷ []) [] → places ≡ cond b (run ++ old ∷ []) run → picked all places ≡ picked all before ++ (slice_range all from to ++ own v (drop to all))
both_added all before run places v old from to true at so_far is added =
    ap (picked all) added ∙ picked_more all run old ∙ (λ i. so_far i ++ cons_option (at i) [])
    ∙ append_assoc (picked all before) (slice_range all from to) (v ∷ [])
    ∙ ap (λ t. picked all before ++ (slice_range all from to ++ t)) (sym is)
both_added all before run places v old from to false at so_far is added =
    ap (picked all) added ∙ so_far
    ∙ ap (λ t. picked all before ++ t) (sym (append-nil (slice_range all from to)) ∙ ap (λ t. slice_range all from to ++ t) (sym is))

-- one step of the merge: an old version at place i of the old ones
pub merge_step : (all total : List Version) (olds places more : List ℕ) (i k to old : ℕ) (v : Version) → slice_get olds i ≡ Some old → slice_get all old ≡ Some v → to ≡ k + count_before v (drop k all)
    → picked all places ++ merged (picked all (drop i olds)) (drop k all) ≡ total
    → picked all more ≡ picked all places ++ (slice_range all k to ++ own v (drop to all))
    → picked all more ++ merged (picked all (drop (i + 1) olds)) (drop to all) ≡ total
merge_step all total olds places more i k to old v here at is so_far added =
    let rest = picked all (drop (i + 1) olds) in
    let news = drop k all in
    let n = count_before v (drop k all) in
    let first : picked all (drop i olds) ≡ v ∷ rest = ap (picked all) (drop_here olds i old here) ∙ ap (λ o. cons_option o rest) at in
    let run : slice_range all k to ≡ take n news = (let e : to - k ≡ n = omega (arith, is) in ap (λ m. take m news) e) in
    let back : drop to all ≡ drop n news = ap (λ m. drop m all) is ∙ sym (drop-drop n k all) in
    let step : picked all places ++ (slice_range all k to ++ own v (drop to all)) ++ merged rest (drop to all) ≡ picked all places ++ merged (v ∷ rest) news =
    append_assoc (picked all places) (slice_range all k to ++ own v (drop to all)) (merged rest (drop to all))
    ∙ ap (λ t. picked all places ++ t)
    (append_assoc (slice_range all k to) (own v (drop to all)) (merged rest (drop to all))
    ∙ (λ j. run j ++ (own v (back j) ++ merged rest (back j)))) in
    ap (λ t. t ++ merged rest (drop to all)) added ∙ step ∙ ap (λ t. picked all places ++ merged t news) (sym first) ∙ so_far

pub merge_end : (all total : List Version) (olds places more : List ℕ) (i k : ℕ) → length olds ≤ i → picked all places ++ merged (picked all (drop i olds)) (drop k all) ≡ total → picked all more ≡ picked all places ++ slice_range all k (length all) → k ≤ length all → picked all more ≡ total
merge_end all total olds places more i k past so_far added le =
    let rest : picked all (drop i olds) ≡ [] = ap (picked all) (drop_all i olds past) in
    let run : slice_range all k (length all) ≡ drop k all = sym (append-nil (slice_range all k (length all))) ∙ ap (λ t. slice_range all k (length all) ++ t) (sym (drop_all (length all) all (omega arith))) ∙ sym (whole k (length all) le) in
    added ∙ ap (λ t. picked all places ++ t) run ∙ ap (λ t. picked all places ++ merged t (drop k all)) (sym rest) ∙ so_far
  where
    whole : (from to : ℕ) → from ≤ to → drop from all ≡ slice_range all from to ++ drop to all
    whole from to le =
        let sum : from + (to - from) ≡ to = omega (arith, le) in
        sym (take-append-drop (to - from) (drop from all)) ∙ ap (λ t. slice_range all from to ++ t) (drop-drop (to - from) from all ∙ ap (λ n. drop n all) sum)

-- one more version that a filter keeps or leaves
pub filter_step : (all : List Version) (p : Version → Bool) (places : List ℕ) (i : ℕ) (v : Version) (b : Bool) (more : List ℕ) → slice_get all i ≡ Some v → p v ≡ b → picked all places ≡ filter p (take i all) → more ≡ cond b (places ++ i ∷ []) places
    → picked all more ≡ filter p (take (i + 1) all)
filter_step all p places i v true more at is so_far added =
    ap (picked all) added ∙ picked_more all places i ∙ (λ j. so_far j ++ cons_option (at j) [])
    ∙ sym (ap (filter p) (take_more all i ∙ ap (λ o. take i all ++ cons_option o []) at) ∙ filter-append p (take i all) (v ∷ []) ∙ ap (λ b. filter p (take i all) ++ cond b (v ∷ []) []) is)
filter_step all p places i v false more at is so_far added =
    ap (picked all) added ∙ so_far ∙ sym (append-nil (filter p (take i all)))
    ∙ sym (ap (filter p) (take_more all i ∙ ap (λ o. take i all ++ cons_option o []) at) ∙ filter-append p (take i all) (v ∷ []) ∙ ap (λ b. filter p (take i all) ++ cond b (v ∷ []) []) is)

pub one_version : (xs : List Version) (i : ℕ) (v : Version) → slice_get xs i ≡ Some v → slice_range xs i (i + 1) ≡ v ∷ []
one_version xs i v at =
    let n : i + 1 - i ≡ 1 = omega arith in
    ap (λ k. take k (drop i xs)) n ∙ one_taken xs i ∙ ap (λ o. cons_option o []) at

pub places_if : (all : List Version) (places more : List ℕ) (place : ℕ) (b : Bool) → place < length all → more ≡ cond b (places ++ place ∷ []) places → ArePlaces all places → ArePlaces all more
places_if all places more place true lt is are = subst (ArePlaces all) (sym is) (places_more all places place lt are)
places_if all places more place false lt is are = subst (ArePlaces all) (sym is) are

pub one_item : {X : Type 0} (xs : List X) (i : ℕ) (d : X) → i < length xs → slice_get xs i ≡ Some (get_or xs i d)
one_item xs i d lt = slice_get-get_or xs i d lt
