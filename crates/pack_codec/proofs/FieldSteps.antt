-- Going over the versions from one place up to but without another.
use Rattle.std.proofs.Common.{◌≡◌, ℕ, ◌+◌, ◌-◌, ◌<◌, ◌≤◌, List, [], ◌∷◌, ◌++◌, length, map, drop, get_or, slice_get, slice_range, Some, refl, sym, ap, ◌∙◌, arith, length-drop, length-take}
use Rattle.std.proofs.lemmas.List.{take_more, get_or-drop, map-append}
use Rattle.std.proofs.lemmas.Option.{slice_get-get_or}
use Rattle.std.specs.List.{AllByRecursion}

some_is : {X : Type 0} (x y : X) → Some x ≡ Some y → x ≡ y
some_is x y h = cc

range_more : {X Y : Type 0} (f : X → Y) (xs : List X) (from i : ℕ) (x : X) → from ≤ i → i < length xs → slice_get xs i ≡ Some x → map f (slice_range xs from (i + 1)) ≡ map f (slice_range xs from i) ++ f x ∷ []
range_more f xs from i x le lt got =
    let k : i + 1 - from ≡ i - from + 1 = omega arith in
    let sum : from + (i - from) ≡ i = omega arith in
    let at : get_or (drop from xs) (i - from) x ≡ x = get_or-drop from xs (i - from) x ∙ ap (λ n. get_or xs n x) sum ∙ some_is (get_or xs i x) x (sym (slice_get-get_or xs i x lt) ∙ got) in
    let within : i - from < length (drop from xs) = omega (arith, length-drop from xs) in
    let more = take_more (drop from xs) (i - from) x within in
    rw (k, more, map-append, at) refl

-- a list of some field, one version longer
pub list_next : {X Y : Type 0} (f : X → Y) (xs : List X) (from i : ℕ) (x : X) (y : Y) (list new : List Y) → from ≤ i → i < length xs → slice_get xs i ≡ Some x → y ≡ f x → new ≡ list ++ y ∷ []
    → list ≡ map f (slice_range xs from i) → new ≡ map f (slice_range xs from (i + 1))
list_next f xs from i x y list new le lt got is added so_far =
    added ∙ ap (λ (ys : List _). ys ++ y ∷ []) so_far ∙ ap (λ (z : _). map f (slice_range xs from i) ++ z ∷ []) is ∙ sym (range_more f xs from i x le lt got)

pub range_len : {X : Type 0} (xs : List X) (from to : ℕ) → from ≤ to → to ≤ length xs → length (slice_range xs from to) ≡ to - from
range_len xs from to le within = omega (arith, length-take (to - from) (drop from xs), length-drop from xs)

pub all_more : {X : Type 0} (P : X → Type 0) (xs : List X) (x : X) → AllByRecursion P xs → P x → AllByRecursion P (xs ++ x ∷ [])
all_more P [] x all h = (h, tt)
all_more P (y ∷ xs) x all h = (all.0, all_more P xs x all.1 h)
