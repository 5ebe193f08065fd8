-- Faults of files that are opened one after the other.
use Rattle.std.proofs.Common.{◌≡◌, ◌≢◌, ◌∙◌, ◌⊎◌, inl, inr, ℕ, ◌+◌, ◌<◌, Bool, true, false, List, [], ◌∷◌, ◌++◌, length, take, drop, Option, Some, None, Result, Ok, Err, refl, sym, ap, subst, arith, add-one}
use Rattle.std.specs.Prelude.{◌||◌, ◌==◌, ◌↔◌, if◌then◌else◌, Contains, IfOk}
use Rattle.std.specs.List.{cons_option, flat_map, slice_get}
use Rattle.std.proofs.Math.Seq.{drop-cons}
use Rattle.std.proofs.lemmas.Grind.{flat_map-append}
use Rattle.std.proofs.lemmas.List.{take-append-drop}
use Rattle.std.proofs.lemmas.Option.{get_or_from_slice_get, slice_get_within}
use Rattle.committed_log.proofs.Closed.{same_is}
use Rattle.delta_layer.proofs.Places.{take_more}
use Rattle.manifest.proofs.Listed.{not_there}
use Rattle.flash_io.specs.Image.{Image, Holds, IsThere}
use Rattle.pack_codec.specs.declared.fault.FormError.{FormError}
use Rattle.opened_segments.specs.Faults.{IsFaultOf, IsFirst, Judges, data_faults, data_in, reading_faults}
use Rattle.opened_segments.specs.Tails.{IsOutside}
use Rattle.opened_segments.specs.declared.fault.OpenFault.{OpenFault}
use Rattle.opened_segments.specs.declared.fault.OpenFault.TheVariants.{Damaged, Device, Memory}

-- a fault of the first files is one of all
pub fault_first : (a b : List OpenFault) (e : OpenFault) → IsFaultOf a e → IsFaultOf (a ++ b) e
fault_first a b (Damaged file at) h = (h.0 ++ b, ap (λ (xs : List OpenFault). xs ++ b) h.1)
fault_first a b Device h = tt
fault_first a b Memory h = tt

-- where the first files have none, a fault of the others is one of all
pub fault_then : (a b : List OpenFault) (e : OpenFault) → a ≡ [] → IsFaultOf b e → IsFaultOf (a ++ b) e
fault_then a b e none h = subst (λ (xs : List OpenFault). IsFaultOf (xs ++ b) e) (sym none) h

pub none_both : (a b : List OpenFault) → a ≡ [] → b ≡ [] → a ++ b ≡ []
none_both a b none also = ap (λ (xs : List OpenFault). xs ++ b) none ∙ also

-- one that isn't for what was read
pub fault_outside : (faults : List OpenFault) (e : OpenFault) → IsOutside e → IsFaultOf faults e
fault_outside faults (Damaged file at) h = absurd h
fault_outside faults Device h = tt
fault_outside faults Memory h = tt

-- ---- files of data

module _ (own : ℕ) (c : Image) where
  pub data_there : (file : ℕ) → file ≢ 0 → file ≢ own → data_in own c file ≡ c file
  data_there file apart other = by (file == 0) (file == own) refl refl
    where
      by : (x y : Bool) → (file == 0) ≡ x → (file == own) ≡ y → (if x || y then None else c file) ≡ c file
      by true y is also = absurd (apart (grind (arith, is)))
      by false true is also = absurd (other (grind (arith, also)))
      by false false is also = refl

  pub data_root : (file : ℕ) → file ≡ 0 → data_in own c file ≡ None
  data_root file is = by (file == 0) (file == own) (ap (λ (n : ℕ). n == 0) is)
    where
      by : (x y : Bool) → x ≡ true → (if x || y then None else c file) ≡ None
      by true y also = refl
      by false y also = absurd (cc also)

  pub data_own : (file : ℕ) → file ≡ own → data_in own c file ≡ None
  data_own file is = by (file == 0) (file == own) (ap (λ (n : ℕ). n == own) is ∙ same_is own)
    where
      by : (x y : Bool) → y ≡ true → (if x || y then None else c file) ≡ None
      by true y also = refl
      by false true also = refl
      by false false also = absurd (cc also)

  pub data_lost : (file : ℕ) → c file ≡ None → data_in own c file ≡ None
  data_lost file lost = by (file == 0 || file == own)
    where
      by : (x : Bool) → (if x then None else c file) ≡ None
      by true = refl
      by false = lost

  -- bytes of data are those of the file, which is neither the root nor the manifest's
  pub data_has : (file : ℕ) (bytes : List ℕ) → data_in own c file ≡ Some bytes → (file ≢ 0) × (file ≢ own) × Holds c file bytes
  data_has file bytes is = (
    (λ root. absurd (cc (sym (data_root file root) ∙ is))),
    (λ same. absurd (cc (sym (data_own file same) ∙ is))),
    by (file == 0 || file == own) is,
  )
    where
      by : (x : Bool) → (if x then None else c file) ≡ Some bytes → Holds c file bytes
      by true h = absurd (cc h)
      by false h = h

  -- what is wrong with bytes of data
  pub data_read : {X : Type 0} (read : List ℕ → Result X FormError) (file : ℕ) (bytes : List ℕ) → data_in own c file ≡ Some bytes → data_faults read file (data_in own c file) ≡ reading_faults file (read bytes)
  data_read read file bytes is = ap (data_faults read file) is

  pub lost_first : {X : Type 0} (read : List ℕ → Result X FormError) (file : ℕ) → data_in own c file ≡ None → IsFirst (Damaged file 0) (data_faults read file (data_in own c file))
  lost_first read file is = ([], ap (data_faults read file) is)

  pub data_absent : (list : List ℕ) (file : ℕ) → ((f : ℕ) → Contains list f ↔ IsThere c f) → (file ≡ 0) ⊎ ((file ≡ own) ⊎ (Contains list file → ⊥)) → data_in own c file ≡ None
  data_absent list file each (inl root) = data_root file root
  data_absent list file each (inr (inl same)) = data_own file same
  data_absent list file each (inr (inr out)) = data_lost file (not_there c file (λ there. out ((each file).1 there)))

pub one_content : (c : Image) (file : ℕ) (content other : List ℕ) → Holds c file content → Holds c file other → content ≡ other
one_content c file content other here there = cc (sym here ∙ there)

-- what holds of the one value that a call may give holds of what it gives
pub ok_so : {X E : Type 0} (r : Result X E) (x : X) → IfOk r (λ y. y ≡ x) → (P : X → Type 0) → P x → IfOk r P
ok_so (Ok y) x is P holds = subst P (sym is) holds
ok_so (Err e) x is P holds = tt

pub if_ok_on : {X E : Type 0} (r : Result X E) (P Q : X → Type 0) → ((x : X) → P x → Q x) → IfOk r P → IfOk r Q
if_ok_on (Ok x) P Q step is = step x is
if_ok_on (Err e) P Q step is = tt

-- ---- one after the other

pub take_one : {X : Type 0} (xs : List X) (i : ℕ) (x : X) → slice_get xs i ≡ Some x → take (i + 1) xs ≡ take i xs ++ x ∷ []
take_one xs i x here = take_more xs i ∙ ap (λ (o : Option _). take i xs ++ cons_option o []) here

pub drop_here : {X : Type 0} (xs : List X) (i : ℕ) (x : X) → slice_get xs i ≡ Some x → drop i xs ≡ x ∷ drop (i + 1) xs
drop_here xs i x here =
    let less : i < length xs = slice_get_within xs i x here in
    drop-cons xs i x less ∙ (λ k. get_or_from_slice_get xs i x x here k ∷ drop (sym (add-one i) k) xs)

module _ {X : Type 0} (f : X → List OpenFault) (xs : List X) (i : ℕ) (x : X) (here : slice_get xs i ≡ Some x) where
  parted : flat_map f xs ≡ flat_map f (take i xs) ++ (f x ++ flat_map f (drop (i + 1) xs))
  parted = ap (flat_map f) (sym (take-append-drop i xs)) ∙ flat_map-append f (take i xs) (drop i xs) ∙ ap (λ (r : List X). flat_map f (take i xs) ++ flat_map f r) (drop_here xs i x here)

  -- a fault of one is the first of all, where those before it have none
  pub fault_at : (e : OpenFault) → flat_map f (take i xs) ≡ [] → IsFaultOf (f x) e → IsFaultOf (flat_map f xs) e
  fault_at e none h =
      subst (λ (all : List OpenFault). IsFaultOf all e) (sym parted)
      (fault_then (flat_map f (take i xs)) (f x ++ flat_map f (drop (i + 1) xs)) e none (fault_first (f x) (flat_map f (drop (i + 1) xs)) e h))

  pub none_more : flat_map f (take i xs) ≡ [] → f x ≡ [] → flat_map f (take (i + 1) xs) ≡ []
  none_more none also =
      ap (flat_map f) (take_more xs i ∙ ap (λ (o : Option X). take i xs ++ cons_option o []) here) ∙ flat_map-append f (take i xs) (x ∷ [])
      ∙ none_both (flat_map f (take i xs)) (f x ++ []) none (ap (λ (ys : List OpenFault). ys ++ []) also)
