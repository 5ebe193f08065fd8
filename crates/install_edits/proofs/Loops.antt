-- One more of a list in a loop.
use Rattle.std.proofs.Common.{◌≡◌, ◌∙◌, ℕ, ◌+◌, List, [], ◌∷◌, ◌++◌, map, take, Option, Some, sym, ap, add-one, append_assoc}
use Rattle.std.specs.Prelude.{slice_get}
use Rattle.std.specs.List.{filter_map}
use Rattle.std.proofs.lemmas.List.{map-append}
use Rattle.std.proofs.lemmas.List.Elements.{filter_map-append}
use Rattle.segment_flush.proofs.Planned.{one_more}

pub more_chosen : {X Y : Type 0} (f : X → Option Y) (xs : List X) (i : ℕ) (x : X) (old now new : List Y) → slice_get xs i ≡ Some x → now ≡ old ++ filter_map f (take i xs) → new ≡ now ++ filter_map f (x ∷ []) → new ≡ old ++ filter_map f (take (i + 1) xs)
more_chosen {Y = Y} f xs i x old now new there so_far more =
    more ∙ ap (λ (ys : List Y). ys ++ filter_map f (x ∷ [])) so_far ∙ append_assoc old (filter_map f (take i xs)) (filter_map f (x ∷ []))
    ∙ ap (λ (ys : List Y). old ++ ys) (sym (rw add-one (ap (filter_map f) (one_more xs i x there)) ∙ filter_map-append f (take i xs) (x ∷ [])))

pub more_mapped : {X Y Z : Type 0} (f : X → Y) (g : Y → Z) (xs : List X) (i : ℕ) (x : X) (old now new : List Z) → slice_get xs i ≡ Some x → now ≡ old ++ map g (map f (take i xs)) → new ≡ now ++ map g (map f (x ∷ [])) → new ≡ old ++ map g (map f (take (i + 1) xs))
more_mapped {Z = Z} f g xs i x old now new there so_far more =
    more ∙ ap (λ (zs : List Z). zs ++ map g (map f (x ∷ []))) so_far ∙ append_assoc old (map g (map f (take i xs))) (map g (map f (x ∷ [])))
    ∙ ap (λ (zs : List Z). old ++ zs) (sym (rw add-one (ap (λ (ys : List _). map g (map f ys)) (one_more xs i x there)) ∙ ap (map g) (map-append f (take i xs) (x ∷ [])) ∙ map-append g (map f (take i xs)) (map f (x ∷ []))))
