-- Writing items one after the other.
use Rattle.std.proofs.Common.{◌≡◌, ℕ, suc, ◌+◌, ◌<◌, List, [], ◌∷◌, ◌++◌, length, take, get_or, sym, ap, ◌∙◌, subst, append_assoc, arith}
use Rattle.std.specs.List.{All, flat_map}
use Rattle.std.proofs.Math.Seq.{take-suc}
use Rattle.std.proofs.lemmas.List.{append-nil}
use Rattle.std.proofs.lemmas.List.Elements.{All-push}

pub flat_map_push : {X : Type 0} (f : X → List ℕ) (xs : List X) (x : X) → flat_map f (xs ++ x ∷ []) ≡ flat_map f xs ++ f x
flat_map_push f [] x = append-nil (f x)
flat_map_push f (y ∷ xs) x = ap (λ (l : List ℕ). f y ++ l) (flat_map_push f xs x) ∙ sym (append_assoc (f y) (flat_map f xs) (f x))

module _ {X : Type 0} (P : X → Type 0) (f : X → List ℕ) (xs : List X) (i : ℕ) (x d : X) (is : x ≡ get_or xs i d) (within : i < length xs) where
  grown : take (i + 1) xs ≡ take i xs ++ x ∷ []
  grown = let next : i + 1 ≡ suc i = omega arith in ap (λ n. take n xs) next ∙ take-suc xs i d within ∙ ap (λ y. take i xs ++ y ∷ []) (sym is)

  pub one_more : (old mid new : List ℕ) → mid ≡ old ++ flat_map f (take i xs) → new ≡ mid ++ f x → new ≡ old ++ flat_map f (take (i + 1) xs)
  one_more old mid new before now = now ∙ ap (λ (l : List ℕ). l ++ f x) before ∙ append_assoc old (flat_map f (take i xs)) (f x) ∙ ap (λ (l : List ℕ). old ++ l) (sym (ap (flat_map f) grown ∙ flat_map_push f (take i xs) x))

  pub all_more : All P (take i xs) → P x → All P (take (i + 1) xs)
  all_more before now = subst (All P) (sym grown) (All-push P (take i xs) x before now)
