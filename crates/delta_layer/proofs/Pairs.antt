-- What holds of each element and each later one, in two lists and in both together.
use Rattle.std.proofs.Common.{List, [], ◌∷◌, ◌++◌, arith}
use Rattle.std.specs.List.{All, AllPairs}
use Rattle.std.proofs.lemmas.List.Elements.{All-nil, All-cons, All-head, All-tail, All-append}
use Rattle.std.proofs.lemmas.List.Kept.{AllPairs-cons}
use Rattle.good_replica.proofs.Commits.{pairs_first, pairs_rest}

module _ {X : Type 0} where
  pub all_left : (P : X → Type 0) (xs ys : List X) → All P (xs ++ ys) → All P xs
  all_left P [] ys all = All-nil P
  all_left P (x ∷ xs) ys all = All-cons P x xs (All-head P x (xs ++ ys) all) (all_left P xs ys (All-tail P x (xs ++ ys) all))

  pub all_right : (P : X → Type 0) (xs ys : List X) → All P (xs ++ ys) → All P ys
  all_right P [] ys all = all
  all_right P (x ∷ xs) ys all = all_right P xs ys (All-tail P x (xs ++ ys) all)

  module _ (R : X → X → Type 0) where
    pub pairs_none : AllPairs R []
    pairs_none = λ i j d less low. absurd (omega (arith, low))

    pub pairs_left : (xs ys : List X) → AllPairs R (xs ++ ys) → AllPairs R xs
    pairs_left [] ys all = pairs_none
    pairs_left (x ∷ xs) ys all = AllPairs-cons R x xs (all_left (R x) xs ys (pairs_first R x (xs ++ ys) all)) (pairs_left xs ys (pairs_rest R x (xs ++ ys) all))

    pub pairs_right : (xs ys : List X) → AllPairs R (xs ++ ys) → AllPairs R ys
    pairs_right [] ys all = all
    pairs_right (x ∷ xs) ys all = pairs_right xs ys (pairs_rest R x (xs ++ ys) all)

    pub pairs_cross : (xs ys : List X) → AllPairs R (xs ++ ys) → All (λ (x : X). All (R x) ys) xs
    pairs_cross [] ys all = All-nil (λ (x : X). All (R x) ys)
    pairs_cross (x ∷ xs) ys all = All-cons (λ (x : X). All (R x) ys) x xs (all_right (R x) xs ys (pairs_first R x (xs ++ ys) all)) (pairs_cross xs ys (pairs_rest R x (xs ++ ys) all))

    pub pairs_both : (xs ys : List X) → AllPairs R xs → AllPairs R ys → All (λ (x : X). All (R x) ys) xs → AllPairs R (xs ++ ys)
    pairs_both [] ys a b cross = b
    pairs_both (x ∷ xs) ys a b cross =
        AllPairs-cons R x (xs ++ ys) (All-append (R x) xs ys (pairs_first R x xs a) (All-head (λ (x : X). All (R x) ys) x xs cross))
        (pairs_both xs ys (pairs_rest R x xs a) b (All-tail (λ (x : X). All (R x) ys) x xs cross))
