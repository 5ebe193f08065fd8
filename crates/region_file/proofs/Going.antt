-- Writing the items of an iteration one after the other.
use Rattle.std.proofs.Common.{◌≡◌, ◌∙◌, sym, ap, subst, ℕ, zero, suc, List, [], ◌∷◌, ◌++◌, length, take, append_assoc, arith}
use Rattle.std.proofs.lemmas.List.{append-nil}
use Rattle.std.specs.List.{All, flat_map}
use Rattle.flash_put.proofs.Appending.{kept}

pub all_cons : {X : Type 0} (P : X → Type 0) (x : X) (xs : List X) → P x → All P xs → All P (x ∷ xs)
all_cons P x xs one others zero d lt = one
all_cons P x xs one others (suc k) d lt = others k d (omega (arith, lt))

pub all_head : {X : Type 0} (P : X → Type 0) (x : X) (xs : List X) → All P (x ∷ xs) → P x
all_head P x xs all = all 0 x (omega arith)

pub all_tail : {X : Type 0} (P : X → Type 0) (x : X) (xs : List X) → All P (x ∷ xs) → All P xs
all_tail P x xs all = λ k d lt. all (suc k) d (omega (arith, lt))

-- the items up to the rest were written behind what was there
pub record Going {X : Type 0} (f : X → List ℕ) (P : X → Type 0) (all : List X) (old : List ℕ) (rest : List X) (into : List ℕ) : Type 0 where
  pub done : List ℕ
  pub is : into ≡ old ++ done
  pub parts : done ++ flat_map f rest ≡ flat_map f all
  pub fits : All P rest → All P all

module _ {X : Type 0} (f : X → List ℕ) (P : X → Type 0) (all : List X) (old : List ℕ) where
  pub starts : (rest : List X) → rest ≡ all → Going f P all old rest old
  starts rest same = record {
    done = [];
    is = sym (append-nil old);
    parts = ap (flat_map f) same;
    fits = λ those. subst (All P) same those;
  }

  pub goes_on : (rest more : List X) (x : X) (into new : List ℕ) → Going f P all old rest into → rest ≡ x ∷ more → new ≡ into ++ f x → P x → Going f P all old more new
  goes_on rest more x into new g steps written one = record {
    done = g.done ++ f x;
    is = written ∙ ap (λ (l : List ℕ). l ++ f x) g.is ∙ append_assoc old g.done (f x);
    parts = append_assoc g.done (f x) (flat_map f more) ∙ ap (λ (l : List X). g.done ++ flat_map f l) (sym steps) ∙ g.parts;
    fits = λ those. g.fits (subst (All P) (sym steps) (all_cons P x more one those));
  }

  pub fails : (rest : List X) (into new : List ℕ) → Going f P all old rest into → take (length into) new ≡ into → take (length old) new ≡ old
  fails rest into new g part = kept old g.done into new g.is part

  pub ends : (rest : List X) (into : List ℕ) → Going f P all old rest into → rest ≡ [] → into ≡ old ++ flat_map f all
  ends rest into g none = g.is ∙ ap (λ (l : List ℕ). old ++ l) (sym (append-nil g.done) ∙ ap (λ (l : List X). g.done ++ flat_map f l) (sym none) ∙ g.parts)

  pub ends_fit : (rest : List X) (into : List ℕ) → Going f P all old rest into → rest ≡ [] → All P all
  ends_fit rest into g none = g.fits (subst (All P) (sym none) (λ k d lt. absurd (omega (arith, lt))))
