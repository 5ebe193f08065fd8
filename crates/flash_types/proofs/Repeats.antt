-- Regions that differ, one after the other.
use Rattle.std.proofs.Common.{◌≡◌, ℕ, suc, ◌+◌, ◌<◌, ◌≤◌, List, [], ◌∷◌, ◌++◌, length, take, get_or, sym, subst, ap, ◌∙◌, arith}
use Rattle.std.proofs.Math.Seq.{take-suc}
use Rattle.std.proofs.lemmas.List.{take_all, get_or_default}
use Rattle.std.proofs.lemmas.List.Quantifiers.{all_pairs_push}
use Rattle.std.specs.Prelude.{◌≢◌}
use Rattle.flash_types.specs.declared.ask.AskRegion.{AskRegion}
use Rattle.flash_types.specs.Asks.{AreDistinct, Names}

-- a region whose id stands in none before it
pub one_more : (regions : List AskRegion) (place : ℕ) (d : AskRegion) → place < length regions → AreDistinct (take place regions)
    → (Names (take place regions) (get_or regions place d).region → ⊥) → AreDistinct (take (place + 1) regions)
one_more regions place d lt before new =
    let next : place + 1 ≡ suc place = omega arith in
    let grown : take (place + 1) regions ≡ take place regions ++ (get_or regions place d ∷ []) = ap (λ n. take n regions) next ∙ take-suc regions place d lt in
    subst AreDistinct (sym grown) (all_pairs_push (λ (a b : AskRegion). a.region ≢ b.region) (take place regions) (get_or regions place d) before
    (λ k e within same. new (k, get_or (take place regions) k e, within, get_or_default (take place regions) k (get_or (take place regions) k e) e within, same)))

pub all_of_them : (regions : List AskRegion) (place : ℕ) → length regions ≤ place → AreDistinct (take place regions) → AreDistinct regions
all_of_them regions place past distinct = subst AreDistinct (take_all place regions past) distinct
