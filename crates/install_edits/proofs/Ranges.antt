-- Slots and segments that have the handles of others.
use Rattle.std.proofs.Common.{◌≡◌, ◌∙◌, ℤ, List, [], ◌∷◌, map, Option, Some, refl, sym, ap, subst}
use Rattle.std.proofs.lemmas.Bool.{false≢true}
use Rattle.manifest_laws.specs.Changes.{Runs, TakesOver}
use Rattle.segment_list.specs.Lists.{CoverAlike, CoverTo}
use Rattle.segment_list.specs.Slots.{Slotted}
use Rattle.segment_flush.specs.Names.{stored_of}

module _ {G : Type 0} where
  covers_by_runs : (low : ℤ) (to : Option ℤ) (o : Slotted G) (os : List (Slotted G)) → Runs (Some low) (map stored_of (o ∷ os)) to → CoverTo to low (o ∷ os)
  covers_by_runs low to o [] r = (same_low o.range.low r.0, r.2, r.1)
    where
      same_low : (b : ℤ) → Some low ≡ Some b → b ≡ low
      same_low b e = cc e
  covers_by_runs low to o (t ∷ ts) r = (same_low o.range.low r.0, r.2.0, r.1, covers_by_runs t.range.low to t ts (refl, r.2.1, r.2.2))
    where
      same_low : (b : ℤ) → Some low ≡ Some b → b ≡ low
      same_low b e = cc e

  runs_by_covers : (low : ℤ) (to : Option ℤ) (xs : List (Slotted G)) → CoverTo to low xs → Runs (Some low) (map stored_of xs) to
  runs_by_covers low to [] c = absurd (false≢true c)
  runs_by_covers low to (s ∷ []) c = (ap (λ (z : ℤ). Some z) (sym c.0), c.2, c.1)
  runs_by_covers low to (s ∷ t ∷ more) c = (let rest = runs_by_covers t.range.low to (t ∷ more) c.3 in (ap (λ (z : ℤ). Some z) (sym c.0), c.2, (c.1 ∙ rest.0, rest.1, rest.2)))

  pub takes_over : (o : Slotted G) (os news : List (Slotted G)) → CoverAlike (o ∷ os) news → TakesOver (map stored_of (o ∷ os)) (map stored_of news)
  takes_over o os news alike = λ from to r.
      subst (λ (z : Option ℤ). Runs z (map stored_of news) to) (sym r.0)
      (runs_by_covers o.range.low to news (alike (record { low = o.range.low; high = to }) (covers_by_runs o.range.low to o os (refl, r.1, r.2))))
