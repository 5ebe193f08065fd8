use Rattle.std.proofs.Common.{SFits, w64, sym, refl}
use Rattle.std.proofs.lemmas.Int.{to_z-of_z}
use Rattle.stable_file.specs.Footer as footer
use Rattle.stable_file.proofs.footer.handles_of.Goals as goal

pub returns-clause-exact : goal.returns-clause-exact
unfolding footer.handles_at
returns-clause-exact c =
    let low : SFits w64 c.in_ok-low.low = c.in_ok-low.ensures.fits in
    let high : SFits w64 c.in_ok-high.high = c.in_ok-high.ensures.fits in
    let greatest = simp to_z-of_z at c.in_ok-high.ensures.exact in
    simp to_z-of_z (rw (sym c.in_ok-low.ensures.exact, sym greatest) refl)
