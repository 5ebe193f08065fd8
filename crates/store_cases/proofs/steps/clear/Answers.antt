use Rattle.std.proofs.Common.{◌≡◌, ℕ, Bool, false, List, [], sym, subst, rules}
use Rattle.std.specs.Prelude.{Contains}
use Rattle.flash_io.specs.Image.{Image, IsThere}
use Rattle.manifest.specs.declared.store.Manifest.{Manifest}
use Rattle.replica_store.specs.Naming.{is_named}
use Rattle.store_cases.proofs.Strays.{unnamed}
use Rattle.store_cases.proofs.steps.clear.Goals as goal

pub remove-requires-clause-there : goal.remove-requires-clause-there
remove-requires-clause-there g c = λ tells.
    let strays = c.in_ok-strays.strays.items in
    let is : c.as_slice.result.now ≡ strays = search rules in
    let file = c.in-Some.stray in
    let has : Contains strays file = subst (λ (l : List ℕ). Contains l file) is c.in-Some.ensures in
    subst (λ (image : Image). IsThere image file) (sym c.strays.ensures.untouched.same) ((c.in_ok-strays.ensures.each tells file).0 has).0

pub remove-requires-clause-unnamed : goal.remove-requires-clause-unnamed
remove-requires-clause-unnamed g c =
    let m = c.args.store.now.manifest in
    let strays = c.in_ok-strays.strays.items in
    let is : c.as_slice.result.now ≡ strays = search rules in
    let file = c.in-Some.stray in
    let has : Contains strays file = subst (λ (l : List ℕ). Contains l file) is c.in-Some.ensures in
    subst (λ (m : Manifest). is_named m.file m.state file ≡ false) (sym c.strays.ensures.named.manifest) (unnamed m.file m.state [] file (c.in_ok-strays.ensures.stray file has))
