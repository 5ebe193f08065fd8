use Rattle.std.proofs.Common.{◌≡◌, ℕ, List, refl, sym, subst, rules}
use Rattle.std.specs.Prelude.{Contains}
use Rattle.flash_io.specs.Image.{Image, IsThere}
use Rattle.store_cases.proofs.opening.content.Goals as goal

pub read_whole-requires : goal.read_whole-requires
read_whole-requires g c = record {
  there = λ tells.
      let list = c.in-Ok.list.items in
      let file = c.args.file in
      let is : c.as_slice.result.now ≡ list = search rules in
      let has : Contains list file = subst (λ (l : List ℕ). Contains l file) is (c.if-not-lists.ensures refl) in
      subst (λ (image : Image). IsThere image file) (sym c.list.ensures.untouched.same) ((c.in-Ok.ensures.each tells file).0 has);
}
