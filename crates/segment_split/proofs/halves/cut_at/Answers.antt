use Rattle.std.proofs.Common.{◌≡◌, to_z, of_z, w64, subst, ℤ, take, drop, true, false, int_lt}
use Rattle.std.specs.List.{AllByRecursion}
use Rattle.std.proofs.lemmas.Int.{to_z-of_z}
use Rattle.column_block.specs.declared.cell.Version.{Version}
use Rattle.segment_split.proofs.Cut.{at_place}
use Rattle.segment_split.proofs.halves.cut_at.Goals as goal

pub returns : goal.returns
returns c =
    let back : to_z w64 (of_z w64 c.args.at) ≡ c.args.at = to_z-of_z w64 c.args.at c.ranges.at in
    at_place c.args.range.now c.args.at c.args.block.now c.in-Ok.low c.in-Ok-slice.high c.first_from-place.result c.len.result c.len.ensures c.in-Ok.ensures c.in-Ok-slice.ensures c.requires.rise c.requires.within
    (subst (λ (h : ℤ). AllByRecursion (λ (v : Version). int_lt v.handle h ≡ true) (take c.first_from-place.result c.args.block.now)) back c.first_from-place.ensures.below)
    (subst (λ (h : ℤ). AllByRecursion (λ (v : Version). int_lt v.handle h ≡ false) (drop c.first_from-place.result c.args.block.now)) back c.first_from-place.ensures.from)
