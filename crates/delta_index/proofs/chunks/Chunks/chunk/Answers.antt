use Rattle.std.proofs.Common.{rules, ◌≡◌, ◌<◌, ap, sym, subst, length, arith}
use Rattle.std.proofs.lemmas.List.{length-map}
use Rattle.std.specs.Arc.{arc_value}
use Rattle.delta_index.specs.Chunks.{IsSized}
use Rattle.delta_index.proofs.Pieces.{sized_item}
use Rattle.delta_index.proofs.chunks.Chunks.chunk.Goals as goal

pub returns-clause-sized : goal.returns-clause-sized
returns-clause-sized c =
    let same : c.as_slice.result.now ≡ arc_value c.index.result.now = search rules in
    let lt : c.args.j < length c.self.inside.chunks.items = omega (arith, c.requires, ap length c.self.view_is, length-map c.self.inside.chunks.items arc_value) in
    subst IsSized (sym same) (sized_item arc_value c.self.inside.chunks.items c.args.j c.index.result.now c.self.invariant.sized lt c.index.ensures)
