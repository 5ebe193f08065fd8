use Rattle.std.proofs.Common.{◌≡◌, ◌+◌, map, take, slice_get, get_or, length, ◌<◌, Some, ap, sym, arith, subst, List}
use Rattle.std.proofs.lemmas.List.{length-map}
use Rattle.std.specs.Arc.{arc_value}
use Rattle.column_block.specs.declared.cell.Version.{Version}
use Rattle.column_block.proofs.Lists.{one_more}
use Rattle.column_block.proofs.block.Block.permuted.Goals as goal

pub loop-place-preserved : goal.loop-place-preserved
loop-place-preserved c =
    let within : get_or c.args.order.now c.loop-place.place-index 0 < length c.self.inside.versions.items = omega (arith, c.requires c.loop-place.place-index (omega arith), ap length c.self.view_is, length-map c.self.inside.versions.items arc_value) in
    let step = one_more arc_value c.self.inside.versions.items c.args.order.now c.loop-place.place-index (map arc_value c.loop-place.versions.items) (map arc_value c.share.new.into.items) c.index.result.now (omega arith) within c.index.ensures in
    let P : List Version → Type 0 = λ all. map Some (map arc_value c.loop-place.versions.items) ≡ map (slice_get all) (take c.loop-place.place-index c.args.order.now) in
    let Q : List Version → Type 0 = λ all. map Some (map arc_value c.share.new.into.items) ≡ map (slice_get all) (take (c.loop-place.place-index + 1) c.args.order.now) in
    subst Q c.self.view_is (step (subst P (sym c.self.view_is) c.loop-place.invariant) c.in_ok-share.ensures.ok)
