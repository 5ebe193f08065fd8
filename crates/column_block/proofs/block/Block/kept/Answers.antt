use Rattle.std.proofs.Common.{◌≡◌, ◌∙◌, ap, sym, map, filter, take, ◌++◌, ◌∷◌, [], List, Vec, Global, to_z, of_z, w64, arith}
use Rattle.std.specs.Arc.{arc_value}
use Rattle.std.specs.declared.sync.Arc.{Arc}
use Rattle.column_block.specs.declared.cell.Version.{Version}
use Rattle.column_block.specs.Handles.{lies_in}
use Rattle.column_block.proofs.Kept.{kept_next, passed_over}
use Rattle.column_block.proofs.block.Block.kept.Goals as goal
use Rattle.column_block.proofs.block.Block.kept.Goals.{then-lies_in+in_ok-share, else-lies_in}

pub loop-one-preserved : goal.loop-one-preserved
loop-one-preserved c =
    let view = ap (map arc_value) c.as_slice-one-items.ensures.value ∙ c.self.view_is in
    elim c.if-lies_in.branch [
      | then-lies_in+in_ok-share w ↦
          ap (λ (v : Vec (Arc Version Global) Global). map arc_value v.items) w.versions-is
          ∙ w.in_ok-share.ensures.ok
          ∙ ap (λ (vs : List Version). vs ++ arc_value c.one-item.result ∷ []) c.loop-one.invariant
          ∙ ap (λ (v : Version). filter (lies_in (to_z w64 (of_z w64 c.args.low)) c.args.high) (take c.loop-one.one-index c.args.self.now) ++ v ∷ []) (sym c.deref.ensures)
          ∙ kept_next arc_value (lies_in (to_z w64 (of_z w64 c.args.low)) c.args.high) c.as_slice-one-items.result.now c.args.self.now c.loop-one.one-index c.one-item.result c.deref.result.now view (omega (arith, c.loop-one-test.true)) c.one-item.is c.deref.ensures (sym w.if-lies_in.ensures)
      | else-lies_in w ↦
          ap (λ (v : Vec (Arc Version Global) Global). map arc_value v.items) w.versions-is
          ∙ c.loop-one.invariant
          ∙ passed_over arc_value (lies_in (to_z w64 (of_z w64 c.args.low)) c.args.high) c.as_slice-one-items.result.now c.args.self.now c.loop-one.one-index c.one-item.result c.deref.result.now view (omega (arith, c.loop-one-test.true)) c.one-item.is c.deref.ensures (sym w.if-lies_in.ensures)
    ]
