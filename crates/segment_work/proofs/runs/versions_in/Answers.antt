use Rattle.std.proofs.Common.{◌∙◌, sym, ap, List, ◌++◌}
use Rattle.column_block.specs.declared.cell.Version.{Version}
use Rattle.delta_layer.specs.Overlay.{block_in}
use Rattle.segment_work.proofs.RunPlaces.{run_more}
use Rattle.segment_work.proofs.runs.versions_in.Goals as goal

pub loop-i-preserved : goal.loop-i-preserved
loop-i-preserved c =
    c.in_ok-add_file.ensures
    ∙ ap (λ (vs : List Version). vs ++ block_in c.file.result.now) c.loop-i.invariant
    ∙ sym (run_more c.args.delta.now c.args.from c.loop-i.i c.file.result.now c.loop-i.auto.i c.file.ensures)
