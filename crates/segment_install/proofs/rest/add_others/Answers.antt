use Rattle.std.proofs.Common.{◌∙◌, sym, ap, List, arith}
use Rattle.std.specs.Prelude.{slice_get}
use Rattle.column_file.specs.declared.file.ColumnFile.{ColumnFile}
use Rattle.segment_install.proofs.Running.{no_tiny_from}
use Rattle.segment_install.proofs.rest.add_others.Goals as goal

pub add-requires-clause-no_tiny : goal.add-requires-clause-no_tiny
add-requires-clause-no_tiny g c = λ k f le there. no_tiny_from c.args.slot.now.files c.args.taken k f c.requires.no_tiny (omega (arith, le, c.greater-from.ensures)) (ap (λ (files : List ColumnFile). slice_get files k) (sym c.layer.ensures) ∙ there)
