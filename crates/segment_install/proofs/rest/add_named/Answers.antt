use Rattle.std.proofs.Common.{◌∙◌, sym, ap, List}
use Rattle.std.specs.Prelude.{slice_get}
use Rattle.column_file.specs.declared.file.ColumnFile.{ColumnFile}
use Rattle.segment_install.proofs.Running.{no_tiny_from}
use Rattle.segment_install.proofs.rest.add_named.Goals as goal

pub add_named-requires-clause-no_tiny : goal.add_named-requires-clause-no_tiny
add_named-requires-clause-no_tiny g c = λ k f le there. no_tiny_from c.args.slot.now.files c.args.taken k f c.requires.no_tiny le (ap (λ (files : List ColumnFile). slice_get files k) (sym c.layer.ensures) ∙ there)
