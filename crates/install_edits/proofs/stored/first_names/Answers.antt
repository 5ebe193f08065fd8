use Rattle.std.proofs.Common.{◌∙◌, ◌++◌, ◌∷◌, [], List, ap, sym}
use Rattle.std.specs.List.{filter_map}
use Rattle.manifest_form.specs.declared.state.StoredFile.{StoredFile}
use Rattle.segment_flush.specs.Names.{name_of}
use Rattle.segment_flush.proofs.Planned.{names_more}
use Rattle.install_edits.proofs.stored.first_names.Goals as goal

pub loop-i-preserved : goal.loop-i-preserved
loop-i-preserved c =
    c.in_ok-append_name.ensures
    ∙ ap (λ (r : List StoredFile). r ++ filter_map name_of (c.file.result.now ∷ [])) c.loop-i.invariant
    ∙ sym (names_more c.args.layer.now c.loop-i.i c.file.result.now c.file.ensures)
