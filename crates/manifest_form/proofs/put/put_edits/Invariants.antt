use Rattle.std.proofs.Common.{◌≡◌, ◌++◌, take}
use Rattle.std.specs.List.{All, flat_map}
use Rattle.manifest_form.specs.Spelling as spelling
use Rattle.manifest_form.specs.Spelling.{EditFits}
use Rattle.manifest_form.proofs.put.put_edits.Given as goal

abbrev pub invariant-loop-edit : goal.invariant-loop-edit
invariant-loop-edit l = record {
  bytes : l.into.items ≡ l.initial.into.items ++ flat_map spelling.edit (take l.edit-index l.edits);
  fits : All EditFits (take l.edit-index l.edits);
}
