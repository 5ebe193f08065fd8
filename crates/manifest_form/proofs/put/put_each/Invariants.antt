use Rattle.std.proofs.Common.{◌≡◌, ◌++◌, take}
use Rattle.std.specs.List.{All, flat_map}
use Rattle.manifest_form.specs.Spelling as spelling
use Rattle.manifest_form.specs.Spelling.{StoredFits}
use Rattle.manifest_form.proofs.put.put_each.Given as goal

abbrev pub invariant-loop-file : goal.invariant-loop-file
invariant-loop-file l = record {
  bytes : l.into.items ≡ l.initial.into.items ++ flat_map spelling.stored (take l.file-index l.files);
  fits : All StoredFits (take l.file-index l.files);
}
