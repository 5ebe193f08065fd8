use Rattle.std.proofs.Common.{◌≡◌, drop}
use Rattle.manifest_form.specs.Counting.{top_from}
use Rattle.manifest_form.proofs.tops.top_from.Given as goal

abbrev pub invariant-loop-file : goal.invariant-loop-file
invariant-loop-file l = top_from l.top (drop l.file-index l.files) ≡ top_from l.least l.files
