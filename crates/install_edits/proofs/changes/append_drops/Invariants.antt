use Rattle.std.proofs.Common.{◌≡◌, ◌++◌, take}
use Rattle.std.specs.List.{filter_map}
use Rattle.install_edits.specs.Edits.{drop_of}
use Rattle.install_edits.proofs.changes.append_drops.Given as goal

abbrev pub invariant-loop-i : goal.invariant-loop-i
invariant-loop-i g l = l.edits.items ≡ l.fn.edits.items ++ filter_map (drop_of l.news) (take l.i l.olds)
