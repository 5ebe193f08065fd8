use Rattle.std.proofs.Common.{ap, ◌∙◌}
use Rattle.std.specs.BTreeMap.{is_at}
use Rattle.std.specs.Map.{remove_entry}
use Rattle.std.specs.Int.{w64}
use Rattle.std.proofs.lemmas.Int.{to_z-of_z}
use Rattle.committed_log.specs.Store.{value_cmp}
use Rattle.row_store.proofs.store.drop_value.Goals as goal

pub returns : goal.returns
returns c = c.drop_entry.ensures ∙ ap (λ h. remove_entry (is_at (value_cmp (h, c.args.start))) c.args.values.now.items) (to_z-of_z w64 c.args.handle c.ranges.handle)
