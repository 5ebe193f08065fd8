use Rattle.column_codec.proofs.SpelledLists.{lists_spelled}
use Rattle.pack_codec.proofs.lists.any_of.Goals as goal

pub returns-in-Ok-clause-len : goal.returns-in-Ok-clause-len
returns-in-Ok-clause-len c = (lists_spelled c.args.kind c.args.count c.args.bytes.now c.in-Ok.list (λ i. (c.type_inv.bytes i).fits) c.in-Ok.ensures).is_count
