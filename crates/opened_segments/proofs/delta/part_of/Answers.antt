use Rattle.opened_segments.proofs.Parts.{part_told}
use Rattle.opened_segments.proofs.delta.part_of.Goals as goal

pub returns-in-Tiny-clause-part : goal.returns-in-Tiny-clause-part
returns-in-Tiny-clause-part g c = part_told c.tiny_files_suit.ensures c.args.schema.now c.args.range c.in-Tiny.file c.tiny_part.result c.tiny_part.ensures.tiny
