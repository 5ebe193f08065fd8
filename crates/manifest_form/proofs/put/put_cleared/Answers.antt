use Rattle.std.proofs.Common.{◌∷◌, []}
use Rattle.manifest_form.specs.Spelling as spelling
use Rattle.flash_put.proofs.Appending.{more}
use Rattle.manifest_form.proofs.put.put_cleared.Goals as goal

pub returns-clause-bytes : goal.returns-clause-bytes
returns-clause-bytes c = more c.put_span.result c.args.into.now.items (2 ∷ []) (spelling.range c.args.range.now) c.put_u8.new.into.items c.put_span.new.into.items c.in_ok-put_u8.ensures c.put_span.ensures.bytes
