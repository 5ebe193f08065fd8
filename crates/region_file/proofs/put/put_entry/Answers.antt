use Rattle.std.specs.Int.{w32, to_be_bytes}
use Rattle.flash_put.proofs.Appending.{more}
use Rattle.region_file.specs.Spelling as spelling
use Rattle.region_file.proofs.put.put_entry.Goals as goal

pub returns-clause-bytes : goal.returns-clause-bytes
unfolding spelling.entry
returns-clause-bytes c = more c.put_body.result c.args.into.now.items (to_be_bytes w32 c.args.id) (spelling.body c.args.entry.now) c.put_u32.new.into.items c.put_body.new.into.items c.in_ok-put_u32.ensures c.put_body.ensures.bytes
