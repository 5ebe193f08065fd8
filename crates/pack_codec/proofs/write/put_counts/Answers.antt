use Rattle.std.specs.Int.{w16, w64, to_be_bytes}
use Rattle.flash_put.proofs.Appending.{more}
use Rattle.pack_codec.specs.Spelling.{counts}
use Rattle.pack_codec.proofs.write.put_counts.Goals as goal

pub returns-clause-bytes : goal.returns-clause-bytes
unfolding counts
returns-clause-bytes c = more c.put_u16.result c.args.into.now.items (to_be_bytes w64 c.args.versions) (to_be_bytes w16 c.args.columns) c.put_u64.new.into.items c.put_u16.new.into.items c.in_ok-put_u64.ensures c.put_u16.ensures
