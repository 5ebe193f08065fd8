use Rattle.std.specs.Int.{w64, to_be_bytes}
use Rattle.flash_put.proofs.Appending.{more}
use Rattle.log_codec.proofs.write.put_epoch.Goals as goal

pub returns : goal.returns
returns c = more c.put_u64-2.result c.args.into.now.items (to_be_bytes w64 c.args.conf_ver) (to_be_bytes w64 c.args.version) c.put_u64.new.into.items c.put_u64-2.new.into.items c.in_ok-put_u64.ensures c.put_u64-2.ensures
