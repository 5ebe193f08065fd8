use Rattle.std.proofs.Common.{◌∷◌, []}
use Rattle.std.specs.Int.{w64, to_be_bytes}
use Rattle.flash_put.proofs.Appending.{more}
use Rattle.region_file.proofs.put.put_gone.Goals as goal

pub returns-clause-bytes : goal.returns-clause-bytes
returns-clause-bytes c = more c.put_u64.result c.args.into.now.items (3 ∷ []) (to_be_bytes w64 c.args.index) c.put_u8.new.into.items c.put_u64.new.into.items c.in_ok-put_u8.ensures c.put_u64.ensures
