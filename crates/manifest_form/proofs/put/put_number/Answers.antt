use Rattle.std.proofs.Common.{◌∷◌, []}
use Rattle.std.specs.Int.{w64, to_be_bytes}
use Rattle.flash_put.proofs.Appending.{more}
use Rattle.manifest_form.proofs.put.put_number.Goals as goal

pub returns : goal.returns
returns c = more c.put_u64.result c.args.into.now.items (c.args.kind ∷ []) (to_be_bytes w64 c.args.number) c.put_u8.new.into.items c.put_u64.new.into.items c.in_ok-put_u8.ensures c.put_u64.ensures
