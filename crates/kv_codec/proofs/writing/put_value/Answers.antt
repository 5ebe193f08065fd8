use Rattle.std.proofs.Common.{◌∷◌, [], ◌++◌, length, ap, ◌∙◌}
use Rattle.flash_put.proofs.Appending.{more}
use Rattle.kv_codec.proofs.writing.put_value.Goals as goal

pub returns : goal.returns
returns c =
    let value = c.args.value.now in
    let head = c.in_ok-put_bytes.ensures in
    more c.put_bytes-2.result c.args.into.now.items (118 ∷ length value ∷ []) value c.put_bytes.new.into.items c.put_bytes-2.new.into.items head c.put_bytes-2.ensures
