use Rattle.std.proofs.Common.{length, ◌++◌, ap, ◌∙◌}
use Rattle.std.specs.Int.{w32, to_be_bytes}
use Rattle.log_codec.specs.Spelling as spelling
use Rattle.flash_put.proofs.Appending.{more}
use Rattle.log_codec.proofs.write.put_frame.Goals as goal

pub returns : goal.returns
unfolding spelling.frame
returns c =
    let payload = spelling.payload c.args.entry.now in
    more c.put_payload.result c.args.into.now.items (to_be_bytes w32 (length payload)) payload c.put_u32.new.into.items c.put_payload.new.into.items (c.in_ok-put_u32.ensures ∙ ap (λ n. c.args.into.now.items ++ to_be_bytes w32 n) c.payload_len.ensures) c.put_payload.ensures
