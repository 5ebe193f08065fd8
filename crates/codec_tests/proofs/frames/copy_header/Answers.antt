use Rattle.std.proofs.Common.{ℕ}
use Rattle.log_codec.specs.Writable.{AreBytes}
use Rattle.log_codec.proofs.Agree.{headers_spelled}
use Rattle.codec_tests.proofs.frames.copy_header.Goals as goal

pub write_header-requires : goal.write_header-requires
write_header-requires c =
    let all : AreBytes c.args.log.now = λ i. (c.type_inv.log i).fits in
    (headers_spelled c.args.log.now (c.in_ok-header.header, c.in_ok-header.end) all c.in_ok-header.ensures.exact).1.0
