use Rattle.std.proofs.Common.{ℕ}
use Rattle.log_codec.specs.Writable.{AreBytes}
use Rattle.log_codec.proofs.Agree.{frames_spelled}
use Rattle.codec_tests.proofs.frames.copy_frame.Goals as goal

pub write_frame-requires : goal.write_frame-requires
write_frame-requires c =
    let all : AreBytes c.args.log.now = λ i. (c.type_inv.log i).fits in
    (frames_spelled c.args.log.now c.args.at c.in_ok-frame.frame all c.in_ok-frame.ensures.exact).1.0
