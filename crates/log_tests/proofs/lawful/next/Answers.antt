use Rattle.std.proofs.Common.{ℕ}
use Rattle.log_codec.specs.Writable.{AreBytes}
use Rattle.log_codec.proofs.Agree.{frames_spelled}
use Rattle.log_tests.proofs.lawful.next.Goals as goal

pub extended-requires : goal.extended-requires
extended-requires c =
    let all : AreBytes c.args.log.now = λ i. (c.type_inv.log i).fits in
    (frames_spelled c.args.log.now c.args.at c.in_ok-frame.frame all c.in_ok-frame.ensures.exact).1.0
