use Rattle.log_codec.specs.Writable.{AreBytes}
use Rattle.region_cases.proofs.logs.frame_at.Goals as goal

pub returns-in-Ok : goal.returns-in-Ok
returns-in-Ok c =
    let all : AreBytes c.args.bytes.now = λ i. (c.type_inv.bytes i).fits in
    let spelled = c.frames_have_one_spelling.ensures c.args.bytes.now c.args.at c.in-Ok.frame all c.in-Ok.ensures.exact in
    record { form = spelled.1.0; numbers = spelled.1.1 }
