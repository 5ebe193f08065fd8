use Rattle.log_codec.specs.Writable.{AreBytes}
use Rattle.log_file.proofs.Files.{read_push}
use Rattle.log_file.proofs.log.read_next.Goals as goal

pub admit-requires : goal.admit-requires
admit-requires c =
    let all : AreBytes c.args.bytes.now = λ i. (c.type_inv.bytes i).fits in
    let spelled = c.frames_have_one_spelling.ensures c.args.bytes.now c.args.at c.in-Ok.frame all c.in-Ok.ensures.exact in
    record { form = spelled.1.0; numbers = spelled.1.1 }

pub returns-in-Ok-admit-clause-read : goal.returns-in-Ok-admit-clause-read
returns-in-Ok-admit-clause-read c =
    read_push c.args.bytes.now c.args.logs.now c.admit.new.self c.args.at c.in-Ok.frame c.requires.before c.requires.within c.in-Ok.ensures.exact c.in-Ok-admit.ensures.added c.told_lawful.ensures
