use Rattle.std.proofs.Common.{arith}
use Rattle.stable_file.proofs.ToldPacks.{tail_told}
use Rattle.stable_file.proofs.file.attach.Goals as goal

pub made-requires : goal.made-requires
made-requires g c = tail_told c.args.len c.columns.result.now c.args.tail.now c.in_ok-packs.packs (omega (arith, c.ranges.len)) c.in_ok-packs.ensures
