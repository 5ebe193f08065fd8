use Rattle.std.proofs.Common.{take, arith, length-take}
use Rattle.flash_io.proofs.Reading.{read_past, read_on_within}
use Rattle.flash_io.proofs.read.fill.Goals as goal

pub returns-then-count-limit-clause-too_long : goal.returns-then-count-limit-clause-too_long
returns-then-count-limit-clause-too_long g c =
    let left = g.S.Source.left in
    let piece = take c.in_ok-count.count c.read.new.into in
    λ _. read_past c.loop-count.taken c.in_ok-count.count c.args.limit (left c.args.source.now) (left c.loop-count.source) (left c.read.new.self) c.args.into.now.items c.loop-count.into.items piece
    c.loop-count.invariant.read c.in_ok-count.ensures.bytes.0 (omega (arith, c.in_ok-count.ensures.bound, length-take c.in_ok-count.count c.read.new.into)) (omega arith)

pub returns-in_err-extend_from_slice-clause-memory : goal.returns-in_err-extend_from_slice-clause-memory
returns-in_err-extend_from_slice-clause-memory g c =
    let left = g.S.Source.left in
    let piece = take c.in_ok-count.count c.read.new.into in
    λ _. read_on_within c.loop-count.taken c.in_ok-count.count c.args.limit (left c.args.source.now) (left c.loop-count.source) (left c.read.new.self) c.args.into.now.items c.loop-count.into.items piece
    c.loop-count.invariant.read c.in_ok-count.ensures.bytes.0 (omega (arith, c.in_ok-count.ensures.bound, length-take c.in_ok-count.count c.read.new.into)) (omega arith)
