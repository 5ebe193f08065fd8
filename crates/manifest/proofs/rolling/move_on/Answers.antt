use Rattle.std.proofs.Common.{rules, ◌≡◌, ◌<◌, ◌^◌, arith}
use Rattle.std.proofs.lemmas.Result.{on_ok_weaker}
use Rattle.flash_io.proofs.Moments.{weaken, then}
use Rattle.manifest.specs.Gated.{IsSteady}
use Rattle.manifest.proofs.NextFile.{name, still_staged, old_or_rolled, kept_next, kept_old}
use Rattle.manifest.proofs.rolling.move_on.Goals as goal

pub returns-in_err-stage-clause-any_moment : goal.returns-in_err-stage-clause-any_moment
returns-in_err-stage-clause-any_moment g c = λ has read.
    let D = g.D.Disk in
    let m = c.args.manifest.now in
    let old = D.may_leave c.args.disk.now in
    weaken D.moment D.left_since c.args.disk.now c.stage.new.disk _ _ c.stage.ensures.any_moment (still_staged m old c.requires.kept has)

pub returns-clause-kept : goal.returns-clause-kept
returns-clause-kept g c =
    let D = g.D.Disk in
    let m = c.args.manifest.now in
    let mid = D.may_leave c.stage.new.disk in
    let new = D.may_leave c.commit.new.disk in
    let kept = c.stage.ensures.kept c.requires.kept in
    let fits : m.state.next < 2 ^ 32 = omega (arith, c.requires.room) in
    let is_name : c.to_be_bytes-name.result ≡ name m.state.next = search rules in
    let steady : IsSteady 0 kept.root_closes.part mid = (kept.root, kept.root_closes.shut, kept.root_held) in
    let run = c.commit.ensures.any_moment kept.root_closes.part kept.root_closes.size steady in
    on_ok_weaker c.commit.result (kept_next m mid kept fits c.args.bytes.now c.in_ok-stage.ensures.created c.to_be_bytes-name.result is_name new (λ x left. run.each x (g.met.D.Disk.counts_now c.commit.new.disk (D.moment c.stage.new.disk) x run.later left)))
    (c.commit.ensures.committed kept.root_closes.part kept.root_closes.size steady)

pub returns-clause-any_moment : goal.returns-clause-any_moment
returns-clause-any_moment g c = λ has read.
    let D = g.D.Disk in
    let m = c.args.manifest.now in
    let old = D.may_leave c.args.disk.now in
    let mid = D.may_leave c.stage.new.disk in
    let kept = c.stage.ensures.kept c.requires.kept in
    let fits : m.state.next < 2 ^ 32 = omega (arith, c.requires.room) in
    let is_name : c.to_be_bytes-name.result ≡ name m.state.next = search rules in
    let steady : IsSteady 0 kept.root_closes.part mid = (kept.root, kept.root_closes.shut, kept.root_held) in
    let run = c.commit.ensures.any_moment kept.root_closes.part kept.root_closes.size steady in
    let staged = c.stage.ensures.any_moment in
    let first = weaken D.moment D.left_since c.args.disk.now c.stage.new.disk _ _ staged (still_staged m old c.requires.kept has) in
    then D.moment D.left_since c.args.disk.now c.stage.new.disk c.commit.new.disk _ _ first run
    (old_or_rolled m mid kept fits c.args.bytes.now c.in_ok-stage.ensures.created c.to_be_bytes-name.result is_name old (λ x left. staged.each x (g.met.D.Disk.counts_now c.stage.new.disk (D.moment c.args.disk.now) x staged.later left)) has read)

pub returns-clause-memory : goal.returns-clause-memory
returns-clause-memory g c = λ memory.
    let D = g.D.Disk in
    let m = c.args.manifest.now in
    let mid = D.may_leave c.stage.new.disk in
    let new = D.may_leave c.commit.new.disk in
    let kept = c.stage.ensures.kept c.requires.kept in
    let fits : m.state.next < 2 ^ 32 = omega (arith, c.requires.room) in
    let is_name : c.to_be_bytes-name.result ≡ name m.state.next = search rules in
    let steady : IsSteady 0 kept.root_closes.part mid = (kept.root, kept.root_closes.shut, kept.root_held) in
    let run = c.commit.ensures.any_moment kept.root_closes.part kept.root_closes.size steady in
    kept_old m mid kept fits c.args.bytes.now c.in_ok-stage.ensures.created c.to_be_bytes-name.result is_name new (λ x left. run.each x (g.met.D.Disk.counts_now c.commit.new.disk (D.moment c.stage.new.disk) x run.later left))
    (c.commit.ensures.memory kept.root_closes.part kept.root_closes.size steady memory)
