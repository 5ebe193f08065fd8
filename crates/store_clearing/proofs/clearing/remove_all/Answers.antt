use Rattle.std.proofs.Common.{rules, ◌<◌, ◌≤◌, refl, length, get_or, arith}
use Rattle.std.specs.List.{Contains}
use Rattle.std.proofs.lemmas.List.Elements.{Contains-get_or}
use Rattle.store_clearing.proofs.Removing.{all_gone, counted_on, named_on, none_gone, nothing_counted, nothing_named, one_gone, run_on, run_starts, same_on, still_there, there_first}
use Rattle.store_clearing.proofs.clearing.remove_all.Goals as goal

pub loop-i-init : goal.loop-i-init
loop-i-init g c =
    let files = g.D.Disk.files c.args.store.now.disk in
    record {
      named = nothing_named g.D.Disk c.args.store.now;
      there = λ tells. there_first c.args.files.now files (c.requires.there tells);
      gone = λ tells. none_gone c.args.files.now files;
      stays = λ file out. refl;
      moments = run_starts g.D.Disk g.met.D.Disk.only_now c.args.files.now c.args.store.now;
      counted = nothing_counted g.D.Disk c.args.store.now;
    }

pub loop-i-preserved : goal.loop-i-preserved
loop-i-preserved g c =
    let d = g.D.Disk in
    let xs = c.args.files.now in
    let i = c.loop-i.i in
    let x = get_or xs i 0 in
    let old = c.args.store.now in
    let mid = c.loop-i.store in
    let new = c.remove.new.self in
    let so_far = c.loop-i.invariant in
    let within : i < length xs = search (rules, arith) in
    let has : Contains xs x = Contains-get_or xs i 0 within in
    record {
      named = named_on d old mid new so_far.named c.remove.ensures.named;
      there = λ tells. still_there xs c.requires.rising i x within refl (d.files mid.disk) (d.files new.disk) c.remove.ensures.others (so_far.there tells);
      gone = λ tells. one_gone xs c.requires.rising i x within refl (d.files mid.disk) (d.files new.disk) c.remove.ensures.others (so_far.gone tells) (c.in-Ok.ensures.gone tells);
      stays = same_on xs x (d.files old.disk) (d.files mid.disk) (d.files new.disk) has so_far.stays c.remove.ensures.others;
      moments = run_on d g.met.D.Disk.counts_now xs x old mid new so_far.moments has c.remove.ensures.any_moment;
      counted = counted_on d old mid new so_far.counted c.remove.ensures.counted;
    }

pub returns-clause-gone : goal.returns-clause-gone
returns-clause-gone g c = λ tells.
    let ended : length c.args.files.now ≤ c.loop-i.i = search (rules, arith) in
    all_gone c.args.files.now c.loop-i.i (g.D.Disk.files c.loop-i.store.disk) ended (c.loop-i.invariant.gone tells)

pub returns-in_default-clause-any_moment : goal.returns-in_default-clause-any_moment
returns-in_default-clause-any_moment g c =
    let xs = c.args.files.now in
    let within : c.loop-i.i < length xs = search (rules, arith) in
    run_on g.D.Disk g.met.D.Disk.counts_now xs (get_or xs c.loop-i.i 0) c.args.store.now c.loop-i.store c.remove.new.self c.loop-i.invariant.moments (Contains-get_or xs c.loop-i.i 0 within) c.remove.ensures.any_moment
