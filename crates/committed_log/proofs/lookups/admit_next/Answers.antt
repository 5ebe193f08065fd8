use Rattle.std.proofs.Common.{◌<◌, ◌≤◌, ◌^◌, sym, subst, length, arith, List, ℕ, unwrap_or}
use Rattle.committed_log.specs.Indexed.{log_with}
use Rattle.committed_log.specs.Log.{Log, end}
use Rattle.committed_log.specs.Lows.{AreParted}
use Rattle.committed_log.specs.Regions.{Region, region, index_of}
use Rattle.committed_log.proofs.LowEnds.{parted_end, roomy_index}
use Rattle.committed_log.proofs.Pushed.{roomy_end}
use Rattle.committed_log.proofs.lookups.admit_next.Goals as goal

pub find_head_fault-requires-clause-parted : goal.find_head_fault-requires-clause-parted
find_head_fault-requires-clause-parted c =
    let log : Log = log_with c.args.table c.args.schema.now c.args.entries.now in
    subst AreParted (sym c.requires.told.follows.regions) (parted_end log c.requires.told.lawful)

pub find_head_fault-requires-clause-room : goal.find_head_fault-requires-clause-room
find_head_fault-requires-clause-room c =
    let log : Log = log_with c.args.table c.args.schema.now c.args.entries.now in
    let few : length c.args.entries.now ≤ 2 ^ 20 = omega (arith, c.requires.few) in
    subst (λ (rs : List (ℕ × Region)). unwrap_or (index_of (region rs c.args.entry.now.region)) 0 < 2 ^ 63) (sym c.requires.told.follows.regions) (roomy_index (region (end log).regions c.args.entry.now.region) (roomy_end log c.requires.told.lawful few c.args.entry.now.region))
