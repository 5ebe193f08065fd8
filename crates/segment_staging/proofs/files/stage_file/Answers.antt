use Rattle.segment_staging.proofs.Written.{elsewhere_now, nothing_counted, nothing_named}
use Rattle.segment_staging.proofs.files.stage_file.Goals as goal

pub returns-in-Tiny-clause-named : goal.returns-in-Tiny-clause-named
returns-in-Tiny-clause-named g c = nothing_named g.D.Disk c.args.store.now

pub returns-in-Tiny-clause-any_moment : goal.returns-in-Tiny-clause-any_moment
returns-in-Tiny-clause-any_moment g c = elsewhere_now g.D.Disk g.met.D.Disk.only_now c.args.store.now c.args.number

pub returns-in-Tiny-clause-counted : goal.returns-in-Tiny-clause-counted
returns-in-Tiny-clause-counted g c = nothing_counted g.D.Disk c.args.store.now

pub returns-in-DeleteRange-clause-named : goal.returns-in-DeleteRange-clause-named
returns-in-DeleteRange-clause-named g c = nothing_named g.D.Disk c.args.store.now

pub returns-in-DeleteRange-clause-any_moment : goal.returns-in-DeleteRange-clause-any_moment
returns-in-DeleteRange-clause-any_moment g c = elsewhere_now g.D.Disk g.met.D.Disk.only_now c.args.store.now c.args.number

pub returns-in-DeleteRange-clause-counted : goal.returns-in-DeleteRange-clause-counted
returns-in-DeleteRange-clause-counted g c = nothing_counted g.D.Disk c.args.store.now
