use Rattle.committed_log.proofs.Cleared.{holds_cleared, holds_uncleared}
use Rattle.committed_log.proofs.Options.{on_err_by}
use Rattle.committed_log.proofs.tables.admit_install.Goals as goal

pub admit_write-requires : goal.admit_write-requires
admit_write-requires g c = (
  record {
    regions = c.requires.0.regions;
    families = holds_cleared c.args.range g.store c.requires.1.1.0 c.args.tables.now.families c.requires.0.families;
    settled = c.requires.0.settled;
  },
  (c.requires.1.0, c.requires.1.1.1),
)

pub returns-clause-unchanged : goal.returns-clause-unchanged
returns-clause-unchanged g c = on_err_by c.admit_write.result (λ follows. record {
  regions = follows.regions;
  families = holds_uncleared c.args.range g.store c.requires.1.1.0 _ c.args.tables.now.families c.requires.0.families follows.families;
  settled = follows.settled;
}) c.admit_write.ensures.unchanged
