use Rattle.committed_log.proofs.admit_ops.admit_change.Given as goal

abbrev pub ghost-admit_value : goal.ghost-admit_value
ghost-admit_value g a = g.from

abbrev pub ghost-admit_drop : goal.ghost-admit_drop
ghost-admit_drop g a = g.from

abbrev pub ghost-admit_commit : goal.ghost-admit_commit
ghost-admit_commit g a = g.from
