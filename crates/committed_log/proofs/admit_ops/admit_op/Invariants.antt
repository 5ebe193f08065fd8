use Rattle.committed_log.proofs.admit_ops.admit_op.Given as goal

abbrev pub ghost-admit_change : goal.ghost-admit_change
ghost-admit_change g a = g.from
