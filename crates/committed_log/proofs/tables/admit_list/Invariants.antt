use Rattle.committed_log.proofs.tables.admit_list.Given as goal

abbrev pub ghost-admit_ops : goal.ghost-admit_ops
ghost-admit_ops g a = record { store = g.store; before = g.store }

abbrev pub ghost-take_back : goal.ghost-take_back
ghost-take_back g a = g.store
