use Rattle.committed_log.proofs.tables.enter.Given as goal

abbrev pub ghost-take_back : goal.ghost-take_back
ghost-take_back g a = g.before
