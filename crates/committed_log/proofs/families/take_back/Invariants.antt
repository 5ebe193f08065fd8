use Rattle.committed_log.proofs.families.take_back.Given as goal

abbrev pub ghost-take_back_values : goal.ghost-take_back_values
ghost-take_back_values g a = g.before

abbrev pub ghost-take_back_last : goal.ghost-take_back_last
ghost-take_back_last g a = g.before
