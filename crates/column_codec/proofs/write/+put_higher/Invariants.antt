use Rattle.column_codec.proofs.write.+put_higher.Given as goal

abbrev pub decreases-put_higher : goal.decreases-put_higher
decreases-put_higher l = l.more
