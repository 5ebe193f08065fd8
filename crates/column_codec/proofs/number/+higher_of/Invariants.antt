use Rattle.column_codec.proofs.number.+higher_of.Given as goal

abbrev pub decreases-higher_of : goal.decreases-higher_of
decreases-higher_of l = l.more
