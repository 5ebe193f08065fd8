use Rattle.region_file.proofs.reading.one_entry.Goals as goal

pub returns-clause-free : goal.returns-clause-free
returns-clause-free c = λ earlier taken. c.in_ok-entry.ensures.free c.in_ok-id.id earlier taken
