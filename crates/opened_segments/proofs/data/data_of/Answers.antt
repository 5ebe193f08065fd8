use Rattle.std.proofs.Common.{refl}
use Rattle.opened_segments.proofs.Judging.{data_absent}
use Rattle.opened_segments.proofs.data.data_of.Goals as goal

pub returns-then-not-is_data-clause-lost : goal.returns-then-not-is_data-clause-lost
returns-then-not-is_data-clause-lost g c = λ tells. (refl, refl, data_absent c.args.own (g.D.Disk.files c.args.disk.now) c.args.list.now c.args.file (c.requires.each tells) (c.if-not-is_data.ensures.absent refl))

pub read_file-requires : goal.read_file-requires
read_file-requires g c = record { there = λ tells. (c.requires.each tells c.args.file).0 (c.if-not-is_data.ensures.there refl).2 }
