use Rattle.std.proofs.Common.{◌∙◌}
use Rattle.region_file.proofs.Rising.{insert_last}
use Rattle.region_file.proofs.families.append.Goals as goal

pub returns-in-Ok : goal.returns-in-Ok
returns-in-Ok g c = c.in-Ok.ensures.entries ∙ insert_last g.K.Ord.cmp c.args.map.now.entries c.args.key c.args.value c.requires
