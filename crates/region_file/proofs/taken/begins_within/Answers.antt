use Rattle.std.proofs.Common.{◌∙◌, sym}
use Rattle.flash_types.specs.Ranges.{holds}
use Rattle.region_file.proofs.Meeting.{none_of, some_of}
use Rattle.region_file.proofs.taken.begins_within.Goals as goal

pub returns-in-None : goal.returns-in-None
returns-in-None c = sym (none_of (λ e. holds c.args.range e.0) c.args.taken.now.entries (sym c.within-those.ensures ∙ c.in-None.ensures.steps.0))

pub returns-in-Some : goal.returns-in-Some
returns-in-Some c = sym (some_of (λ e. holds c.args.range e.0) c.args.taken.now.entries _ _ (sym c.within-those.ensures ∙ c.in-Some.ensures.steps))
