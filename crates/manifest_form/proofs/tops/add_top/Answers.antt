use Rattle.manifest_form.proofs.Growth.{put_kept}
use Rattle.manifest_form.proofs.tops.add_top.Goals as goal

pub returns-in-Ok-clause-kept : goal.returns-in-Ok-clause-kept
returns-in-Ok-clause-kept c = λ q there. put_kept _ _ _ _ (c.in-Ok.ensures.updates.0 q) there
