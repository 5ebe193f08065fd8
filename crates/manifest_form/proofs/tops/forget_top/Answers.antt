use Rattle.manifest_form.proofs.Growth.{other_kept}
use Rattle.manifest_form.proofs.tops.forget_top.Goals as goal

pub returns-in-Some : goal.returns-in-Some
returns-in-Some c = λ q apart there. other_kept (c.in-Some.top, c.args.id) q _ _ apart (c.remove.ensures.updates.0 q) there
