use Rattle.manifest_form.proofs.Differ.{without_none}
use Rattle.manifest_form.proofs.slots.put.Goals as goal

pub put_new-requires-clause-none : goal.put_new-requires-clause-none
put_new-requires-clause-none c = rw c.take_out.ensures.segments (without_none c.args.segment.id _)
