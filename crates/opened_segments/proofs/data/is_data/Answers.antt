use Rattle.std.proofs.Common.{inr, sym, ◌∙◌}
use Rattle.opened_segments.proofs.Listing.{missed}
use Rattle.opened_segments.proofs.data.is_data.Goals as goal

pub returns-clause-absent : goal.returns-clause-absent
returns-clause-absent c = λ is. inr (inr (missed c.args.list.now c.args.file c.requires c.binary_search.result c.binary_search.ensures.position (sym c.is_ok.ensures.value ∙ is)))
