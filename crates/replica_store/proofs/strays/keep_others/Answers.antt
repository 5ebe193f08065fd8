use Rattle.std.proofs.Common.{rules, ap, ◌∙◌}
use Rattle.std.specs.Prelude.{not}
use Rattle.std.proofs.lemmas.Fn.{filter_same}
use Rattle.replica_store.proofs.strays.keep_others.Goals as goal

pub returns : goal.returns
returns c = λ test same. filter_same _ (λ f. not (test f)) _ (λ x b f' k. let is = ap not (same x) in search rules) _ _ c.retain.ensures.filtered
