use Rattle.std.proofs.Common.{rules}
use Rattle.std.specs.Prelude.{nat_le}
use Rattle.std.proofs.lemmas.Fn.{filter_same}
use Rattle.replica.specs.declared.retired.Retired.{Retired}
use Rattle.replica.proofs.purge.keep_from.Goals as goal

pub returns : goal.returns
returns c = filter_same _ (λ (it : Retired). nat_le c.args.kept_from it.generation) _ (λ x b f' k. search rules) _ _ c.retain.ensures.filtered
