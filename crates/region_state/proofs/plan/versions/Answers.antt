use Rattle.std.proofs.Common.{◌∙◌, sym, ap, map}
use Rattle.region_state.specs.Folding.{version_of}
use Rattle.region_state.proofs.Planning.{all_add_none}
use Rattle.region_state.proofs.plan.versions.Goals as goal

pub returns-then-commit_nothing : goal.returns-then-commit_nothing
returns-then-commit_nothing c = λ s values none. c.new.ensures ∙ sym (ap (map (version_of c.args.schema.now)) (all_add_none s c.args.ops.now (sym c.commit_nothing.ensures ∙ c.if-commit_nothing.true) ∙ none))
