use Rattle.std.proofs.Common.{◌∙◌, ◌++◌, ap}
use Rattle.delta_layer.proofs.Places.{one_version}
use Rattle.delta_layer.proofs.newest.add_version.Goals as goal

pub returns-in-Ok-append : goal.returns-in-Ok-append
returns-in-Ok-append c = λ version at. c.in-Ok-append.ensures.ok ∙ ap (λ t. c.args.news.now ++ t) (c.in-Ok.ensures ∙ one_version c.args.block.now c.args.place version at)
