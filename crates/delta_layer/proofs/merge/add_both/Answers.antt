use Rattle.std.proofs.Common.{◌≡◌, ◌∙◌, ◌++◌, drop, slice_range, sym, subst}
use Rattle.good_replica.proofs.Facts.{some_is}
use Rattle.delta_layer.specs.Overlay.{picked, own}
use Rattle.delta_layer.proofs.Places.{both_added, places_if}
use Rattle.delta_layer.proofs.merge.add_both.Goals as goal

pub returns-clause-within : goal.returns-clause-within
returns-clause-within c = c.end_before-to.ensures.within

pub returns-clause-picked : goal.returns-clause-picked
returns-clause-picked c = λ version at.
    let same = some_is c.at-version.result.now version (sym c.at-version.ensures ∙ at) in
    subst (λ v. picked c.args.all.now c.add_if.new.places.items ≡ picked c.args.all.now c.args.places.now.items ++ (slice_range c.args.all.now c.args.from c.end_before-to.result ++ own v (drop c.end_before-to.result c.args.all.now))) same
    (both_added c.args.all.now c.args.places.now.items c.add_run.new.places.items c.add_if.new.places.items c.at-version.result.now c.args.old c.args.from c.end_before-to.result c.is_own.result c.at-version.ensures c.in_ok-add_run.ensures.picked c.is_own.ensures c.in_ok-add_if.ensures)

pub returns-clause-places : goal.returns-clause-places
returns-clause-places c = λ are. places_if c.args.all.now c.add_run.new.places.items c.add_if.new.places.items c.args.old c.is_own.result c.requires.old c.in_ok-add_if.ensures (c.in_ok-add_run.ensures.places are)
