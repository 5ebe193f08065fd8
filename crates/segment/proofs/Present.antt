-- What is present where a segment's parts give way to others.
use Rattle.std.proofs.Common.{◌∙◌, sym, ap}
use Rattle.std.proofs.lemmas.List.Elements.{filter_map-append}
use Rattle.std.proofs.lemmas.List.Sums.{fold-append}
use Rattle.good_replica.specs.Changed.{had}
use Rattle.good_replica.specs.Trail.{after_step, after_steps, step_on, steps_on}
use Rattle.segment.specs.Laws.{SwappedSegmentsShowTheSame}

pub swapped : SwappedSegmentsShowTheSame
swapped range stable new taken rest versions there all = record {
  rise = all.rise;
  within = all.within;
  here = λ h ts held.
      all.here h ts held
      ∙ ap (after_steps ts (had h stable ts)) (filter_map-append (step_on h) taken rest)
      ∙ fold-append (after_step ts) (had h stable ts) (steps_on h taken) (steps_on h rest)
      ∙ ap (λ o. after_steps ts o (steps_on h rest)) (sym (there.here h ts held));
}
