use Rattle.std.proofs.Common.{◌∙◌, sym}
use Rattle.segment.proofs.laws.repacked_segments_show_the_same.Goals as goal

pub returns : goal.returns
returns c = λ old new came range stable versions present. record {
  rise = present.rise;
  within = present.within;
  here = λ h ts held. present.here h ts held ∙ sym (c.repacked_layers_show_the_same.ensures old new came stable h ts);
}
