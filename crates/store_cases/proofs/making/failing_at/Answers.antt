use Rattle.std.proofs.Common.{inl, ap, ◌∙◌}
use Rattle.flash_io.specs.Image.{Image}
use Rattle.store_cases.proofs.making.failing_at.Goals as goal

pub returns : goal.returns
returns c = inl (λ file. ap (λ (image : Image). image file) c.set_failing.ensures.files ∙ c.new-disk.ensures.empty file)
