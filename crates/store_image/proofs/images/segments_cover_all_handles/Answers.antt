use Rattle.store_image.proofs.images.segments_cover_all_handles.Goals as goal

pub returns : goal.returns
returns c = λ log A own has image it. it.good.cover
