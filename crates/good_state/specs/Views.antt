-- Views of segments whose stable parts read.
use Rattle.std.specs.Prelude.{ℕ, List, Result}
use Rattle.std.specs.List.{AllByRecursion}
use Rattle.delta_layer.specs.declared.built.BuildError.{BuildError}
use Rattle.delta_layer.specs.declared.built.Built.{Built}
use Rattle.delta_layer.specs.declared.view.SegmentView.{SegmentView}
use Rattle.segment_snapshot.specs.Rights.{Reads}

-- where a grip's bytes are known
module _ {G : Type 0} (bytes : G → List ℕ) where
  abbrev pub AreViewsReadable : List (SegmentView G) → Type 0
  AreViewsReadable views = AllByRecursion (λ (view : SegmentView G). Reads bytes view.stable) views

-- what a build answers
abbrev pub Outcome : Type 0 → Type 0
Outcome G = Result (Built G) BuildError
