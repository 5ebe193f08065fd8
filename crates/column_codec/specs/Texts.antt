-- Texts that lie in one piece of memory, one behind the other.
use Rattle.std.specs.Prelude.{ℕ, ◌≤◌, List, slice_range, map, Option, IfSome}
use Rattle.std.specs.Option.{option_map}
use Rattle.std.specs.List.{AllByRecursion}
use Rattle.column_codec.specs.declared.texts.Span.{Span}

-- the texts that places in these bytes stand for
abbrev pub texts_of : List ℕ → List (Option Span) → List (Option (List ℕ))
texts_of bytes spans = map (option_map (λ span. slice_range bytes span.from span.to)) spans

-- A place lies in so many bytes.
abbrev pub LiesIn : ℕ → Option Span → Type 0
LiesIn len span = IfSome span (λ s. (s.from ≤ s.to) × (s.to ≤ len))

abbrev pub AllLieIn : ℕ → List (Option Span) → Type 0
AllLieIn len spans = AllByRecursion (LiesIn len) spans
