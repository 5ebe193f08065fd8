use Rattle.std.proofs.Common.{◌≡◌, take, length, ℕ, List}
use Rattle.std.specs.List.{sum_by}
use Rattle.row_codec.proofs.write.byte_count.Given as goal

abbrev pub invariant-loop-field : goal.invariant-loop-field
invariant-loop-field l = l.total ≡ sum_by (λ (value : ℕ × List ℕ). length value.1) (take l.field-index l.fields)
