use Rattle.std.proofs.Common.{◌≡◌, ◌++◌, take, length, ℕ, List}
use Rattle.std.specs.List.{sum_by}
use Rattle.row_codec.specs.Numbers.{bytes_each}
use Rattle.row_codec.specs.Writing.{packed, ends_of}
use Rattle.row_codec.proofs.write.push_ends.Given as goal

abbrev pub invariant-loop-field : goal.invariant-loop-field
invariant-loop-field l = record {
  end_is : l.end ≡ sum_by (λ (value : ℕ × List ℕ). length value.1) (take l.field-index l.fields);
  written : l.into.items ≡ l.fn.into.items ++ packed (bytes_each l.width) (ends_of 0 (take l.field-index l.fields));
}
