use Rattle.std.proofs.Common.{◌≡◌, ◌∙◌, ap, ℕ, ◌≤◌, ◌%◌, List, [], ◌∷◌, ◌++◌, take, arith}
use Rattle.std.specs.Int.{bytes_low_first}
use Rattle.std.proofs.lemmas.List.{take-replicate}
use Rattle.byteorder.proofs.Bytes.{take-bytes_low_first}
use Rattle.byteorder.specs.Endian.{little_bytes}
use Rattle.row_codec.specs.Rows.{Row}
use Rattle.generator.specs.Generated.{int_width, uint_width}
use Rattle.generator.proofs.values.put_row.Goals as goal

three : (start first second third : Row) (a b c x y z : List ℕ) → start ≡ ([], []) → first ≡ (start.0 ++ (1, a) ∷ [], start.1) → second ≡ (first.0 ++ (2, b) ∷ [], first.1) → third ≡ (second.0 ++ (3, c) ∷ [], second.1) → a ≡ x → b ≡ y → c ≡ z → third ≡ ((1, x) ∷ (2, y) ∷ (3, z) ∷ [], [])
three start first second third a b c x y z e0 e1 e2 e3 ea eb ec =
    e3 ∙ ap (λ (r : Row). (r.0 ++ (3, c) ∷ [], r.1)) (e2 ∙ ap (λ (r : Row). (r.0 ++ (2, b) ∷ [], r.1)) (e1 ∙ ap (λ (r : Row). (r.0 ++ (1, a) ∷ [], r.1)) e0))
    ∙ (λ i. ((1, ea i) ∷ (2, eb i) ∷ (3, ec i) ∷ [], []))

low : (n x width : ℕ) (bytes : List ℕ) → bytes ≡ bytes_low_first 0 8 x → width ≡ n → n ≤ 8 → take width bytes ≡ little_bytes n x
low n x width bytes is same few = (λ i. take (same i) (is i)) ∙ take-bytes_low_first 0 8 n x few

pub returns : goal.returns
returns c =
    let w = c.int_width.ensures.width in
    let u = c.uint_width.ensures.width in
    three _ _ _ _ _ _ _ _ _ _ c.new-writer.ensures c.in_ok-field.ensures.ok c.in_ok-field-2.ensures.ok c.in_ok-field-3.ensures.ok
    (low (int_width c.args.row) c.args.row c.int_width.result c.to_le_bytes.result c.to_le_bytes.ensures w (omega (arith, c.int_width.ensures.few, w)))
    (low (uint_width c.args.i) c.args.i c.uint_width.result c.to_le_bytes-2.result c.to_le_bytes-2.ensures u (omega (arith, c.uint_width.ensures.few, u)))
    (take-replicate (c.args.i % 16) 15 (c.args.i % 256) (omega arith))
