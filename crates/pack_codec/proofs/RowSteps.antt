-- Going over rows that are kept as lists.
use Rattle.std.proofs.Common.{◌≡◌, ℕ, suc, ◌+◌, ◌-◌, ◌<◌, Bool, true, List, [], ◌∷◌, ◌++◌, Option, sym, ap, ◌∙◌, append_assoc, arith}
use Rattle.std.specs.Prelude.{◌&&◌}
use Rattle.column_block.specs.declared.cell.Version.{Version}
use Rattle.column_codec.specs.declared.list.ColumnList.{ColumnList}
use Rattle.pack_codec.specs.declared.heads.Heads.{Heads}
use Rattle.pack_codec.specs.Rows.{may_have, null_from, version_at, versions_from}

pub null_next : (marks : List (Option ℕ)) (l : ColumnList) (i count : ℕ) (total : Bool) → i < count → may_have marks l i ≡ true → null_from marks l i (count - i) ≡ total → null_from marks l (i + 1) (count - (i + 1)) ≡ total
null_next marks l i count total lt h so_far =
    let k : count - i ≡ suc (count - (i + 1)) = omega arith in
    let one : null_from marks l i (count - i) ≡ null_from marks l (i + 1) (count - (i + 1)) = ap (null_from marks l i) k ∙ ap (λ b. b && null_from marks l (i + 1) (count - (i + 1))) h in
    sym one ∙ so_far

pub row_next : (heads : Heads) (lists : List ColumnList) (i count : ℕ) (block new : List Version) (v : Version) (total : List Version) → i < count → v ≡ version_at heads lists i → new ≡ block ++ v ∷ []
    → block ++ versions_from heads lists i (count - i) ≡ total → new ++ versions_from heads lists (i + 1) (count - (i + 1)) ≡ total
row_next heads lists i count block new v total lt is added so_far =
    let k : count - i ≡ suc (count - (i + 1)) = omega arith in
    let rest = versions_from heads lists (i + 1) (count - (i + 1)) in
    let one : block ++ versions_from heads lists i (count - i) ≡ block ++ version_at heads lists i ∷ rest = ap (λ n. block ++ versions_from heads lists i n) k in
    ap (λ (vs : List Version). vs ++ rest) added ∙ append_assoc block (v ∷ []) rest ∙ ap (λ (x : Version). block ++ x ∷ rest) is ∙ sym one ∙ so_far
