use Rattle.std.proofs.Common.{ℕ, ◌<◌, get_or, SFits, w64, arith}
use Rattle.std.proofs.lemmas.Int.{to_z-of_z}
use Rattle.kv_codec.proofs.ByGroups.{found}
use Rattle.kv_codec.proofs.keys.handle_by_groups.Goals as goal

pub returns : goal.returns
returns c =
    let fits : SFits w64 c.args.table = c.ranges.table in
    let flip = simp to_z-of_z at c.flip-table.ensures in
    let bytes : (i : ℕ) → get_or c.args.key.now i 0 < 256 = λ (i : ℕ). omega (arith, c.type_inv.key i) in
    let is = found c.args.table c.args.key.now c.flip-table.result c.group_at-first.result c.group_at-second.result c.group_at-third.result c.unflip.result c.if-key-ne27.false bytes c.if-key.false c.if-key-2.false c.if-key-3.false c.flip-table.type_inv flip c.group_at-first.ensures c.group_at-second.ensures c.group_at-third.ensures c.if-first-table.false c.if-second-table.false c.if-third-ne0.false c.unflip.ensures in
    let small : SFits w64 c.unflip.result = record { sfits = c.unflip.type_inv } in
    simp to_z-of_z is
