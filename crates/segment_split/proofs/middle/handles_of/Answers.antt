use Rattle.std.proofs.Common.{◌≡◌, ◌∙◌, ℤ, ◌++◌, ◌∷◌, [], to_z, of_z, w64, ap, map, arith}
use Rattle.std.specs.Ordering.{int_eq}
use Rattle.std.proofs.lemmas.Int.{to_z-of_z}
use Rattle.std.specs.List.{dedup}
use Rattle.std.proofs.lemmas.List.{take_all, length-map}
use Rattle.std.proofs.lemmas.List.Filters.{dedup_is}
use Rattle.segment_split.proofs.Handles.{one_more, handle_of}
use Rattle.segment_split.proofs.middle.handles_of.Goals as goal

pub loop-i-preserved : goal.loop-i-preserved
loop-i-preserved c =
    let back : to_z w64 (of_z w64 c.handle.result) ≡ c.handle.result = to_z-of_z w64 c.handle.result (record { sfits = c.handle.type_inv }) in
    one_more (map handle_of c.args.block.now) c.loop-i.list.items c.add.new.list.items c.loop-i.i c.handle.result c.handle.ensures c.loop-i.invariant (c.in_ok-add.ensures ∙ ap (λ (h : ℤ). c.loop-i.list.items ++ h ∷ []) back)

pub returns : goal.returns
returns c =
    dedup_is int_eq c.loop-i.list.items c.dedup.new.self.items c.dedup.ensures.filtered
    ∙ ap (dedup int_eq) (c.loop-i.invariant ∙ take_all c.loop-i.i (map handle_of c.args.block.now) (omega (arith, c.loop-i-test.false, c.len-i-end.ensures, length-map c.args.block.now handle_of)))
