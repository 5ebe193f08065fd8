use Rattle.std.proofs.Common.{◌≡◌, ◌∙◌, sym, ap, subst, ◌<◌, ◌/◌, ◌++◌, List, [], length, map, take, drop, to_z, of_z, w64, refl, arith}
use Rattle.std.proofs.lemmas.Int.{to_z-of_z}
use Rattle.std.proofs.lemmas.Result.{on_ok_weaker}
use Rattle.column_block.specs.declared.cell.Version.{Version}
use Rattle.flash_types.specs.Ranges.{part_below, part_from}
use Rattle.flash_types.specs.declared.range.HandleRange.{HandleRange}
use Rattle.segment_list.specs.Lists.{Cover}
use Rattle.segment_list.specs.Slots.{Slotted, absorbed, kept}
use Rattle.segment_list.proofs.Halves.{all_inside, all_silent, both_halves, cover_stays, kept_again, lower_half, none_kept, upper_half}
use Rattle.segment_list.proofs.list.+within.Goals as goal

pub absorb_halves-absorb_within-requires : goal.absorb_halves-absorb_within-requires
absorb_halves-absorb_within-requires g t c κs within = (
  omega (arith, c.split_at_mut-left.ensures.front_len, c.requires.within),
  (within, subst (Cover c.args.lower) (sym c.split_at_mut-left.ensures.front) c.requires.lower),
)

pub absorb_halves-absorb_within-requires-2 : goal.absorb_halves-absorb_within-requires-2
absorb_halves-absorb_within-requires-2 g t c κs within = (
  omega (arith, c.split_at_mut-left.ensures.back_len, c.requires.some),
  (within, subst (Cover c.args.upper) (sym c.split_at_mut-left.ensures.back) c.requires.upper),
)

pub absorb_halves-take_back_within-requires : goal.absorb_halves-take_back_within-requires
absorb_halves-take_back_within-requires g t c =
    let left : Cover c.args.lower c.split_at_mut-left.result.0.now = subst (Cover c.args.lower) (sym c.split_at_mut-left.ensures.front) c.requires.lower in
    subst (Cover c.args.lower) (sym c.in_ok-absorb_within.ensures.ok) (cover_stays c.args.tag c.args.clears c.args.low.now c.args.lower.high c.args.lower.low c.split_at_mut-left.result.0.now left)

pub absorb_within-returns-then-not-says-clause-ok : goal.absorb_within-returns-then-not-says-clause-ok
absorb_within-returns-then-not-says-clause-ok g t c =
    sym (all_silent c.args.range c.args.tag c.args.clears c.args.adds.now c.args.slots.now (all_inside c.args.range.high c.args.range.low c.args.slots.now c.requires) (sym c.says.ensures ∙ c.if-not-says.true))

pub absorb_within-absorb_halves-requires : goal.absorb_within-absorb_halves-requires
absorb_within-absorb_halves-requires g t c κs within =
    let some : 0 < length c.args.slots.now / 2 = omega (arith, c.if-middle-eq0.false) in
    let small : length c.args.slots.now / 2 < length c.args.slots.now = omega (arith, c.if-middle-eq0.false) in
    let back : to_z w64 (of_z w64 c.low-at.result) ≡ c.low-at.result = to_z-of_z w64 c.low-at.result (record { sfits = c.low-at.type_inv }) in
    let at : to_z w64 (of_z w64 c.low-at.result) ≡ c.index-slots-middle.result.range.low = back ∙ c.low-at.ensures ∙ ap (λ (s : Slotted g.row.G.Denot). s.range.low) (sym c.index-slots-middle.is) in
    let lower : Cover c.below-lower.result (take (length c.args.slots.now / 2) c.args.slots.now) = subst (λ (r : HandleRange). Cover r (take (length c.args.slots.now / 2) c.args.slots.now)) (sym (c.below-lower.ensures ∙ ap (part_below c.args.range) at)) (lower_half c.args.range.high c.args.range.low (length c.args.slots.now / 2) c.args.slots.now c.index-slots-middle.result some small c.index-slots-middle.is c.requires) in
    let upper : Cover c.starting_at-upper.result (drop (length c.args.slots.now / 2) c.args.slots.now) = subst (λ (r : HandleRange). Cover r (drop (length c.args.slots.now / 2) c.args.slots.now)) (sym (c.starting_at-upper.ensures ∙ ap (part_from c.args.range) at)) (upper_half c.args.range.high c.args.range.low (length c.args.slots.now / 2) c.args.slots.now c.index-slots-middle.result some small c.index-slots-middle.is c.requires) in
    (omega arith, (within, (some, (small, (lower, upper)))))

pub absorb_within-returns-then-not-adds_to-clause-ok : goal.absorb_within-returns-then-not-adds_to-clause-ok
absorb_within-returns-then-not-adds_to-clause-ok g t c =
    let some : 0 < length c.args.slots.now / 2 = omega (arith, c.if-middle-eq0.false) in
    let small : length c.args.slots.now / 2 < length c.args.slots.now = omega (arith, c.if-middle-eq0.false) in
    let back : to_z w64 (of_z w64 c.low-at.result) ≡ c.low-at.result = to_z-of_z w64 c.low-at.result (record { sfits = c.low-at.type_inv }) in
    let at : to_z w64 (of_z w64 c.low-at.result) ≡ c.index-slots-middle.result.range.low = back ∙ c.low-at.ensures ∙ ap (λ (s : Slotted g.row.G.Denot). s.range.low) (sym c.index-slots-middle.is) in
    let lower : Cover c.below-lower.result (take (length c.args.slots.now / 2) c.args.slots.now) = subst (λ (r : HandleRange). Cover r (take (length c.args.slots.now / 2) c.args.slots.now)) (sym (c.below-lower.ensures ∙ ap (part_below c.args.range) at)) (lower_half c.args.range.high c.args.range.low (length c.args.slots.now / 2) c.args.slots.now c.index-slots-middle.result some small c.index-slots-middle.is c.requires) in
    let upper : Cover c.starting_at-upper.result (drop (length c.args.slots.now / 2) c.args.slots.now) = subst (λ (r : HandleRange). Cover r (drop (length c.args.slots.now / 2) c.args.slots.now)) (sym (c.starting_at-upper.ensures ∙ ap (part_from c.args.range) at)) (upper_half c.args.range.high c.args.range.low (length c.args.slots.now / 2) c.args.slots.now c.index-slots-middle.result some small c.index-slots-middle.is c.requires) in
    let same = both_halves c.args.tag c.args.clears c.args.adds.now c.args.adds.now [] c.below-lower.result c.starting_at-upper.result (length c.args.slots.now / 2) c.args.slots.now lower upper (refl) (none_kept c.starting_at-upper.result c.args.adds.now (sym c.adds_to.ensures ∙ c.if-not-adds_to.true)) in
    on_ok_weaker c.absorb_halves.result (λ ok. ok ∙ ap (λ (vs : List Version). map (absorbed c.args.tag c.args.clears c.args.adds.now) (take (length c.args.slots.now / 2) c.args.slots.now) ++ map (absorbed c.args.tag c.args.clears vs) (drop (length c.args.slots.now / 2) c.args.slots.now)) c.new-none.ensures ∙ same) c.absorb_halves.ensures.ok

pub absorb_within-absorb_halves-requires-then-not-adds_to-2 : goal.absorb_within-absorb_halves-requires-then-not-adds_to-2
absorb_within-absorb_halves-requires-then-not-adds_to-2 g t c κs within =
    let some : 0 < length c.args.slots.now / 2 = omega (arith, c.if-middle-eq0.false) in
    let small : length c.args.slots.now / 2 < length c.args.slots.now = omega (arith, c.if-middle-eq0.false) in
    let back : to_z w64 (of_z w64 c.low-at.result) ≡ c.low-at.result = to_z-of_z w64 c.low-at.result (record { sfits = c.low-at.type_inv }) in
    let at : to_z w64 (of_z w64 c.low-at.result) ≡ c.index-slots-middle.result.range.low = back ∙ c.low-at.ensures ∙ ap (λ (s : Slotted g.row.G.Denot). s.range.low) (sym c.index-slots-middle.is) in
    let lower : Cover c.below-lower.result (take (length c.args.slots.now / 2) c.args.slots.now) = subst (λ (r : HandleRange). Cover r (take (length c.args.slots.now / 2) c.args.slots.now)) (sym (c.below-lower.ensures ∙ ap (part_below c.args.range) at)) (lower_half c.args.range.high c.args.range.low (length c.args.slots.now / 2) c.args.slots.now c.index-slots-middle.result some small c.index-slots-middle.is c.requires) in
    let upper : Cover c.starting_at-upper.result (drop (length c.args.slots.now / 2) c.args.slots.now) = subst (λ (r : HandleRange). Cover r (drop (length c.args.slots.now / 2) c.args.slots.now)) (sym (c.starting_at-upper.ensures ∙ ap (part_from c.args.range) at)) (upper_half c.args.range.high c.args.range.low (length c.args.slots.now / 2) c.args.slots.now c.index-slots-middle.result some small c.index-slots-middle.is c.requires) in
    (omega arith, (within, (some, (small, (lower, upper)))))

pub absorb_within-returns-then-not-adds_to-2-clause-ok : goal.absorb_within-returns-then-not-adds_to-2-clause-ok
absorb_within-returns-then-not-adds_to-2-clause-ok g t c =
    let some : 0 < length c.args.slots.now / 2 = omega (arith, c.if-middle-eq0.false) in
    let small : length c.args.slots.now / 2 < length c.args.slots.now = omega (arith, c.if-middle-eq0.false) in
    let back : to_z w64 (of_z w64 c.low-at.result) ≡ c.low-at.result = to_z-of_z w64 c.low-at.result (record { sfits = c.low-at.type_inv }) in
    let at : to_z w64 (of_z w64 c.low-at.result) ≡ c.index-slots-middle.result.range.low = back ∙ c.low-at.ensures ∙ ap (λ (s : Slotted g.row.G.Denot). s.range.low) (sym c.index-slots-middle.is) in
    let lower : Cover c.below-lower.result (take (length c.args.slots.now / 2) c.args.slots.now) = subst (λ (r : HandleRange). Cover r (take (length c.args.slots.now / 2) c.args.slots.now)) (sym (c.below-lower.ensures ∙ ap (part_below c.args.range) at)) (lower_half c.args.range.high c.args.range.low (length c.args.slots.now / 2) c.args.slots.now c.index-slots-middle.result some small c.index-slots-middle.is c.requires) in
    let upper : Cover c.starting_at-upper.result (drop (length c.args.slots.now / 2) c.args.slots.now) = subst (λ (r : HandleRange). Cover r (drop (length c.args.slots.now / 2) c.args.slots.now)) (sym (c.starting_at-upper.ensures ∙ ap (part_from c.args.range) at)) (upper_half c.args.range.high c.args.range.low (length c.args.slots.now / 2) c.args.slots.now c.index-slots-middle.result some small c.index-slots-middle.is c.requires) in
    let same = both_halves c.args.tag c.args.clears c.args.adds.now [] c.args.adds.now c.below-lower.result c.starting_at-upper.result (length c.args.slots.now / 2) c.args.slots.now lower upper (none_kept c.below-lower.result c.args.adds.now (sym c.adds_to-2.ensures ∙ c.if-not-adds_to-2.true)) (refl) in
    on_ok_weaker c.absorb_halves-then-not-adds_to-2.result (λ ok. ok ∙ ap (λ (vs : List Version). map (absorbed c.args.tag c.args.clears vs) (take (length c.args.slots.now / 2) c.args.slots.now) ++ map (absorbed c.args.tag c.args.clears c.args.adds.now) (drop (length c.args.slots.now / 2) c.args.slots.now)) c.new-none-then-not-adds_to-2.ensures ∙ same) c.absorb_halves-then-not-adds_to-2.ensures.ok

pub absorb_within-absorb_halves-requires-2 : goal.absorb_within-absorb_halves-requires-2
absorb_within-absorb_halves-requires-2 g t c κs within =
    let some : 0 < length c.args.slots.now / 2 = omega (arith, c.if-middle-eq0.false) in
    let small : length c.args.slots.now / 2 < length c.args.slots.now = omega (arith, c.if-middle-eq0.false) in
    let back : to_z w64 (of_z w64 c.low-at.result) ≡ c.low-at.result = to_z-of_z w64 c.low-at.result (record { sfits = c.low-at.type_inv }) in
    let at : to_z w64 (of_z w64 c.low-at.result) ≡ c.index-slots-middle.result.range.low = back ∙ c.low-at.ensures ∙ ap (λ (s : Slotted g.row.G.Denot). s.range.low) (sym c.index-slots-middle.is) in
    let lower : Cover c.below-lower.result (take (length c.args.slots.now / 2) c.args.slots.now) = subst (λ (r : HandleRange). Cover r (take (length c.args.slots.now / 2) c.args.slots.now)) (sym (c.below-lower.ensures ∙ ap (part_below c.args.range) at)) (lower_half c.args.range.high c.args.range.low (length c.args.slots.now / 2) c.args.slots.now c.index-slots-middle.result some small c.index-slots-middle.is c.requires) in
    let upper : Cover c.starting_at-upper.result (drop (length c.args.slots.now / 2) c.args.slots.now) = subst (λ (r : HandleRange). Cover r (drop (length c.args.slots.now / 2) c.args.slots.now)) (sym (c.starting_at-upper.ensures ∙ ap (part_from c.args.range) at)) (upper_half c.args.range.high c.args.range.low (length c.args.slots.now / 2) c.args.slots.now c.index-slots-middle.result some small c.index-slots-middle.is c.requires) in
    (omega arith, (within, (some, (small, (lower, upper)))))

pub absorb_within-returns-clause-ok : goal.absorb_within-returns-clause-ok
absorb_within-returns-clause-ok g t c =
    let some : 0 < length c.args.slots.now / 2 = omega (arith, c.if-middle-eq0.false) in
    let small : length c.args.slots.now / 2 < length c.args.slots.now = omega (arith, c.if-middle-eq0.false) in
    let back : to_z w64 (of_z w64 c.low-at.result) ≡ c.low-at.result = to_z-of_z w64 c.low-at.result (record { sfits = c.low-at.type_inv }) in
    let at : to_z w64 (of_z w64 c.low-at.result) ≡ c.index-slots-middle.result.range.low = back ∙ c.low-at.ensures ∙ ap (λ (s : Slotted g.row.G.Denot). s.range.low) (sym c.index-slots-middle.is) in
    let lower : Cover c.below-lower.result (take (length c.args.slots.now / 2) c.args.slots.now) = subst (λ (r : HandleRange). Cover r (take (length c.args.slots.now / 2) c.args.slots.now)) (sym (c.below-lower.ensures ∙ ap (part_below c.args.range) at)) (lower_half c.args.range.high c.args.range.low (length c.args.slots.now / 2) c.args.slots.now c.index-slots-middle.result some small c.index-slots-middle.is c.requires) in
    let upper : Cover c.starting_at-upper.result (drop (length c.args.slots.now / 2) c.args.slots.now) = subst (λ (r : HandleRange). Cover r (drop (length c.args.slots.now / 2) c.args.slots.now)) (sym (c.starting_at-upper.ensures ∙ ap (part_from c.args.range) at)) (upper_half c.args.range.high c.args.range.low (length c.args.slots.now / 2) c.args.slots.now c.index-slots-middle.result some small c.index-slots-middle.is c.requires) in
    let same = both_halves c.args.tag c.args.clears c.args.adds.now (kept c.below-lower.result c.args.adds.now) (kept c.starting_at-upper.result c.args.adds.now) c.below-lower.result c.starting_at-upper.result (length c.args.slots.now / 2) c.args.slots.now lower upper (kept_again c.below-lower.result c.args.adds.now) (kept_again c.starting_at-upper.result c.args.adds.now) in
    on_ok_weaker c.absorb_halves-2.result (λ ok. ok ∙ ap (λ (vs : List Version). map (absorbed c.args.tag c.args.clears vs) (take (length c.args.slots.now / 2) c.args.slots.now) ++ map (absorbed c.args.tag c.args.clears c.in_ok-high.high) (drop (length c.args.slots.now / 2) c.args.slots.now)) c.in_ok-low.ensures ∙ ap (λ (vs : List Version). map (absorbed c.args.tag c.args.clears (kept c.below-lower.result c.args.adds.now)) (take (length c.args.slots.now / 2) c.args.slots.now) ++ map (absorbed c.args.tag c.args.clears vs) (drop (length c.args.slots.now / 2) c.args.slots.now)) c.in_ok-high.ensures ∙ same) c.absorb_halves-2.ensures.ok
