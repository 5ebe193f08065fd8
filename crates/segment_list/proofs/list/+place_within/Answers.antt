use Rattle.std.proofs.Common.{◌≡◌, ◌∙◌, sym, ap, subst, ◌<◌, ℕ, ℤ, ◌+◌, ◌/◌, length, drop, Some, None, true, false, to_z, of_z, w64, int_lt, position, arith}
use Rattle.std.specs.Prelude.{option_map}
use Rattle.std.proofs.lemmas.Int.{to_z-of_z}
use Rattle.flash_types.specs.Ranges.{holds, part_below, part_from}
use Rattle.flash_types.specs.declared.range.HandleRange.{HandleRange}
use Rattle.segment_list.specs.Lists.{Cover}
use Rattle.segment_list.specs.Slots.{Slotted}
use Rattle.segment_list.proofs.Halves.{lower_half, upper_half}
use Rattle.segment_list.proofs.Places.{place_lower, place_upper}
use Rattle.segment_list.proofs.list.+place_within.Goals as goal

pub place_within-requires : goal.place_within-requires
place_within-requires g t c κs within =
    let some : 0 < length c.args.slots.now / 2 = omega (arith, c.if-middle-eq0.false) in
    let small : length c.args.slots.now / 2 < length c.args.slots.now = omega (arith, c.if-middle-eq0.false) in
    let back : to_z w64 (of_z w64 c.low-at.result) ≡ c.low-at.result = to_z-of_z w64 c.low-at.result (record { sfits = c.low-at.type_inv }) in
    let part : c.below.result ≡ part_below c.args.range c.index-slots-middle.result.range.low = c.below.ensures ∙ ap (part_below c.args.range) (back ∙ c.low-at.ensures) in
    let half = lower_half c.args.range.high c.args.range.low (length c.args.slots.now / 2) c.args.slots.now c.index-slots-middle.result some small c.index-slots-middle.is c.requires in (
      omega (arith, ap length c.split_at.ensures.front, c.split_at.ensures.front_len, small),
      (within, subst (λ (r : HandleRange). Cover r c.split_at.result.0.now) (sym part) (subst (Cover (part_below c.args.range c.index-slots-middle.result.range.low)) (sym c.split_at.ensures.front) half)),
    )

pub returns-then-handle-at : goal.returns-then-handle-at
returns-then-handle-at g t c =
    let some : 0 < length c.args.slots.now / 2 = omega (arith, c.if-middle-eq0.false) in
    let small : length c.args.slots.now / 2 < length c.args.slots.now = omega (arith, c.if-middle-eq0.false) in
    let back : to_z w64 (of_z w64 c.low-at.result) ≡ c.low-at.result = to_z-of_z w64 c.low-at.result (record { sfits = c.low-at.type_inv }) in
    let same : to_z w64 (of_z w64 c.args.handle) ≡ c.args.handle = to_z-of_z w64 c.args.handle c.ranges.handle in
    let less : int_lt c.args.handle c.index-slots-middle.result.range.low ≡ true = ap (int_lt c.args.handle) (sym (back ∙ c.low-at.ensures)) ∙ ap (λ (x : ℤ). int_lt x (to_z w64 (of_z w64 c.low-at.result))) (sym same) ∙ c.if-handle-at.true in
    c.place_within.ensures
    ∙ ap (λ (x : ℤ). position (λ (s : Slotted g.row.G.Denot). holds s.range x) c.split_at.result.0.now) same
    ∙ ap (position (λ (s : Slotted g.row.G.Denot). holds s.range c.args.handle)) c.split_at.ensures.front
    ∙ sym (place_lower c.args.handle c.args.range.high c.args.range.low (length c.args.slots.now / 2) c.args.slots.now c.index-slots-middle.result some small c.index-slots-middle.is c.requires less)

pub place_within-requires-2 : goal.place_within-requires-2
place_within-requires-2 g t c κs within =
    let some : 0 < length c.args.slots.now / 2 = omega (arith, c.if-middle-eq0.false) in
    let small : length c.args.slots.now / 2 < length c.args.slots.now = omega (arith, c.if-middle-eq0.false) in
    let back : to_z w64 (of_z w64 c.low-at.result) ≡ c.low-at.result = to_z-of_z w64 c.low-at.result (record { sfits = c.low-at.type_inv }) in
    let part : c.starting_at.result ≡ part_from c.args.range c.index-slots-middle.result.range.low = c.starting_at.ensures ∙ ap (part_from c.args.range) (back ∙ c.low-at.ensures) in
    let half = upper_half c.args.range.high c.args.range.low (length c.args.slots.now / 2) c.args.slots.now c.index-slots-middle.result some small c.index-slots-middle.is c.requires in (
      omega (arith, ap length c.split_at.ensures.back, c.split_at.ensures.back_len, some),
      (within, subst (λ (r : HandleRange). Cover r c.split_at.result.1.now) (sym part) (subst (Cover (part_from c.args.range c.index-slots-middle.result.range.low)) (sym c.split_at.ensures.back) half)),
    )

pub returns-in-None : goal.returns-in-None
returns-in-None g t c =
    let some : 0 < length c.args.slots.now / 2 = omega (arith, c.if-middle-eq0.false) in
    let small : length c.args.slots.now / 2 < length c.args.slots.now = omega (arith, c.if-middle-eq0.false) in
    let back : to_z w64 (of_z w64 c.low-at.result) ≡ c.low-at.result = to_z-of_z w64 c.low-at.result (record { sfits = c.low-at.type_inv }) in
    let same : to_z w64 (of_z w64 c.args.handle) ≡ c.args.handle = to_z-of_z w64 c.args.handle c.ranges.handle in
    let out : int_lt c.args.handle c.index-slots-middle.result.range.low ≡ false = ap (int_lt c.args.handle) (sym (back ∙ c.low-at.ensures)) ∙ ap (λ (x : ℤ). int_lt x (to_z w64 (of_z w64 c.low-at.result))) (sym same) ∙ c.if-handle-at.false in
    let there : None ≡ position (λ (s : Slotted g.row.G.Denot). holds s.range c.args.handle) (drop (length c.args.slots.now / 2) c.args.slots.now) =
    sym c.in-None.is
    ∙ c.place_within-2.ensures
    ∙ ap (λ (x : ℤ). position (λ (s : Slotted g.row.G.Denot). holds s.range x) c.split_at.result.1.now) same
    ∙ ap (position (λ (s : Slotted g.row.G.Denot). holds s.range c.args.handle)) c.split_at.ensures.back in
    ap (option_map (λ (k : ℕ). length c.args.slots.now / 2 + k)) there
    ∙ sym (place_upper c.args.handle c.args.range.high c.args.range.low (length c.args.slots.now / 2) c.args.slots.now c.index-slots-middle.result some small c.index-slots-middle.is c.requires out)

pub returns-in-Some : goal.returns-in-Some
returns-in-Some g t c =
    let some : 0 < length c.args.slots.now / 2 = omega (arith, c.if-middle-eq0.false) in
    let small : length c.args.slots.now / 2 < length c.args.slots.now = omega (arith, c.if-middle-eq0.false) in
    let back : to_z w64 (of_z w64 c.low-at.result) ≡ c.low-at.result = to_z-of_z w64 c.low-at.result (record { sfits = c.low-at.type_inv }) in
    let same : to_z w64 (of_z w64 c.args.handle) ≡ c.args.handle = to_z-of_z w64 c.args.handle c.ranges.handle in
    let out : int_lt c.args.handle c.index-slots-middle.result.range.low ≡ false = ap (int_lt c.args.handle) (sym (back ∙ c.low-at.ensures)) ∙ ap (λ (x : ℤ). int_lt x (to_z w64 (of_z w64 c.low-at.result))) (sym same) ∙ c.if-handle-at.false in
    let there : Some c.in-Some.place ≡ position (λ (s : Slotted g.row.G.Denot). holds s.range c.args.handle) (drop (length c.args.slots.now / 2) c.args.slots.now) =
    sym c.in-Some.is
    ∙ c.place_within-2.ensures
    ∙ ap (λ (x : ℤ). position (λ (s : Slotted g.row.G.Denot). holds s.range x) c.split_at.result.1.now) same
    ∙ ap (position (λ (s : Slotted g.row.G.Denot). holds s.range c.args.handle)) c.split_at.ensures.back in
    ap (option_map (λ (k : ℕ). length c.args.slots.now / 2 + k)) there
    ∙ sym (place_upper c.args.handle c.args.range.high c.args.range.low (length c.args.slots.now / 2) c.args.slots.now c.index-slots-middle.result some small c.index-slots-middle.is c.requires out)
