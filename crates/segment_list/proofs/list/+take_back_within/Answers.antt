use Rattle.std.proofs.Common.{map, ◌≡◌, ◌∙◌, sym, ap, subst, ◌<◌, ℕ, ◌/◌, ◌++◌, List, length, take, drop, to_z, of_z, w64, arith}
use Rattle.std.proofs.lemmas.Int.{to_z-of_z}
use Rattle.std.proofs.lemmas.List.{map-append, take-append-drop}
use Rattle.std.specs.List.{take-map, drop-map}
use Rattle.flash_types.specs.Ranges.{part_below, part_from}
use Rattle.flash_types.specs.declared.range.HandleRange.{HandleRange}
use Rattle.segment_list.specs.Lists.{Cover}
use Rattle.segment_list.specs.Slots.{Slotted, absorbed, key_of}
use Rattle.segment_list.proofs.Halves.{back_one, back_silent, key_set, lower_half, upper_half}
use Rattle.segment_list.proofs.list.+take_back_within.Goals as goal

pub returns-then-not-says-clause-back : goal.returns-then-not-says-clause-back
returns-then-not-says-clause-back g t c = λ before tag was.
    back_silent c.args.range tag c.args.clears c.args.adds.now c.args.slots.now before c.requires was (sym c.says.ensures ∙ c.if-not-says.true)

pub returns-then-middle-eq0-clause-back : goal.returns-then-middle-eq0-clause-back
returns-then-middle-eq0-clause-back g t c = λ before tag was.
    back_one (absorbed tag c.args.clears c.args.adds.now) c.args.range.high c.args.range.low c.args.slots.now before c.index-slots-0.result c.take_back.new.self c.requires (omega (arith, c.if-middle-eq0.true)) was (λ b is. c.take_back.ensures.back b tag is)

pub take_back_within-requires : goal.take_back_within-requires
take_back_within-requires g t c κs within =
    let some : 0 < length c.args.slots.now / 2 = omega (arith, c.if-middle-eq0.false) in
    let small : length c.args.slots.now / 2 < length c.args.slots.now = omega (arith, c.if-middle-eq0.false) in
    let back : to_z w64 (of_z w64 c.low-at.result) ≡ c.low-at.result = to_z-of_z w64 c.low-at.result (record { sfits = c.low-at.type_inv }) in
    let at : to_z w64 (of_z w64 c.low-at.result) ≡ c.index-slots-middle.result.range.low = back ∙ c.low-at.ensures ∙ ap (λ (s : Slotted g.row.G.Denot). s.range.low) (sym c.index-slots-middle.is) in
    let lower : Cover c.below.result (take (length c.args.slots.now / 2) c.args.slots.now) = subst (λ (r : HandleRange). Cover r (take (length c.args.slots.now / 2) c.args.slots.now)) (sym (c.below.ensures ∙ ap (part_below c.args.range) at)) (lower_half c.args.range.high c.args.range.low (length c.args.slots.now / 2) c.args.slots.now c.index-slots-middle.result some small c.index-slots-middle.is c.requires) in (
      omega (arith, ap length c.split_at_mut-left.ensures.front, c.split_at_mut-left.ensures.front_len, small),
      (within, subst (Cover c.below.result) (sym c.split_at_mut-left.ensures.front) lower),
    )

pub take_back_within-requires-2 : goal.take_back_within-requires-2
take_back_within-requires-2 g t c κs within =
    let some : 0 < length c.args.slots.now / 2 = omega (arith, c.if-middle-eq0.false) in
    let small : length c.args.slots.now / 2 < length c.args.slots.now = omega (arith, c.if-middle-eq0.false) in
    let back : to_z w64 (of_z w64 c.low-at.result) ≡ c.low-at.result = to_z-of_z w64 c.low-at.result (record { sfits = c.low-at.type_inv }) in
    let at : to_z w64 (of_z w64 c.low-at.result) ≡ c.index-slots-middle.result.range.low = back ∙ c.low-at.ensures ∙ ap (λ (s : Slotted g.row.G.Denot). s.range.low) (sym c.index-slots-middle.is) in
    let upper : Cover c.starting_at.result (drop (length c.args.slots.now / 2) c.args.slots.now) = subst (λ (r : HandleRange). Cover r (drop (length c.args.slots.now / 2) c.args.slots.now)) (sym (c.starting_at.ensures ∙ ap (part_from c.args.range) at)) (upper_half c.args.range.high c.args.range.low (length c.args.slots.now / 2) c.args.slots.now c.index-slots-middle.result some small c.index-slots-middle.is c.requires) in (
      omega (arith, ap length c.split_at_mut-left.ensures.back, c.split_at_mut-left.ensures.back_len, some),
      (within, subst (Cover c.starting_at.result) (sym c.split_at_mut-left.ensures.back) upper),
    )

pub returns-clause-back : goal.returns-clause-back
returns-clause-back g t c = λ before tag was.
    let f : Slotted g.row.G.Denot → Slotted g.row.G.Denot = absorbed tag c.args.clears c.args.adds.now in
    let m : ℕ = length c.args.slots.now / 2 in
    let left : c.take_back_within.new.slots ≡ take m before = c.take_back_within.ensures.back (take m before) tag (c.split_at_mut-left.ensures.front ∙ ap (take m) was ∙ take-map f m before) in
    let right : c.take_back_within-2.new.slots ≡ drop m before = c.take_back_within-2.ensures.back (drop m before) tag (c.split_at_mut-left.ensures.back ∙ ap (drop m) was ∙ drop-map f m before) in
    ap (λ (r : List (Slotted g.row.G.Denot)). r ++ c.take_back_within-2.new.slots) left
    ∙ ap (λ (r : List (Slotted g.row.G.Denot)). take m before ++ r) right
    ∙ take-append-drop m before

pub returns-then-middle-eq0-clause-keys : goal.returns-then-middle-eq0-clause-keys
returns-then-middle-eq0-clause-keys g t c = key_set c.args.slots.now c.index-slots-0.result c.take_back.new.self c.take_back.ensures.key

pub returns-clause-keys : goal.returns-clause-keys
returns-clause-keys g t c =
    map-append key_of c.take_back_within.new.slots c.take_back_within-2.new.slots
    ∙ ap (λ (r : List (ℕ × HandleRange)). r ++ map key_of c.take_back_within-2.new.slots) c.take_back_within.ensures.keys
    ∙ ap (λ (r : List (ℕ × HandleRange)). map key_of c.split_at_mut-left.result.0.now ++ r) c.take_back_within-2.ensures.keys
    ∙ sym (map-append key_of c.split_at_mut-left.result.0.now c.split_at_mut-left.result.1.now)
    ∙ ap (map key_of) (sym c.split_at_mut-left.ensures.value)
