-- Room that stays while edits are done.
use Rattle.std.proofs.Common.{◌≡◌, ℕ, ℤ, ◌≤◌, Bool, true, List, [], ◌∷◌, arith}
use Rattle.manifest_form.specs.declared.state.Edit.{Edit}
use Rattle.manifest_form.specs.declared.state.Edit.TheVariants.{Next, Segment, Drop, High, SafePoint, Regions, Count}
use Rattle.manifest_form.specs.Slots.{turn_after, HasRoom, HaveRoom}

pub turn_rises : (edit : Edit) (turn : ℕ) → turn ≤ turn_after edit turn
turn_rises (Next file) turn = omega arith
turn_rises (Segment s) turn = omega arith
turn_rises (Drop id) turn = omega arith
turn_rises (High entries chain) turn = omega arith
turn_rises (SafePoint ts) turn = omega arith
turn_rises (Regions file) turn = omega arith
turn_rises (Count entries) turn = omega arith

one_stays : (slot other : ℤ × ℕ → Bool) (known more : ℕ → Bool) (edit : Edit) (from turn : ℕ) → from ≤ turn → ((q : ℤ × ℕ) → from ≤ q.1 → slot q ≡ true → other q ≡ true) → ((i : ℕ) → known i ≡ true → more i ≡ true) → HasRoom slot known edit turn → HasRoom other more edit turn
one_stays slot other known more (Next file) from turn later slots ids room = tt
one_stays slot other known more (Segment s) from turn later slots ids room = (room.0, slots (s.range.low, turn) later room.1, ids s.id room.2)
one_stays slot other known more (Drop id) from turn later slots ids room = tt
one_stays slot other known more (High entries chain) from turn later slots ids room = tt
one_stays slot other known more (SafePoint ts) from turn later slots ids room = tt
one_stays slot other known more (Regions file) from turn later slots ids room = tt
one_stays slot other known more (Count entries) from turn later slots ids room = tt

-- where the slots of later turns and the ids stay
pub room_stays : (slot other : ℤ × ℕ → Bool) (known more : ℕ → Bool) (edits : List Edit) (from turn : ℕ) → from ≤ turn → ((q : ℤ × ℕ) → from ≤ q.1 → slot q ≡ true → other q ≡ true) → ((i : ℕ) → known i ≡ true → more i ≡ true) → HaveRoom slot known edits turn → HaveRoom other more edits turn
room_stays slot other known more [] from turn later slots ids room = tt
room_stays slot other known more (edit ∷ edits) from turn later slots ids room =
    let rises = turn_rises edit turn in (
      one_stays slot other known more edit from turn later slots ids room.0,
      room_stays slot other known more edits from (turn_after edit turn) (omega (arith, later, rises)) slots ids room.1,
    )
