use Rattle.std.proofs.Common.{◌≡◌, ℕ, ℤ, Bool, true, drop}
use Rattle.std.specs.Prelude.{is_some}
use Rattle.std.specs.BTreeMap.{get}
use Rattle.std.specs.Ordering.{nat_cmp}
use Rattle.manifest_form.specs.Slots.{place_cmp, present, AllFit, HaveRoom}
use Rattle.manifest_form.proofs.room.make_room.Given as goal

-- Room for the edits that are left, where no slot and no id goes, is room for all.
abbrev pub invariant-loop-edit : goal.invariant-loop-edit
invariant-loop-edit l = record {
  segments : present l.slots.places.entries ≡ present l.fn.slots.places.entries;
  fits : AllFit (get nat_cmp l.slots.ids) l.slots.turn l.slots.places.entries;
  same : l.slots.turn ≡ l.fn.slots.turn;
  room : (slot : ℤ × ℕ → Bool) (known : ℕ → Bool) → ((q : ℤ × ℕ) → is_some (get place_cmp l.slots.places q) ≡ true → slot q ≡ true) → ((i : ℕ) → is_some (get nat_cmp l.slots.ids i) ≡ true → known i ≡ true) → HaveRoom slot known (drop l.edit-index l.edits) l.turn → HaveRoom slot known l.edits l.fn.slots.turn;
}
