use Rattle.std.proofs.Common.{◌≡◌, ◌∙◌, sym, ap, ℕ, Some, List, get_or, nat_eq}
use Rattle.std.specs.Prelude.{option_map, position}
use Rattle.std.proofs.lemmas.Option.{slice_get-get_or}
use Rattle.segment_list.specs.Slots.{Slotted}
use Rattle.segment_install.proofs.Placed.{found_none, found_there}
use Rattle.segment_install.proofs.Ready.{within_at}
use Rattle.segment_install.proofs.staleness.epoch_of.Goals as goal

pub returns-in-None : goal.returns-in-None
returns-in-None g c = sym (ap (option_map (λ (s : Slotted g.row.G.Denot). s.epoch)) (found_none (λ (s : Slotted g.row.G.Denot). nat_eq s.id c.args.id) c.args.list.now (sym c.slot_with.ensures ∙ c.in-None.is)))

pub returns-in-Some : goal.returns-in-Some
returns-in-Some g c =
    let at : position (λ (s : Slotted g.row.G.Denot). nat_eq s.id c.args.id) c.args.list.now ≡ Some c.in-Some.place = sym c.slot_with.ensures ∙ c.in-Some.is in
    let there : get_or c.args.list.now c.in-Some.place c.index-slots-place.result ≡ c.index-slots-place.result = ap (λ (slots : List (Slotted g.row.G.Denot)). get_or slots c.in-Some.place c.index-slots-place.result) (sym c.slots.ensures) ∙ sym c.index-slots-place.is in
    sym (ap (option_map (λ (s : Slotted g.row.G.Denot). s.epoch))
    (found_there (λ (s : Slotted g.row.G.Denot). nat_eq s.id c.args.id) c.args.list.now c.in-Some.place at
    ∙ slice_get-get_or c.args.list.now c.in-Some.place c.index-slots-place.result (within_at c.args.list.now c.args.id c.in-Some.place c.index-slots-place.result at)
    ∙ ap (λ (s : Slotted g.row.G.Denot). Some s) there)
    ∙ ap (λ (n : ℕ). Some n) (sym c.epoch.ensures))
