use Rattle.std.proofs.Common.{◌≡◌, ◌∙◌, ◌+◌, ◌≤◌, sym, ap, subst, ℕ, Some, List, length, take, drop, position, nat_eq}
use Rattle.std.specs.Prelude.{vec_capacity}
use Rattle.segment_list.specs.Slots.{Slotted}
use Rattle.segment_work.specs.Begun.{segments_for}
use Rattle.segment_work.specs.Jobs.{segment_of}
use Rattle.segment_install.specs.Plans.{AreInstalled, CanInstallAt}
use Rattle.segment_install.specs.declared.planned.Install.{Install}
use Rattle.segment_install.proofs.News.{is_found}
use Rattle.segment_install.proofs.Putting.{can_put}
use Rattle.segment_install.proofs.Ready.{can_at}
use Rattle.segment_install.proofs.planned.plan.Goals as goal

pub unreachable-requires : goal.unreachable-requires
unreachable-requires g c = is_found c.args.first c.args.built.now c.args.list.now c.requires (ap (λ (n : ℕ). position (λ (s : Slotted g.row.G.Denot). nat_eq s.id n) c.args.list.now) (sym c.segment_of.ensures) ∙ sym c.slot_with.ensures ∙ c.in_default.is)

pub news_at-requires : goal.news_at-requires
news_at-requires g c =
    let at : position (λ (s : Slotted g.row.G.Denot). nat_eq s.id (segment_of c.args.built.now.job)) c.args.list.now ≡ Some c.in-Some.place = ap (λ (n : ℕ). position (λ (s : Slotted g.row.G.Denot). nat_eq s.id n) c.args.list.now) (sym c.segment_of.ensures) ∙ sym c.slot_with.ensures ∙ c.in-Some.is in
    subst (CanInstallAt c.args.first c.in-Some.place c.args.built.now) (sym c.slots.ensures) (can_at c.args.first c.in-Some.place c.args.built.now c.args.list.now c.requires c.covers.ensures at)

pub returns : goal.returns
returns g c =
    let at : position (λ (s : Slotted g.row.G.Denot). nat_eq s.id (segment_of c.args.built.now.job)) c.args.list.now ≡ Some c.in-Some.place = ap (λ (n : ℕ). position (λ (s : Slotted g.row.G.Denot). nat_eq s.id n) c.args.list.now) (sym c.segment_of.ensures) ∙ sym c.slot_with.ensures ∙ c.in-Some.is in
    let ready : CanInstallAt c.args.first c.in-Some.place c.args.built.now c.args.list.now = can_at c.args.first c.in-Some.place c.args.built.now c.args.list.now c.requires c.covers.ensures at in
    let news : AreInstalled c.args.built.now.job c.args.first c.args.files c.args.built.now (take c.segments_for-count.result (drop c.in-Some.place c.args.list.now)) c.in_ok-slots.slots.items =
    subst (λ (n : ℕ). AreInstalled c.args.built.now.job c.args.first c.args.files c.args.built.now (take n (drop c.in-Some.place c.args.list.now)) c.in_ok-slots.slots.items) (sym c.segments_for-count.ensures)
    (subst (λ (slots : List (Slotted g.row.G.Denot)). AreInstalled c.args.built.now.job c.args.first c.args.files c.args.built.now (take (segments_for c.args.built.now.job) (drop c.in-Some.place slots)) c.in_ok-slots.slots.items) c.slots.ensures c.in_ok-slots.ensures) in
    let room : length c.args.list.now + 2 ≤ vec_capacity c.in_ok-spare.spare = subst (λ (slots : List (Slotted g.row.G.Denot)). length slots + 2 ≤ vec_capacity c.in_ok-spare.spare) c.slots-2.ensures c.in_ok-spare.ensures.room in
    let install : Install g.row.G.Denot = record { place = c.in-Some.place; count = c.segments_for-count.result; slots = c.in_ok-slots.slots; spare = c.in_ok-spare.spare } in
    record {
      place = at;
      count = c.segments_for-count.ensures;
      news = news;
      can = can_put c.args.first c.args.files c.args.built.now c.args.list.now install ready c.segments_for-count.ensures news c.numbers_differ.ensures c.in_ok-spare.ensures.empty room;
    }
