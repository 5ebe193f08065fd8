use Rattle.std.proofs.Common.{◌≡◌, ◌∙◌, ◌+◌, ◌≤◌, sym, ap, subst, List, length, take, drop, get_or}
use Rattle.std.specs.BTreeMap.{get}
use Rattle.std.specs.Ordering.{nat_cmp}
use Rattle.segment_list.specs.Lists.{AreSegments, CoverAlike, HaveNoted, NumbersDiffer, with_slots}
use Rattle.segment_list.specs.Slots.{Slotted}
use Rattle.segment_list.proofs.Replacing.{news_differ, replaced_segments}
use Rattle.segment_list.proofs.segments.SegmentList.replace.Goals as goal

pub all_noted_with-self-inside-requires : goal.all_noted_with-self-inside-requires
all_noted_with-self-inside-requires g c = subst NumbersDiffer (sym c.as_slice-2.ensures.value) (news_differ c.args.place c.args.count c.args.news.items c.args.self.now c.requires.numbers)

pub invariant_of-self : goal.invariant_of-self
invariant_of-self g c =
    let same : c.args.self.now ≡ c.self.inside.slots.items = sym c.self.view_is in
    let noted = c.all_noted_with-self-inside.ensures in
    subst (AreSegments (get nat_cmp c.all_noted_with-self-inside.new.lows) c.all_noted_with-self-inside.result) (sym c.put_slots.ensures)
    (replaced_segments (get nat_cmp c.self.inside.lows) (get nat_cmp c.forget_some.new.lows) (get nat_cmp c.all_noted_with-self-inside.new.lows) c.self.inside.all_noted c.all_noted_with-self-inside.result c.args.place c.args.count c.args.news.items c.self.inside.slots.items
    c.requires.some
    (subst (λ (slots : List (Slotted g.row.G.Denot)). c.args.place + c.args.count ≤ length slots) same c.requires.within)
    (subst (λ (slots : List (Slotted g.row.G.Denot)). CoverAlike (take c.args.count (drop c.args.place slots)) c.args.news.items) same c.requires.cover)
    (subst (λ (slots : List (Slotted g.row.G.Denot)). NumbersDiffer (with_slots c.args.place c.args.count c.args.news.items slots)) same c.requires.numbers)
    c.self.invariant
    (λ q none. c.forget_some.ensures q (λ k d ge lt e. none k d ge lt (ap (λ (slots : List (Slotted g.row.G.Denot)). (get_or slots k d).id) (sym c.as_slice.ensures.value) ∙ e)))
    (λ yes. (subst (HaveNoted (get nat_cmp c.forget_some.new.lows) (get nat_cmp c.all_noted_with-self-inside.new.lows)) c.as_slice-2.ensures.value (noted yes).0, (noted yes).1)))
