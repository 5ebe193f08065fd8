use Rattle.std.proofs.Common.{◌∙◌, sym, ap, ℕ, ◌+◌, Option, add-one}
use Rattle.std.specs.Prelude.{is_some}
use Rattle.segment_due.specs.Infos.{info_of}
use Rattle.segment_due.specs.declared.info.SegInfo.{SegInfo}
use Rattle.segment_due.specs.declared.works.Due.{Due}
use Rattle.segment_due.specs.Works.{first_of, works_on}
use Rattle.segment_due.proofs.Orders.{none_here, one_here}
use Rattle.segment_due.proofs.works.due_in.Goals as goal

pub returns-then-is_some : goal.returns-then-is_some
returns-then-is_some g c =
    let told = c.due_on-due.ensures ∙ ap (λ (i : SegInfo). first_of (works_on c.args.settings.now i c.total_at-next.result)) c.info_of.ensures ∙ ap (λ (n : Option ℕ). first_of (works_on c.args.settings.now (info_of c.index-slots-i.result) n)) c.total_at-next.ensures in
    told ∙ sym (one_here c.args.settings.now c.args.slots.now c.loop-i.i (c.loop-i.i + 1) c.index-slots-i.result (add-one c.loop-i.i) c.loop-i-test.true c.index-slots-i.is (sym (ap (λ (due : Option Due). is_some due) told) ∙ sym c.is_some.ensures ∙ c.if-is_some.true)) ∙ sym c.loop-i.invariant

pub loop-i-preserved : goal.loop-i-preserved
loop-i-preserved g c =
    let told = c.due_on-due.ensures ∙ ap (λ (i : SegInfo). first_of (works_on c.args.settings.now i c.total_at-next.result)) c.info_of.ensures ∙ ap (λ (n : Option ℕ). first_of (works_on c.args.settings.now (info_of c.index-slots-i.result) n)) c.total_at-next.ensures in
    c.loop-i.invariant ∙ none_here c.args.settings.now c.args.slots.now c.loop-i.i (c.loop-i.i + 1) c.index-slots-i.result (add-one c.loop-i.i) c.loop-i-test.true c.index-slots-i.is (sym (ap (λ (due : Option Due). is_some due) told) ∙ sym c.is_some.ensures ∙ c.if-is_some.false)
