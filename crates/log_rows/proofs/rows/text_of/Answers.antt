use Rattle.std.proofs.Common.{SFits, w64, rules, sym, arith, ◌∙◌, ℤ}
use Rattle.log_rows.specs.declared.fold.Known.{Known}
use Rattle.std.proofs.lemmas.Int.{to_z-of_z}
use Rattle.log_rows.specs.Folds.{shown_rows}
use Rattle.log_rows.proofs.Listed.{text_more, counted_more, count_fits, whole_text}
use Rattle.log_rows.proofs.rows.text_of.Goals as goal

pub overflow_add-count : goal.overflow_add-count
overflow_add-count c =
    let handle : SFits w64 c.in-Some.handle.now = search rules in
    let counted = simp to_z-of_z at c.in_ok-push_row.ensures.counted in
    let fits = c.iter-handle-items.ensures.fits in
    let few = count_fits c.args.schema.now (c.in-Some.handle.now, c.in-Some.known.now) c.next.new.self c.loop-handle.handle-iterator c.args.fold.now.handles.entries c.in-Some.ensures.steps c.loop-handle.count c.loop-handle.invariant.count (sym counted ∙ c.if-branch.true) fits in
    grind (arith, few)

pub loop-handle-preserved-then-branch : goal.loop-handle-preserved-then-branch
loop-handle-preserved-then-branch c =
    let handle : SFits w64 c.in-Some.handle.now = search rules in
    let counted = simp to_z-of_z at c.in_ok-push_row.ensures.counted in
    let line_is = simp to_z-of_z at c.in_ok-push_row.ensures.line in
    let known : ℤ × Known = (c.in-Some.handle.now, c.in-Some.known.now) in
    record {
      text = text_more c.args.schema.now known c.next.new.self c.loop-handle.handle-iterator c.in-Some.ensures.steps c.loop-handle.text.items c.push_row.new.text.items _ c.loop-handle.invariant.text line_is;
      count = counted_more c.args.schema.now known c.next.new.self c.loop-handle.handle-iterator c.in-Some.ensures.steps c.loop-handle.count _ c.loop-handle.invariant.count (sym counted ∙ c.if-branch.true);
    }

pub returns-clause-text : goal.returns-clause-text
returns-clause-text c =
    whole_text c.args.schema.now c.loop-handle.handle-iterator (shown_rows c.args.schema.now c.args.fold.now.handles) c.in-None.ensures.steps.0 c.loop-handle.text.items c.push_count.new.text.items c.loop-handle.count c.loop-handle.invariant.text c.loop-handle.invariant.count c.in_ok-push_count.ensures
