use Rattle.std.proofs.Common.{take_all, map, slice_get, Some, filter, arith, ◌≡◌, ◌&&◌, refl, ap, ◌∙◌, Bool, true, false}
use Rattle.column_block.specs.declared.cell.Version.{Version}
use Rattle.learner_read.specs.Rows.{is_asked, is_shown, rows_within, shown_rows}
use Rattle.learner_read.proofs.Places.{are_within, first_rows, left_out, row_at, same_items, taken}
use Rattle.learner_read.proofs.rows.shown.Goals as goal
use Rattle.learner_read.proofs.rows.shown.Goals.{then-is_row+in-Ok, else-is_row}

and_both : (a b : Bool) → (a && b) ≡ true → (a ≡ true) × (b ≡ true)
and_both true b e = (refl, e)
and_both false b e = cc e

pub loop-i-preserved : goal.loop-i-preserved
loop-i-preserved c =
    let p : Version → Bool = λ v. is_shown c.args.ts c.args.block.now v && is_asked c.args.clip c.args.cuts.now v.handle in
    let r = row_at p c.args.block.now c.loop-i.i c.is_row.result c.is_row.ensures in
    elim c.if-is_row.branch [
      | then-is_row+in-Ok w ↦ (let both = and_both (is_shown c.args.ts c.args.block.now (r.0)) (is_asked c.args.clip c.args.cuts.now (r.0).handle) (r.2 ∙ w.if-is_row.true) in rw w.places-is (rw w.in-Ok.ensures.items (taken c.args.ts c.args.clip c.args.cuts.now c.args.block.now c.loop-i.i (r.0) c.loop-i.places.items (r.1) (both.0) (both.1) c.loop-i.invariant)))
      | else-is_row w ↦ rw w.places-is (left_out c.args.ts c.args.clip c.args.cuts.now c.args.block.now c.loop-i.i (r.0) c.loop-i.places.items (r.1) (r.2 ∙ w.if-is_row.false) c.loop-i.invariant)
    ]

pub permuted-requires : goal.permuted-requires
permuted-requires c = λ i less.
    let e = are_within c.args.block.now c.as_slice.result.now (first_rows c.args.ts c.args.clip c.args.cuts.now c.args.block.now c.loop-i.i) (ap (map (slice_get c.args.block.now)) c.as_slice.ensures.value ∙ c.loop-i.invariant) in
    e i less

pub returns : goal.returns
returns c = same_items c.in_ok-rows.rows (rows_within c.args.clip c.args.cuts.now (shown_rows c.args.ts c.args.block.now)) (c.in_ok-rows.ensures ∙ ap (map (slice_get c.args.block.now)) c.as_slice.ensures.value ∙ c.loop-i.invariant ∙ ap (λ vs. map Some (rows_within c.args.clip c.args.cuts.now (filter (is_shown c.args.ts c.args.block.now) vs))) (take_all c.loop-i.i c.args.block.now (omega arith)))
