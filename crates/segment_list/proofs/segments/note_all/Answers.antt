use Rattle.std.proofs.Common.{◌≡◌, ◌∙◌, ap, refl, sym, cond, ℕ, ℤ, Some, to_z, of_z, w64, arith}
use Rattle.std.specs.BTreeMap.{get, is_at}
use Rattle.std.specs.Ordering.{nat_cmp}
use Rattle.std.proofs.lemmas.Int.{to_z-of_z}
use Rattle.segment_list.proofs.Listed.{one_more_low, still_noted}
use Rattle.segment_list.proofs.segments.note_all.Goals as goal

pub loop-i-init : goal.loop-i-init
loop-i-init g c = record { noted = λ k d lt. absurd (omega (arith, lt)); others = λ q none. refl }

pub loop-i-preserved : goal.loop-i-preserved
loop-i-preserved g c =
    let back : to_z w64 (of_z w64 c.low.result) ≡ c.low.result = to_z-of_z w64 c.low.result (record { sfits = c.low.type_inv }) in
    let put : (q : ℕ) → get nat_cmp c.note.new.lows q ≡ cond (is_at (nat_cmp c.index-slots-i.result.id) q) (Some c.index-slots-i.result.range.low) (get nat_cmp c.loop-i.lows q) = λ q.
    c.in_ok-note.ensures q
    ∙ ap (λ (n : ℕ). cond (is_at (nat_cmp n) q) (Some (to_z w64 (of_z w64 c.low.result))) (get nat_cmp c.loop-i.lows q)) c.id.ensures
    ∙ ap (λ (z : ℤ). cond (is_at (nat_cmp c.index-slots-i.result.id) q) (Some z) (get nat_cmp c.loop-i.lows q)) (back ∙ c.low.ensures) in
    record {
      noted = one_more_low (get nat_cmp c.loop-i.lows) (get nat_cmp c.note.new.lows) c.args.slots.now c.loop-i.i c.index-slots-i.result c.loop-i-test.true c.index-slots-i.is c.requires put c.loop-i.invariant.noted;
      others = λ q none.
          still_noted (get nat_cmp c.loop-i.lows) (get nat_cmp c.note.new.lows) c.index-slots-i.result (Some c.index-slots-i.result.range.low) q (λ e. none c.loop-i.i c.index-slots-i.result (omega arith) (ap (λ s. s.id) (sym c.index-slots-i.is) ∙ e)) (put q)
          ∙ c.loop-i.invariant.others q (λ k d lt. none k d (omega (arith, lt)));
    }

pub returns : goal.returns
returns g c = record {
  noted = λ k d lt. c.loop-i.invariant.noted k d (omega (arith, lt, c.loop-i-test.false));
  others = λ q none. c.loop-i.invariant.others q (λ k d lt. none k d (omega (arith, lt, c.loop-i.auto.i-end)));
}
