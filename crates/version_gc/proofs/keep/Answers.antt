use Rattle.std.proofs.Common.{◌≡◌, ◌∙◌, ◌<◌, ℕ, arith, List, ap, sym, subst, length, slice_index, map, slice_get, Some, refl}
use Rattle.std.proofs.lemmas.Result.{IfOk-weaker}
use Rattle.column_block.specs.declared.cell.Version.{Version}
use Rattle.version_gc.specs.Keep.{keep}
use Rattle.version_gc.proofs.Collections.{places_end}
use Rattle.version_gc.proofs.keep.Goals as goal

pub permuted-requires : goal.permuted-requires
permuted-requires c = λ i less.
    let within : i < length c.loop-i.places.items = omega (arith, less, ap length c.deref.ensures.value) in
    subst (λ (places : List ℕ). slice_index places i < length c.args.block.now) (sym c.deref.ensures.value) (c.loop-i.invariant.1 i 0 within)

pub returns : goal.returns
returns c =
    let so_far = subst (λ (places : List ℕ). map (slice_get c.args.block.now) places ≡ map (slice_get c.args.block.now) c.loop-i.places.items) (sym c.deref.ensures.value) refl in
    record {
      kept = IfOk-weaker c.permuted.result (λ (kept : List Version). map Some kept ≡ map (slice_get c.args.block.now) c.deref.result.now) (λ (kept : List Version). kept ≡ keep c.args.safe_point c.args.block.now)
          (λ kept is. places_end c.args.block.now kept c.args.safe_point c.loop-i.i c.loop-i.places.items (omega (arith, c.loop-i-test.false, c.len-i-end.ensures)) c.loop-i.invariant.0 (is ∙ so_far)) c.permuted.ensures;
    }
