use Rattle.std.proofs.Common.{Some, ap, sym, ◌∙◌}
use Rattle.std.specs.Option.{option_map}
use Rattle.kv_codec.specs.Views.{view}
use Rattle.committed_log.proofs.Shorts.{short_lies_at, three_at_least}
use Rattle.committed_log.proofs.change.short_of.Goals as goal

pub short_place-place-requires : goal.short_place-place-requires
short_place-place-requires c =
    let some = ap (option_map (λ s. s.now)) c.in-Some.is in
    let lies = short_lies_at c.args.bytes.now (view c.args.write.now) c.in-Some.short.now c.requires some in
    rw c.as_slice.ensures (three_at_least _ _ lies)

pub cut-requires : goal.cut-requires
cut-requires c =
    let some = ap (option_map (λ s. s.now)) c.in-Some.is in
    let lies = short_lies_at c.args.bytes.now (view c.args.write.now) c.in-Some.short.now c.requires some in
    rw (c.short_place-place.ensures, c.as_slice.ensures) lies.0

pub returns-in-Ok-clause-ok : goal.returns-in-Ok-clause-ok
returns-in-Ok-clause-ok c =
    let some = ap (option_map (λ s. s.now)) c.in-Some.is in
    let lies = short_lies_at c.args.bytes.now (view c.args.write.now) c.in-Some.short.now c.requires some in
    let piece = c.in-Ok.ensures.ok in
    ap Some (rw (c.short_place-place.ensures, c.as_slice.ensures) at piece ∙ lies.1) ∙ sym some
