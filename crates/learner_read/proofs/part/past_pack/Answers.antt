use Rattle.std.proofs.Common.{◌≡◌, ◌∙◌, ◌∷◌, [], ap, sym, subst, rules, arith, SFits, to_z, of_z, w64}
use Rattle.std.proofs.lemmas.Int.{to_z-of_z}
use Rattle.flash_types.specs.Ranges.{is_below}
use Rattle.stable_file.specs.Faults.{FailsOrDevice}
use Rattle.stable_file.specs.Opened.{packs_of}
use Rattle.stable_file.specs.declared.pack.Pack.{Pack}
use Rattle.learner_read.specs.Packs.{read_in}
use Rattle.learner_read.specs.Scans.{answers_of}
use Rattle.learner_read.proofs.Going.{is_empty}
use Rattle.learner_read.proofs.Testing.{field_at, pack_at}
use Rattle.learner_read.proofs.Turns.{past_fails, past_read, past_rows}
use Rattle.learner_read.proofs.part.past_pack.Goals as goal

pub returns-then-len-gt0-clause-exact : goal.returns-then-len-gt0-clause-exact
returns-then-len-gt0-clause-exact g c = λ tells pack at.
    let fits : SFits w64 c.low.result = search rules in
    let low = field_at (λ (p : Pack). p.low) (packs_of c.args.file.now) c.args.k pack c.low.result at c.low.ensures ∙ sym (to_z-of_z w64 c.low.result fits) in
    past_rows g.R.Grip.Gripped.bytes c.args.snapshot.now (answers_of g.F.Fn c.args.sieve.now.test) c.args.piece.now c.args.part c.in-Ok.below.part pack (to_z w64 (of_z w64 c.low.result)) c.in-Ok.below.rows (omega (arith, c.if-len-gt0.true, c.len.ensures)) low c.in-Ok.ensures.exact

pub returns-in-Ok-with_pack-clause-exact : goal.returns-in-Ok-with_pack-clause-exact
returns-in-Ok-with_pack-clause-exact g c = λ tells pack at.
    let fits : SFits w64 c.low.result = search rules in
    let low = field_at (λ (p : Pack). p.low) (packs_of c.args.file.now) c.args.k pack c.low.result at c.low.ensures ∙ sym (to_z-of_z w64 c.low.result fits) in
    past_read g.R.Grip.Gripped.bytes c.args.snapshot.now (answers_of g.F.Fn c.args.sieve.now.test) c.args.piece.now c.args.part c.in-Ok.below.part c.in-Ok-with_pack.part pack (to_z w64 (of_z w64 c.low.result)) c.in-Ok.below.rows c.new.result (is_empty c.in-Ok.below.rows c.len.result c.len.ensures c.if-len-gt0.false) c.new.ensures low c.in-Ok.ensures.exact c.in-Ok-with_pack.ensures.from
    (ap (λ o. read_in g.R.Grip.Gripped.bytes o c.in-Ok.below.part.before (pack ∷ [])) c.requires.file ∙ c.in-Ok-with_pack.ensures.exact tells pack at)

pub returns-clause-exact : goal.returns-clause-exact
returns-clause-exact g c = λ tells pack at.
    let fits : SFits w64 c.low.result = search rules in
    let low = field_at (λ (p : Pack). p.low) (packs_of c.args.file.now) c.args.k pack c.low.result at c.low.ensures ∙ sym (to_z-of_z w64 c.low.result fits) in
    past_fails g.R.Grip.Gripped.bytes c.args.snapshot.now (answers_of g.F.Fn c.args.sieve.now.test) c.args.piece.now c.args.part c.in-Ok.below.part pack (to_z w64 (of_z w64 c.low.result)) c.in-Ok.below.rows c.in-Err.error (is_empty c.in-Ok.below.rows c.len.result c.len.ensures c.if-len-gt0.false) low c.in-Ok.ensures.exact c.in-Ok.ensures.cut
    (subst (λ o. FailsOrDevice c.in-Err.error (read_in g.R.Grip.Gripped.bytes o c.in-Ok.below.part.before (pack ∷ []))) (sym c.requires.file) (c.in-Err.ensures.exact tells pack at))

pub rows_below-requires-clause-within : goal.rows_below-requires-clause-within
rows_below-requires-clause-within g c =
    let fits : SFits w64 c.low.result = search rules in
    let at = pack_at (packs_of c.args.file.now) c.args.k c.requires.pack in
    let low = field_at (λ (p : Pack). p.low) (packs_of c.args.file.now) c.args.k at.0 c.low.result at.1 c.low.ensures ∙ sym (to_z-of_z w64 c.low.result fits) in
    ap (λ l. is_below l c.args.piece.now.range.high) (sym low) ∙ c.requires.within at.0 at.1
