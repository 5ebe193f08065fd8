use Rattle.std.proofs.Common.{◌≡◌, ◌∙◌, rules, arith, SFits, w64}
use Rattle.std.specs.Prelude.{int_le}
use Rattle.std.proofs.lemmas.Int.{to_z-of_z}
use Rattle.stable_file.specs.Opened.{packs_of}
use Rattle.learner_read.proofs.Testing.{from_tells}
use Rattle.learner_read.proofs.packs.goes_on_from.Goals as goal

pub returns : goal.returns
returns g c = λ pack at.
    let low_fits : SFits w64 c.low.result = search rules in
    let high_fits : SFits w64 c.high-greatest.result = search rules in
    (λ i. int_le (to_z-of_z w64 c.low.result low_fits i) (to_z-of_z w64 c.high-greatest.result high_fits i))
    ∙ from_tells (packs_of c.args.file.now) c.args.k pack c.high-greatest.result c.low.result (λ none. absurd (omega (arith, none, c.if-k-eq0.false))) at c.high-greatest.ensures c.low.ensures
