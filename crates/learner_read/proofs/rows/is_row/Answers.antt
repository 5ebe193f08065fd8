use Rattle.std.proofs.Common.{◌≡◌, ◌&&◌, ap, ◌∙◌, true, Bool, rules}
use Rattle.column_block.specs.declared.cell.Version.{Version}
use Rattle.learner_read.specs.Rows.{is_asked, is_shown}
use Rattle.learner_read.proofs.Neighbours.{at_place, at_read}
use Rattle.learner_read.proofs.rows.is_row.Goals as goal

pub returns : goal.returns
returns c =
    let v = c.at-version.result.now in
    let q : Bool = is_asked c.args.clip c.args.cuts.now v.handle in
    let shown : is_shown c.args.ts c.args.block.now v ≡ true = at_read (is_shown c.args.ts c.args.block.now) c.args.block.now c.args.i v c.is_shown.result c.at-version.ensures c.is_shown.ensures ∙ c.if-not-is_shown.false in
    let asked : q ≡ c.is_asked.result = search rules in
    at_place (λ (v : Version). is_shown c.args.ts c.args.block.now v && is_asked c.args.clip c.args.cuts.now v.handle) c.args.block.now c.args.i v c.is_asked.result c.at-version.ensures (ap (λ b. b && q) shown ∙ asked)
