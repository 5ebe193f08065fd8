use Rattle.std.proofs.Common.{ap, ◌≡◌, ◌∙◌}
use Rattle.std.proofs.lemmas.Result.{IfOk-weaker}
use Rattle.committed_log.specs.Reads.{rows_at_end}
use Rattle.log_rows.specs.Folds.{shown_rows}
use Rattle.log_rows.specs.Texts.{rows_text}
use Rattle.log_rows.proofs.Listed.{listed}
use Rattle.log_rows.proofs.rows.rows_text.Goals as goal

pub returns : goal.returns
returns c =
    let log = c.args.logs.now in
    let fold = c.in_ok-fold.fold in
    let rows = listed log c.args.ts fold.values fold.handles c.in_ok-fold.ensures.holds c.text_of.ensures.ordered in
    IfOk-weaker c.text_of.result (λ text. text.items ≡ rows_text (shown_rows c.schema.result.now fold.handles)) (λ text. text.items ≡ rows_text (rows_at_end log c.args.ts))
    (λ text is. is ∙ ap (λ schema. rows_text (shown_rows schema fold.handles)) c.schema.ensures ∙ ap rows_text rows) c.text_of.ensures.text
