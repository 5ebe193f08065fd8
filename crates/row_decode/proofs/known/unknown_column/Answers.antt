use Rattle.std.proofs.Common.{ap, sym, ◌∙◌, List}
use Rattle.std.specs.Prelude.{not, find}
use Rattle.column_block.specs.declared.column.Column.{Column}
use Rattle.row_codec.specs.Rows.{ids_of}
use Rattle.row_decode.specs.Known.{is_known}
use Rattle.row_decode.proofs.Steps.{finds_here, finds_behind}
use Rattle.row_decode.proofs.known.unknown_column.Goals as goal

pub returns-then-not-is_known : goal.returns-then-not-is_known
returns-then-not-is_known c =
    let found = finds_here (λ id. not (is_known c.columns-columns.result.now id)) (ids_of c.args.row.now) c.loop-k.k c.id_at-id.result c.id_at-id.ensures (ap not (sym c.if-not-is_known.ensures)) in
    sym (c.loop-k.invariant ∙ found) ∙ ap (λ (columns : List Column). find (λ id. not (is_known columns id)) (ids_of c.args.row.now)) c.columns-columns.ensures.all

pub loop-k-preserved : goal.loop-k-preserved
loop-k-preserved c = c.loop-k.invariant ∙ finds_behind (λ id. not (is_known c.columns-columns.result.now id)) (ids_of c.args.row.now) c.loop-k.k c.id_at-id.result c.id_at-id.ensures (ap not (sym c.if-not-is_known.ensures))
