use Rattle.std.proofs.lemmas.Result.{err_from_is_err_and}
use Rattle.pack_codec.specs.Counted.{HasRows}
use Rattle.pack_codec.specs.Reading.{columns_at}
use Rattle.pack_codec.proofs.ColumnSteps.{goes_on, fails_here, is_done, nothing_before}
use Rattle.pack_codec.proofs.FieldSteps.{all_more}
use Rattle.pack_codec.proofs.read.columns_of.Goals as goal

pub loop-column-init : goal.loop-column-init
loop-column-init c = record {
  read = rw c.in_ok-lists.ensures.items (nothing_before (columns_at c.args.end c.args.count c.args.marks.now c.args.columns.now c.args.bytes.now));
  rows = rw c.in_ok-lists.ensures.items tt;
}

pub returns-in_err-list-clause-exact : goal.returns-in_err-list-clause-exact
returns-in_err-list-clause-exact c =
    let p = err_from_is_err_and c.from_residual-in_err-list.result c.from_residual-in_err-list.ensures.1 in
    let total = columns_at c.args.end c.args.count c.args.marks.now c.args.columns.now c.args.bytes.now in
    rw (p.1, p.2) (fails_here c.args.end c.args.count c.args.marks.now c.args.columns.now c.loop-column.column-index _ c.loop-column.lists.items c.loop-column.rest.now c.in_err-list.field-0.0 total c.loop-column-test.true c.in_err-list.ensures.exact c.loop-column.invariant.read)

pub loop-column-preserved : goal.loop-column-preserved
loop-column-preserved c =
    let total = columns_at c.args.end c.args.count c.args.marks.now c.args.columns.now c.args.bytes.now in
    record {
      read = rw c.in-Ok.ensures.items (goes_on c.args.end c.args.count c.args.marks.now c.args.columns.now c.loop-column.column-index _ c.loop-column.lists.items c.loop-column.rest.now c.in_ok-list.list c.in_ok-list.behind.now total c.loop-column-test.true c.in_ok-list.ensures.exact c.loop-column.invariant.read);
      rows = rw c.in-Ok.ensures.items (all_more (HasRows c.args.count) c.loop-column.lists.items c.in_ok-list.list c.loop-column.invariant.rows c.in_ok-list.ensures.rows);
    }

pub returns-clause-exact : goal.returns-clause-exact
returns-clause-exact c = is_done c.args.end c.args.count c.args.marks.now c.args.columns.now c.loop-column.column-index c.loop-column.lists.items c.loop-column.rest.now (columns_at c.args.end c.args.count c.args.marks.now c.args.columns.now c.args.bytes.now) c.loop-column-test.false c.loop-column.invariant.read
