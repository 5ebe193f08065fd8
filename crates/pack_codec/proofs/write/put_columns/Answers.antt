use Rattle.std.proofs.Common.{◌+◌, ◌++◌, slice_range, ap, sym, subst}
use Rattle.std.proofs.lemmas.Result.{err_from_is_err_and}
use Rattle.std.specs.List.{AllByRecursion, flat_map}
use Rattle.column_codec.proofs.WriteSteps.{starts, goes_on, left_is, fails, is_done}
use Rattle.pack_codec.specs.declared.field.Field.TheVariants.{Cell}
use Rattle.pack_codec.specs.Spelling.{ListFits, list_of, sized}
use Rattle.pack_codec.proofs.ColumnSteps.{left, column_left, none_left}
use Rattle.pack_codec.proofs.write.put_columns.Goals as goal

pub loop-k-init : goal.loop-k-init
loop-k-init c = record {
  bytes = starts c.args.into.now.items (left c.args.columns.now 0 (slice_range c.args.block.now c.args.from c.args.to));
  fits = λ h. h;
}

pub returns-in_err-put_field-clause-bytes : goal.returns-in_err-put_field-clause-bytes
returns-in_err-put_field-clause-bytes c =
    let p = err_from_is_err_and c.from_residual.result c.from_residual.ensures.1 in
    let versions = slice_range c.args.block.now c.args.from c.args.to in
    rw (p.1) (fails c.args.into.now.items c.loop-k.into.items (left c.args.columns.now c.loop-k.k versions) (left c.args.columns.now 0 versions) c.put_field.new.into.items c.loop-k.invariant.bytes c.in_err-put_field.ensures.bytes)

pub loop-k-preserved : goal.loop-k-preserved
loop-k-preserved c =
    let versions = slice_range c.args.block.now c.args.from c.args.to in
    let columns = c.args.columns.now in
    let k = c.loop-k.k in
    let l = list_of c.list_kind-kind.result (Cell k) versions in
    let first = column_left columns k versions _ c.list_kind-kind.result c.loop-k-test.true c.list_kind-kind.ensures in
    let so_far = left_is c.args.into.now.items c.loop-k.into.items (left columns k versions) (sized l ++ left columns (k + 1) versions) (left columns 0 versions) (ap (flat_map sized) first) c.loop-k.invariant.bytes in
    record {
      bytes = goes_on c.args.into.now.items c.loop-k.into.items (sized l) (left columns (k + 1) versions) (left columns 0 versions) c.put_field.new.into.items so_far c.in_ok-put_field.ensures.bytes;
      fits = λ h. c.loop-k.invariant.fits (subst (AllByRecursion ListFits) (sym first) (c.in_ok-put_field.ensures.fits, h));
    }

pub returns-clause-bytes : goal.returns-clause-bytes
returns-clause-bytes c =
    let versions = slice_range c.args.block.now c.args.from c.args.to in
    let none = none_left c.args.columns.now c.loop-k.k versions c.loop-k-test.false in
    is_done c.args.into.now.items c.loop-k.into.items (left c.args.columns.now c.loop-k.k versions) (left c.args.columns.now 0 versions) (ap (flat_map sized) none) c.loop-k.invariant.bytes

pub returns-clause-fits : goal.returns-clause-fits
returns-clause-fits c =
    let none = none_left c.args.columns.now c.loop-k.k (slice_range c.args.block.now c.args.from c.args.to) c.loop-k-test.false in
    c.loop-k.invariant.fits (subst (AllByRecursion ListFits) (sym none) tt)
