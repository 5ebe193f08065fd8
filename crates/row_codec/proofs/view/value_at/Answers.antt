use Rattle.std.proofs.Common.{length, arith}
use Rattle.row_codec.proofs.Views.{piece_fits, slice_get-pieces}
use Rattle.row_codec.proofs.view.value_at.Goals as goal

pub slice_bounds-result-count : goal.slice_bounds-result-count
slice_bounds-result-count c =
    let fits = piece_fits c.args.ends.now (length c.args.values.now) 0 0 c.args.k c.requires.within c.requires.place in
    omega (arith, fits.0, c.start_at-from.ensures, c.at-to.ensures)

pub slice_bounds-result-start : goal.slice_bounds-result-start
slice_bounds-result-start c =
    let fits = piece_fits c.args.ends.now (length c.args.values.now) 0 0 c.args.k c.requires.within c.requires.place in
    omega (arith, fits.0, c.start_at-from.ensures, c.at-to.ensures)

pub slice_bounds-result-end : goal.slice_bounds-result-end
slice_bounds-result-end c =
    let fits = piece_fits c.args.ends.now (length c.args.values.now) 0 0 c.args.k c.requires.within c.requires.place in
    omega (arith, fits.1, c.at-to.ensures)

pub returns : goal.returns
returns c = rw (c.at-to.ensures, c.start_at-from.ensures) (slice_get-pieces 0 c.args.ends.now c.args.values.now c.args.k c.requires.place)
