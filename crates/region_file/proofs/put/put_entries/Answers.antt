use Rattle.std.proofs.Common.{◌∙◌}
use Rattle.std.proofs.lemmas.Result.{err_from_is_err_and}
use Rattle.region_file.specs.Spelling as spelling
use Rattle.region_file.specs.Spelling.{EntryFits}
use Rattle.region_file.proofs.Going.{starts, goes_on, fails, ends, ends_fit}
use Rattle.region_file.proofs.put.put_entries.Goals as goal

pub loop-id-init : goal.loop-id-init
loop-id-init c = starts spelling.entry EntryFits c.args.entries.now.entries c.args.into.now.items _ (c.into_iter-id-iterator.ensures.into_iter_gives ∙ c.iter-id-items.ensures.rest)

pub loop-id-preserved : goal.loop-id-preserved
loop-id-preserved c = goes_on spelling.entry EntryFits c.args.entries.now.entries c.args.into.now.items c.loop-id.id-iterator c.next.new.self (c.in-Some.id.now, c.in-Some.entry.now) c.loop-id.into.items c.put_entry.new.into.items c.loop-id.invariant c.in-Some.ensures.steps
    (c.in_ok-put_entry.ensures.bytes) (c.in_ok-put_entry.ensures.fits)

pub returns-in_err-put_entry-clause-bytes : goal.returns-in_err-put_entry-clause-bytes
returns-in_err-put_entry-clause-bytes c =
    let p = err_from_is_err_and c.from_residual.result c.from_residual.ensures.1 in
    rw (p.1) (fails spelling.entry EntryFits c.args.entries.now.entries c.args.into.now.items c.loop-id.id-iterator c.loop-id.into.items c.put_entry.new.into.items c.loop-id.invariant c.in_err-put_entry.ensures.bytes)

pub returns-clause-bytes : goal.returns-clause-bytes
returns-clause-bytes c = ends spelling.entry EntryFits c.args.entries.now.entries c.args.into.now.items c.loop-id.id-iterator c.loop-id.into.items c.loop-id.invariant c.in-None.ensures.steps.0

pub returns-clause-fits : goal.returns-clause-fits
returns-clause-fits c = ends_fit spelling.entry EntryFits c.args.entries.now.entries c.args.into.now.items c.loop-id.id-iterator c.loop-id.into.items c.loop-id.invariant c.in-None.ensures.steps.0
