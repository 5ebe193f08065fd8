use Rattle.std.proofs.Common.{◌∙◌, subst}
use Rattle.column_block.specs.Schemas.{IsSchema}
use Rattle.segment_staging.proofs.Written.{block_written, elsewhere_now, nothing_counted, nothing_named}
use Rattle.segment_staging.proofs.files.stage_block.Goals as goal

pub returns-in_err-bytes-clause-named : goal.returns-in_err-bytes-clause-named
returns-in_err-bytes-clause-named g c = nothing_named g.D.Disk c.args.store.now

pub returns-in_err-bytes-clause-any_moment : goal.returns-in_err-bytes-clause-any_moment
returns-in_err-bytes-clause-any_moment g c = elsewhere_now g.D.Disk g.met.D.Disk.only_now c.args.store.now c.args.number

pub returns-in_err-bytes-clause-counted : goal.returns-in_err-bytes-clause-counted
returns-in_err-bytes-clause-counted g c = nothing_counted g.D.Disk c.args.store.now

pub returns-clause-written : goal.returns-clause-written
returns-clause-written g c = λ image left.
    block_written g.D.Disk c.stage.new.self c.args.schema.now c.args.store.now.manifest.state.next c.args.number c.args.block.now c.as_slice.result.now c.tiny_files_are_read_again.ensures (subst IsSchema c.columns-lawful.ensures.all c.columns-lawful.ensures.lawful) c.requires.suits c.in_ok-bytes.ensures.fits
    (c.as_slice.ensures.value ∙ c.in_ok-bytes.ensures.bytes) c.in_ok-stage.ensures.staged image left
