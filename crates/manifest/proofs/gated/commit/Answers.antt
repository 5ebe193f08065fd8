use Rattle.std.proofs.Common.{rules, ◌≡◌, ap, Err}
use Rattle.manifest.specs.Gated.{record_of}
use Rattle.std.proofs.lemmas.Result.{err_from_is_err_and}
use Rattle.manifest.proofs.TwoWrites.{was_memory, steady_staged, between, fits_closed, fits_between, durable_staged, steady_opened, first_run, second_run}
use Rattle.manifest.proofs.gated.commit.Goals as goal

pub write_durable-requires : goal.write_durable-requires
write_durable-requires g c =
    let steady = c.requires.steady in
    record { durable = (steady.2.0, fits_closed steady.0 steady.2.0 c.args.at steady.1 steady.2.1, steady.2.2) }

pub write_durable-requires-2 : goal.write_durable-requires-2
write_durable-requires-2 g c =
    let steady = c.requires.steady in
    let is : c.as_slice.result.now ≡ record_of c.args.bytes.now = search rules in
    let written = c.in_ok-write_durable.ensures.written steady.2.0 steady.2.2 in
    record {
      durable = (
        between c.args.file c.args.at steady.0 c.args.bytes.now c.as_slice.result.now steady.2.0 steady.2.1 steady.1 is,
        fits_between c.args.file c.args.at steady.0 c.args.bytes.now c.as_slice.result.now steady.2.0 steady.2.1 steady.1 is,
        durable_staged c.args.file c.args.at steady.0 c.args.bytes.now c.as_slice.result.now steady.2.0 steady.2.1 steady.1 is _ written,
      );
    }

pub returns-in_err-write_durable-clause-any_moment : goal.returns-in_err-write_durable-clause-any_moment
returns-in_err-write_durable-clause-any_moment g c part size steady =
    let D = g.D.Disk in
    let is : c.as_slice.result.now ≡ record_of c.args.bytes.now = search rules in
    first_run c.args.file c.args.at part c.args.bytes.now c.as_slice.result.now steady.0 steady.1 size is D.moment D.left_since D.may_leave g.met.D.Disk.counts_now _ _ (c.write_durable.ensures.any_moment steady.0 steady.2)

pub returns-in_err-write_durable-2-clause-any_moment : goal.returns-in_err-write_durable-2-clause-any_moment
returns-in_err-write_durable-2-clause-any_moment g c part size steady =
    let D = g.D.Disk in
    let is : c.as_slice.result.now ≡ record_of c.args.bytes.now = search rules in
    let first = first_run c.args.file c.args.at part c.args.bytes.now c.as_slice.result.now steady.0 steady.1 size is D.moment D.left_since D.may_leave g.met.D.Disk.counts_now _ _ (c.write_durable.ensures.any_moment steady.0 steady.2) in
    let now = durable_staged c.args.file c.args.at part c.args.bytes.now c.as_slice.result.now steady.0 steady.1 size is _ (c.in_ok-write_durable.ensures.written steady.0 steady.2) in
    second_run c.args.file c.args.at part c.args.bytes.now c.as_slice.result.now steady.0 steady.1 size is D.moment D.left_since D.may_leave g.met.D.Disk.counts_now _ _ _ first (c.write_durable-2.ensures.any_moment _ now)

pub returns-clause-any_moment : goal.returns-clause-any_moment
returns-clause-any_moment g c part size steady =
    let D = g.D.Disk in
    let is : c.as_slice.result.now ≡ record_of c.args.bytes.now = search rules in
    let first = first_run c.args.file c.args.at part c.args.bytes.now c.as_slice.result.now steady.0 steady.1 size is D.moment D.left_since D.may_leave g.met.D.Disk.counts_now _ _ (c.write_durable.ensures.any_moment steady.0 steady.2) in
    let now = durable_staged c.args.file c.args.at part c.args.bytes.now c.as_slice.result.now steady.0 steady.1 size is _ (c.in_ok-write_durable.ensures.written steady.0 steady.2) in
    second_run c.args.file c.args.at part c.args.bytes.now c.as_slice.result.now steady.0 steady.1 size is D.moment D.left_since D.may_leave g.met.D.Disk.counts_now _ _ _ first (c.write_durable-2.ensures.any_moment _ now)

pub returns-clause-committed : goal.returns-clause-committed
returns-clause-committed g c part size steady =
    let is : c.as_slice.result.now ≡ record_of c.args.bytes.now = search rules in
    let now = durable_staged c.args.file c.args.at part c.args.bytes.now c.as_slice.result.now steady.0 steady.1 size is _ (c.in_ok-write_durable.ensures.written steady.0 steady.2) in
    steady_opened c.args.file c.args.at part c.args.bytes.now c.as_slice.result.now steady.0 steady.1 size is _ (c.in_ok-write_durable-2.ensures.written _ now)

pub returns-in_err-write_durable-2-clause-memory : goal.returns-in_err-write_durable-2-clause-memory
returns-in_err-write_durable-2-clause-memory g c part size steady memory =
    let is : c.as_slice.result.now ≡ record_of c.args.bytes.now = search rules in
    let now = durable_staged c.args.file c.args.at part c.args.bytes.now c.as_slice.result.now steady.0 steady.1 size is _ (c.in_ok-write_durable.ensures.written steady.0 steady.2) in
    let p = err_from_is_err_and c.from_residual-in_err-write_durable-2.result c.from_residual-in_err-write_durable-2.ensures.1 in
    let none_new = (c.in_err-write_durable-2.ensures.memory (ap Err (was_memory c.in_err-write_durable-2.field-0.0 p.0 p.2 (cc (p.1, memory))))).1 in
    steady_staged c.args.file c.args.at part c.args.bytes.now c.as_slice.result.now steady.0 steady.1 size is _ (λ d left. now d (none_new d left))
