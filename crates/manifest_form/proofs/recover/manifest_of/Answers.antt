use Rattle.std.proofs.Common.{length}
use Rattle.manifest_form.proofs.Differ.{state_differ}
use Rattle.manifest_form.proofs.Lawful.{header_lawful}
use Rattle.manifest_form.proofs.Taking.{found, no_longer}
use Rattle.manifest_form.proofs.recover.manifest_of.Goals as goal

pub state_of-requires : goal.state_of-requires
state_of-requires c = record { within = no_longer c.args.bytes.now c.in_ok-header.rest.now c.in_ok-header.header c.in_ok-header.ensures }

pub returns-clause-found : goal.returns-clause-found
returns-clause-found c = found c.args.file c.args.bytes.now c.in_ok-header.rest.now c.in_ok-header.header c.in_ok-state.state c.in_ok-state.at c.in_ok-header.ensures c.in_ok-state.ensures.found

pub returns-clause-lawful : goal.returns-clause-lawful
returns-clause-lawful c = header_lawful (length c.args.bytes.now) c.args.bytes.now c.in_ok-header.header c.in_ok-header.rest.now c.in_ok-header.ensures

pub returns-clause-differ : goal.returns-clause-differ
returns-clause-differ c = state_differ c.args.file (length c.args.bytes.now) c.in_ok-header.rest.now c.in_ok-state.state c.in_ok-state.ensures.gives
