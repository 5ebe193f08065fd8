use Rattle.std.proofs.Common.{◌≡◌, ◌∙◌, sym, subst}
use Rattle.region_table.specs.Applying.{IsCause}
use Rattle.region_table.specs.declared.fault.ApplyError.TheVariants as fault
use Rattle.region_table.proofs.Behind.{ready_without}
use Rattle.region_table.proofs.Causes.{cause_is}
use Rattle.region_table.proofs.Parsed.{entry_of}
use Rattle.region_table.proofs.Points.{if_ok, err_weaker}
use Rattle.region_table.proofs.table.RegionTable.apply.Goals as goal

pub apply_ready-requires-clause-ready : goal.apply_ready-requires-clause-ready
apply_ready-requires-clause-ready c = λ A is.
    let e = entry_of c.args.logs.now c.args.parsed.now c.requires.parsed in
    ready_without c.args.logs.now c.told_lawful.ensures A is.closed c.args.parsed.now.position e.0 e.1.here (sym (c.find_fault.ensures A is e.0 e.1.here) ∙ c.in-None.is)

pub returns-in-Some-clause-cause : goal.returns-in-Some-clause-cause
returns-in-Some-clause-cause c =
    let e = entry_of c.args.logs.now c.args.parsed.now c.requires.parsed in
    cause_is c.args.logs.now c.args.self.now c.args.parsed.now.position e.0 e.1.here c.in-Some.why (λ A is x here. sym (c.find_fault.ensures A is x here) ∙ c.in-Some.is)

pub returns-in-None-clause-ready : goal.returns-in-None-clause-ready
returns-in-None-clause-ready c = if_ok c.apply_ready.result (λ A is.
    let e = entry_of c.args.logs.now c.args.parsed.now c.requires.parsed in
    ready_without c.args.logs.now c.told_lawful.ensures A is.closed c.args.parsed.now.position e.0 e.1.here (sym (c.find_fault.ensures A is e.0 e.1.here) ∙ c.in-None.is))

pub returns-in-None-clause-cause : goal.returns-in-None-clause-cause
returns-in-None-clause-cause c = err_weaker c.apply_ready.result (λ why. why ≡ fault.Memory) (IsCause c.args.logs.now c.args.self.now c.args.parsed.now.position)
    (λ why same. subst (IsCause c.args.logs.now c.args.self.now c.args.parsed.now.position) (sym same) (λ A is.
    let e = entry_of c.args.logs.now c.args.parsed.now c.requires.parsed in
    ready_without c.args.logs.now c.told_lawful.ensures A is.closed c.args.parsed.now.position e.0 e.1.here (sym (c.find_fault.ensures A is e.0 e.1.here) ∙ c.in-None.is)))
    c.apply_ready.ensures.memory
