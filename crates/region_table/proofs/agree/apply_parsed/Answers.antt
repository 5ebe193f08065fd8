use Rattle.std.proofs.Common.{◌∙◌, sym}
use Rattle.region_table.proofs.Agreeing.{fault_out}
use Rattle.region_table.proofs.Causes.{fault_of}
use Rattle.region_table.proofs.Parsed.{entry_of}
use Rattle.region_table.proofs.agree.apply_parsed.Goals as goal

pub returns-in-Err-Done-clause-no : goal.returns-in-Err-Done-clause-no
returns-in-Err-Done-clause-no c = λ _ A is.
    let e = entry_of c.args.logs.now c.args.parsed.now c.requires.parsed in
    fault_out c.args.logs.now c.told_lawful.ensures A is.closed c.args.parsed.now.position e.0 e.1.here c.in-Err-Done.field-0
    (fault_of c.args.logs.now c.args.table.now c.args.parsed.now.position c.in-Err-Done.field-0 c.in-Err-Done.ensures.cause (λ memory. cc (sym c.in-Err-Done.field-0-is ∙ memory)) A is e.0 e.1.here)

pub returns-in-Err-Early-clause-no : goal.returns-in-Err-Early-clause-no
returns-in-Err-Early-clause-no c = λ _ A is.
    let e = entry_of c.args.logs.now c.args.parsed.now c.requires.parsed in
    fault_out c.args.logs.now c.told_lawful.ensures A is.closed c.args.parsed.now.position e.0 e.1.here c.in-Err-Early.field-0
    (fault_of c.args.logs.now c.args.table.now c.args.parsed.now.position c.in-Err-Early.field-0 c.in-Err-Early.ensures.cause (λ memory. cc (sym c.in-Err-Early.field-0-is ∙ memory)) A is e.0 e.1.here)
