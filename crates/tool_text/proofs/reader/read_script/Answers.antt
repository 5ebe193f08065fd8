use Rattle.std.proofs.Common.{rules}
use Rattle.tool_text.specs.Scripts.{IsScript}
use Rattle.tool_text.proofs.Within.{within_limits}
use Rattle.tool_text.proofs.reader.read_script.Goals as goal

pub returns-in-Ok-script_of-clause-within : goal.returns-in-Ok-script_of-clause-within
returns-in-Ok-script_of-clause-within c =
    let is : IsScript c.args.bytes.now c.in-Ok-script_of.script = search rules in
    within_limits c.args.bytes.now c.in-Ok-script_of.script is
