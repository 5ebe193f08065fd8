-- The line of a script that is refused.
use Rattle.std.specs.Prelude.{ℕ, List, [], ◌++◌, codes}
use Rattle.tool_text.specs.declared.script.ScriptError.{ScriptError}
use Rattle.tool_text.specs.declared.script.ScriptError.TheVariants.{Limit, Text, Field, Memory}

abbrev pub script_error_text : ScriptError → List ℕ
script_error_text Limit = codes "refused script limit\n"
script_error_text Text = codes "refused script text\n"
script_error_text (Field path) = codes "refused script field " ++ (path ++ codes "\n")
script_error_text Memory = []
