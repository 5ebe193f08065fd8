-- Reading a script from a source.
use Rattle.std.specs.Prelude.{ℕ, List, codes}
use Rattle.log_file.specs.Passages.{Passage, Reads, ReadsBeyond, StaysWithin, ReadFails}
use Rattle.tool_text.specs.Scripts.{IsScript, IsErrorOf, most_script}
use Rattle.tool_text.specs.Refusals.{script_error_text}
use Rattle.tool_text.specs.declared.script.Script.{Script}
use Rattle.tool_text.specs.declared.script.ScriptError.{ScriptError}
use Rattle.tool_text.specs.declared.script.ScriptError.TheVariants as error
use Rattle.replay_tool.specs.declared.script.NoScript.{NoScript}
use Rattle.replay_tool.specs.declared.script.NoScript.TheVariants.{Refused, Failed}

-- the source was read to its end, and its bytes are this script
pub record ReadsScript (p : Passage) (script : Script) : Type 0 where
  pub bytes : List ℕ
  pub read : Reads most_script p bytes
  pub says : IsScript bytes script

-- the source was read to its end, and its bytes are no script for this cause
pub record RefusesScript (p : Passage) (why : ScriptError) : Type 0 where
  pub bytes : List ℕ
  pub read : Reads most_script p bytes
  pub refused : IsErrorOf bytes why

abbrev pub IsRefusalFrom : Passage → ScriptError → Type 0
IsRefusalFrom p error.Limit = ReadsBeyond most_script p
IsRefusalFrom p error.Memory = StaysWithin most_script p
IsRefusalFrom p other = RefusesScript p other

-- why a source gives no script
abbrev pub IsNoScriptFrom : Passage → NoScript → Type 0
IsNoScriptFrom p (Refused why) = IsRefusalFrom p why
IsNoScriptFrom p Failed = ReadFails most_script p

-- the line of each
abbrev pub no_script_text : NoScript → List ℕ
no_script_text (Refused why) = script_error_text why
no_script_text Failed = codes "fault script\n"
