-- What is a script isn't refused.
use Rattle.std.proofs.Common.{◌≡◌, ℕ, List, Option, Some, refl, sym, ap, ◌∙◌, arith}
use Rattle.serde_json.specs.Data.{Data}
use Rattle.tool_text.specs.Scripts.{IsScript, IsErrorOf, script_in}
use Rattle.tool_text.specs.declared.script.Script.{Script}
use Rattle.tool_text.specs.declared.script.ScriptError.{ScriptError}
use Rattle.tool_text.specs.declared.script.ScriptError.TheVariants as error

same_value : (x y : Data) → ◌≡◌ {A = Option Data} (Some x) (Some y) → x ≡ y
same_value x y is = cc is

pub no_error : (bytes : List ℕ) (script : Script) (why : ScriptError) → IsScript bytes script → IsErrorOf bytes why → (why ≡ error.Memory → ⊥) → ⊥
no_error bytes script error.Limit is refused other = let few = is.few in absurd (omega (arith, few, refused))
no_error bytes script error.Text is refused other = refused.1 is.value is.json
no_error bytes script (error.Field path) is refused other =
    let same : is.value ≡ refused.value = same_value is.value refused.value (sym is.json.1 ∙ refused.json.1) in
    absurd (cc (sym is.says ∙ ap script_in same ∙ refused.refused))
no_error bytes script error.Memory is refused other = other refl
