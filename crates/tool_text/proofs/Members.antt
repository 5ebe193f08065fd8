-- The names of an object's members.
use Rattle.std.proofs.Common.{◌≡◌, List, [], ◌∷◌, map, ap, refl, String, string_bytes}
use Rattle.std.specs.declared.alloc.Global.{Global}
use Rattle.serde_json.specs.View.{members_view}
use Rattle.serde_json.specs.declared.value.Value.{Value}
use Rattle.tool_text.specs.Reading.{names_in}

pub names_of_view : (entries : List (String Global × Value)) → map string_bytes (map (λ e. e.0) entries) ≡ names_in (members_view entries)
names_of_view [] = refl
names_of_view (e ∷ entries) = ap (λ names. string_bytes e.0 ∷ names) (names_of_view entries)
