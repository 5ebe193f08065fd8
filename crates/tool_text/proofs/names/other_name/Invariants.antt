use Rattle.std.proofs.Common.{◌≡◌, find, not, map, string_bytes}
use Rattle.serde_json.specs.View.{members_view}
use Rattle.tool_text.specs.Reading.{is_one_of, names_in}
use Rattle.tool_text.specs.Scripts.{names_of}
use Rattle.tool_text.proofs.names.other_name.Given as goal

abbrev pub invariant-loop-name : goal.invariant-loop-name
invariant-loop-name l = find (λ name. not (is_one_of (names_of l.object) name)) (map string_bytes l.name-iterator) ≡ find (λ name. not (is_one_of (names_of l.object) name)) (names_in (members_view l.members.entries))
