use Rattle.std.proofs.Common.{◌≡◌, map, drop}
use Rattle.serde_json.specs.View.{view}
use Rattle.tool_text.specs.Reading.{each}
use Rattle.tool_text.proofs.Eaches.{behind}
use Rattle.tool_text.proofs.list.each_of.Given as goal

abbrev pub invariant-loop-place : goal.invariant-loop-place
invariant-loop-place g l = each g.T.FromJson.reading 0 (map view l.values) ≡ behind g.T.FromJson.reading l.place (map view (drop l.place l.values)) l.items
