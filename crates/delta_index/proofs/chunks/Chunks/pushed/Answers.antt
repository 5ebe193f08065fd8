use Rattle.std.proofs.Common.{rules, ◌≡◌, ◌+◌, length, map}
use Rattle.std.specs.Arc.{arc_value}
use Rattle.delta_index.proofs.Pieces.{one_more_chunk}
use Rattle.delta_index.proofs.chunks.Chunks.pushed.Goals as goal

pub invariant_of-result : goal.invariant_of-result
invariant_of-result c =
    let count : c.in-Some.more ≡ c.self.inside.len + length (arc_value c.args.chunk) = search rules in
    one_more_chunk (map arc_value c.self.inside.chunks.items) (arc_value c.args.chunk) c.self.inside.starts.items c.self.inside.len (map arc_value c.add_chunk.new.chunks.items) c.add_start.new.starts.items c.in-Some.more c.self.invariant c.requires c.in_ok-add_chunk.ensures c.in_ok-add_start.ensures count
