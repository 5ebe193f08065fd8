use Rattle.delta_index.proofs.Pieces.{in_chunk}
use Rattle.delta_index.proofs.chunks.Chunks.at.Goals as goal

pub returns : goal.returns
returns c = in_chunk c.args.self.now c.args.k c.chunk_of-j.result c.start-start.result c.chunk.result.now ((lib.IntN.pos 0, 0), (0, 0)) c.chunk_of-j.ensures c.start-start.ensures c.chunk.ensures.same
