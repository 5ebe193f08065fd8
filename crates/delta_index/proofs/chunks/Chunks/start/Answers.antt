use Rattle.std.proofs.Common.{rules, ◌<◌, length, subst}
use Rattle.delta_index.specs.Chunks.{AreChunks}
use Rattle.delta_index.proofs.Pieces.{has_start, start_is}
use Rattle.delta_index.proofs.chunks.Chunks.start.Goals as goal

pub index-requires : goal.index-requires
index-requires c =
    let are : AreChunks c.args.self.now c.self.inside.starts.items c.self.inside.len = subst (λ cs. AreChunks cs c.self.inside.starts.items c.self.inside.len) c.self.view_is c.self.invariant in
    let lt : c.args.j < length c.self.inside.starts.items = has_start c.args.self.now c.self.inside.starts.items c.self.inside.len c.args.j are c.requires in
    search rules

pub returns : goal.returns
returns c =
    let are : AreChunks c.args.self.now c.self.inside.starts.items c.self.inside.len = subst (λ cs. AreChunks cs c.self.inside.starts.items c.self.inside.len) c.self.view_is c.self.invariant in
    start_is c.args.self.now c.self.inside.starts.items c.self.inside.len c.args.j c.index.result.now c.index.result.now are c.requires c.index.ensures
