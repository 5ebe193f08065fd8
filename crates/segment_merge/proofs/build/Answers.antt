use Rattle.std.proofs.Common.{◌∙◌}
use Rattle.segment_merge.proofs.Seam.{is_segment, rises}
use Rattle.segment_merge.proofs.build.Goals as goal

pub stable_piece-requires-clause-rise : goal.stable_piece-requires-clause-rise
stable_piece-requires-clause-rise g c =
    rises c.args.left.now.range c.args.right.now.range c.in-Ok.first c.in-Ok-present_for_build.second c.in-Ok-together.versions c.requires.touch c.in-Ok-together.ensures c.in-Ok.ensures.rising c.in-Ok-present_for_build.ensures.rising c.in-Ok.ensures.within c.in-Ok-present_for_build.ensures.within

pub returns-in-Ok-merged-clause-shape : goal.returns-in-Ok-merged-clause-shape
returns-in-Ok-merged-clause-shape g c = record {
  job = c.in-Ok-merged.ensures.job;
  views = c.in-Ok-merged.ensures.views;
  safe_point = c.in-Ok-merged.ensures.safe_point;
  piece = is_segment c.args.schema.now c.args.pack_rows c.args.left.now.range c.args.right.now.range c.in-Ok.first c.in-Ok-present_for_build.second c.in-Ok-together.versions c.in-Ok-stable_piece.piece c.in-Ok-merged.built.pieces c.requires.touch c.in-Ok-together.ensures
      c.in-Ok.ensures.rising c.in-Ok-present_for_build.ensures.rising c.in-Ok.ensures.within c.in-Ok-present_for_build.ensures.within (c.in-Ok-stable_piece.ensures.range ∙ c.joined_range-range.ensures) c.in-Ok-stable_piece.ensures.versions c.in-Ok-stable_piece.ensures.bytes c.in-Ok-merged.ensures.pieces;
}
