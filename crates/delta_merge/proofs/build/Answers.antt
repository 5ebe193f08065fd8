use Rattle.delta_merge.proofs.Kept.{kept_rises, is_segment}
use Rattle.delta_merge.proofs.build.Goals as goal

pub stable_piece-requires-clause-rise : goal.stable_piece-requires-clause-rise
stable_piece-requires-clause-rise g c = kept_rises c.args.safe_point c.in-Ok.present c.in-Ok-keep.kept c.in-Ok-keep.ensures.kept c.in-Ok.ensures.rising

pub returns-in-Ok-merged-clause-shape : goal.returns-in-Ok-merged-clause-shape
returns-in-Ok-merged-clause-shape g c = record {
  job = c.in-Ok-merged.ensures.job;
  views = c.in-Ok-merged.ensures.views;
  safe_point = c.in-Ok-merged.ensures.safe_point;
  piece = is_segment c.args.schema.now c.args.pack_rows c.args.safe_point c.args.view.now.range c.in-Ok.present c.in-Ok-keep.kept c.in-Ok-stable_piece.piece c.in-Ok-merged.built.pieces c.in-Ok-keep.ensures.kept c.in-Ok.ensures.rising c.in-Ok.ensures.within
      c.in-Ok-stable_piece.ensures.range c.in-Ok-stable_piece.ensures.versions c.in-Ok-stable_piece.ensures.bytes c.in-Ok-merged.ensures.pieces;
}
