use Rattle.std.proofs.Common.{◌≡◌, ◌∙◌, ℤ, to_z, of_z, w64, subst}
use Rattle.std.proofs.lemmas.Int.{to_z-of_z}
use Rattle.delta_layer.specs.Built.{AreTwo, IsSegment}
use Rattle.delta_layer.specs.Present.{IsPresent}
use Rattle.delta_layer.specs.declared.built.Piece.{Piece}
use Rattle.segment_split.specs.Halves.{lower, upper}
use Rattle.segment_split.proofs.Cut.{are_segments, have}
use Rattle.segment_split.proofs.halves.build.Goals as goal

pub returns-in-Ok-split-clause-shape : goal.returns-in-Ok-split-clause-shape
returns-in-Ok-split-clause-shape g c =
    let back : to_z w64 (of_z w64 c.args.at) ≡ c.args.at = to_z-of_z w64 c.args.at c.ranges.at in
    record {
      job = c.in-Ok-split.ensures.job;
      views = c.in-Ok-split.ensures.views;
      safe_point = c.in-Ok-split.ensures.safe_point;
      pieces = subst (λ (h : ℤ). AreTwo (λ (l u : Piece). IsSegment c.args.schema.now c.args.pack_rows (lower h c.args.view.now.range) l × IsSegment c.args.schema.now c.args.pack_rows (upper h c.args.view.now.range) u) c.in-Ok-split.built.pieces) back
          (are_segments c.args.schema.now c.args.pack_rows c.args.view.now.range (to_z w64 (of_z w64 c.args.at)) c.in-Ok.present c.in-Ok-cut_at.low c.in-Ok-cut_at.high c.in-Ok-stable_piece.first c.in-Ok-stable_piece-2.second c.in-Ok-split.built.pieces c.in-Ok-cut_at.ensures
          (c.in-Ok-stable_piece.ensures.range ∙ c.lower_half-lower.ensures) c.in-Ok-stable_piece.ensures.versions c.in-Ok-stable_piece.ensures.bytes
          (c.in-Ok-stable_piece-2.ensures.range ∙ c.upper_half-upper.ensures) c.in-Ok-stable_piece-2.ensures.versions c.in-Ok-stable_piece-2.ensures.bytes
          c.in-Ok-split.ensures.pieces);
    }

pub returns-in-Ok-split-clause-exact : goal.returns-in-Ok-split-clause-exact
returns-in-Ok-split-clause-exact g c = λ tells.
    have (IsPresent g.R.Grip.Gripped.bytes c.args.view.now.range c.args.view.now.stable c.args.view.now.delta) c.args.view.now.range (to_z w64 (of_z w64 c.args.at)) c.in-Ok.present c.in-Ok-cut_at.low c.in-Ok-cut_at.high c.in-Ok-stable_piece.first c.in-Ok-stable_piece-2.second c.in-Ok-split.built.pieces c.in-Ok-cut_at.ensures
    c.in-Ok-stable_piece.ensures.versions c.in-Ok-stable_piece-2.ensures.versions c.in-Ok-split.ensures.pieces (c.in-Ok.ensures.exact tells)
