use Rattle.std.proofs.Common.{◌∙◌}
use Rattle.column_block.proofs.Ordered.{rise_of}
use Rattle.delta_layer.proofs.built.stable_bytes.Goals as goal

pub build-requires-clause-rise : goal.build-requires-clause-rise
build-requires-clause-rise c = rise_of c.args.versions.now (λ e. c.if-len-eq0.false (c.len.ensures ∙ e)) c.requires.rise
