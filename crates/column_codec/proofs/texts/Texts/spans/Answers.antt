use Rattle.std.proofs.Common.{sym, ap, ◌∙◌}
use Rattle.column_codec.specs.Spelling.{are_null}
use Rattle.column_codec.proofs.WriteSteps.{are_null_places}
use Rattle.column_codec.proofs.texts.Texts.spans.Goals as goal

pub returns : goal.returns
returns c = ap are_null c.as_slice.ensures.value ∙ sym (are_null_places c.self.inside.bytes.items c.self.inside.spans.items) ∙ ap are_null c.self.view_is
