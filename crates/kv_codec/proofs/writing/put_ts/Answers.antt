use Rattle.std.proofs.Common.{◌++◌, List, ℕ, ap, ◌∙◌}
use Rattle.std.proofs.lemmas.Result.{on_ok_weaker}
use Rattle.kv_codec.proofs.writing.put_ts.Goals as goal

pub returns-clause-ok : goal.returns-clause-ok
returns-clause-ok c = on_ok_weaker c.append.result (λ e. e ∙ ap (λ (xs : List ℕ). c.args.into.now.items ++ xs) c.to_be_bytes.ensures) c.append.ensures.ok
