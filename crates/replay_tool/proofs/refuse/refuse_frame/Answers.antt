use Rattle.std.proofs.Common.{◌∙◌, ◌++◌, ap}
use Rattle.log_file.specs.Causes.{refusal_text}
use Rattle.log_file.specs.declared.log.LogError.TheVariants as unread
use Rattle.replay_tool.proofs.Runs.{refusal_ends}
use Rattle.replay_tool.proofs.refuse.refuse_frame.Goals as goal

pub returns-in-Ok : goal.returns-in-Ok
returns-in-Ok g c =
    refusal_ends (unread.Refused c.args.refusal) _ _ c.refuse.result (tt {0})
    (c.deref.ensures.value ∙ c.in-Ok.ensures ∙ ap (λ xs. xs ++ refusal_text c.args.refusal) c.new-text.ensures.items) c.refuse.ensures.written c.refuse.ensures.status
