use Rattle.std.proofs.Common.{refl, subst}
use Rattle.tool_text.specs.Words.{AsksFor}
use Rattle.replay_tool.specs.Commands.{run_of}
use Rattle.replay_tool.proofs.Runs.{show_ends, check_ends}
use Rattle.replay_tool.proofs.Clauses.{show_unread, check_unread}
use Rattle.replay_tool.proofs.run.run.Goals as goal

pub returns-in-Ok-Show-clause-ends : goal.returns-in-Ok-Show-clause-ends
returns-in-Ok-Show-clause-ends g c =
    show_ends c.args.words.now _ c.in-Ok-Show.ts c.run_show.result (subst (AsksFor c.args.words.now) c.in-Ok-Show.field-0-is c.in-Ok-Show.ensures.command) c.run_show.ensures

pub returns-in-Ok-Show-clause-unread : goal.returns-in-Ok-Show-clause-unread
returns-in-Ok-Show-clause-unread g c =
    let asked = subst (AsksFor c.args.words.now) c.in-Ok-Show.field-0-is c.in-Ok-Show.ensures.command in
    let run = run_of g.L.Source g.S.Source g.W.Sink c.args.log.now c.run_show.new.log c.args.script.now c.args.script.now c.args.out.now c.run_show.new.out in
    show_unread c.args.words.now run c.in-Ok-Show.ts c.run_show.result _ _ _ _ asked (show_ends c.args.words.now run c.in-Ok-Show.ts c.run_show.result asked c.run_show.ensures) refl

pub returns-in-Ok-Check-clause-ends : goal.returns-in-Ok-Check-clause-ends
returns-in-Ok-Check-clause-ends g c =
    check_ends c.args.words.now _ c.run_check.result (subst (AsksFor c.args.words.now) c.in-Ok-Check.field-0-is c.in-Ok-Check.ensures.command) c.run_check.ensures.ends

pub returns-in-Ok-Check-clause-unread : goal.returns-in-Ok-Check-clause-unread
returns-in-Ok-Check-clause-unread g c =
    let asked = subst (AsksFor c.args.words.now) c.in-Ok-Check.field-0-is c.in-Ok-Check.ensures.command in
    let run = run_of g.L.Source g.S.Source g.W.Sink c.args.log.now c.run_check.new.log c.args.script.now c.run_check.new.script c.args.out.now c.run_check.new.out in
    check_unread c.args.words.now run c.run_check.result _ _ _ _ asked (check_ends c.args.words.now run c.run_check.result asked c.run_check.ensures.ends) c.run_check.ensures.log_first
