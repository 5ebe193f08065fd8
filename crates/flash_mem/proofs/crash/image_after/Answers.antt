use Rattle.std.proofs.Common.{rules, ◌≡◌, ◌+◌, ℕ, List, [], ◌∷◌, ◌++◌, take, sym, subst}
use Rattle.std.proofs.Math.Seq.{take-suc}
use Rattle.flash_mem.specs.declared.history.Call.{Call}
use Rattle.flash_mem.specs.Files.{image_of}
use Rattle.flash_mem.specs.History.{seen_at_last}
use Rattle.flash_mem.specs.Laws.{MayLeave}
use Rattle.flash_mem.proofs.Outcome.{chosen_left, seen_on}
use Rattle.flash_mem.proofs.crash.image_after.Goals as goal

pub loop-call-preserved : goal.loop-call-preserved
loop-call-preserved c =
    let base = image_of c.args.base in
    let seen = image_of c.loop-call.seen in
    let before = take c.loop-call.call-index c.args.calls.now in
    let item = c.call-item.result in
    let push : take (c.loop-call.call-index + 1) c.args.calls.now ≡ before ++ item ∷ [] = search (rules, take-suc c.args.calls.now c.loop-call.call-index item) in
    record {
      left = subst (λ (l : List Call). MayLeave base l (image_of c.outcome_after.new.image)) (sym push)
          (chosen_left base before item seen (image_of c.loop-call.image) (image_of c.outcome_after.new.image) c.loop-call.invariant.reads c.loop-call.invariant.left c.in_ok-outcome_after.ensures);
      reads = λ f. subst (λ (l : List Call). image_of c.seen_next.new.seen f ≡ seen_at_last base l f) (sym push)
          (seen_on base before item seen (image_of c.seen_next.new.seen) c.loop-call.invariant.reads c.in_ok-seen_next.ensures f);
    }
