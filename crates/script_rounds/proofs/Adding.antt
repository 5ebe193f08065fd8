-- One step of the gathering: a round is taken out, has more, and is put back.
use Rattle.std.proofs.Common.{◌≡◌, ◌∙◌, ◌++◌, ◌||◌, ◌==◌, ℕ, Bool, true, false, List, [], Option, Some, None, cond, refl, sym, ap, if◌then◌else◌}
use Rattle.std.proofs.lemmas.Bool.{eqb-true}
use Rattle.std.proofs.lemmas.List.{append-nil}
use Rattle.script_rounds.specs.Rounds.{Done, events_of, reads_of, is_there}
use Rattle.script_rounds.specs.Building.{HasMore, HasTaken}

there_then : (here : Bool) (old mid new : Option Done) (next : Done) → mid ≡ cond here None old → new ≡ cond here (Some next) mid → is_there new ≡ (here || is_there old)
there_then true old mid new next m n = ap is_there n
there_then false old mid new next m n = ap is_there (n ∙ m)

events_more : (here : Bool) (old mid new : Option Done) (next : Done) (more : List ℕ) → (here ≡ true → next.events ≡ events_of old ++ more) → mid ≡ cond here None old → new ≡ cond here (Some next) mid
    → events_of new ≡ events_of old ++ (if here then more else [])
events_more true old mid new next more is m n = ap events_of n ∙ is refl
events_more false old mid new next more is m n = ap events_of (n ∙ m) ∙ sym (append-nil (events_of old))

reads_more : (here : Bool) (old mid new : Option Done) (next : Done) (more : List ℕ) → (here ≡ true → next.reads ≡ reads_of old ++ more) → mid ≡ cond here None old → new ≡ cond here (Some next) mid
    → reads_of new ≡ reads_of old ++ (if here then more else [])
reads_more true old mid new next more is m n = ap reads_of n ∙ is refl
reads_more false old mid new next more is m n = ap reads_of (n ∙ m) ∙ sym (append-nil (reads_of old))

pub more_done : (bound : ℕ) (events reads : List ℕ) (old mid new : ℕ → Option Done) (done next : Done) → HasTaken bound old mid done
    → next.events ≡ done.events ++ events → next.reads ≡ done.reads ++ reads
    → ((b : ℕ) → new b ≡ cond (bound == b) (Some next) (mid b)) → HasMore bound events reads old new
more_done bound events reads old mid new done next taken e r is = record {
  there = λ b. there_then (bound == b) (old b) (mid b) (new b) next (taken.others b) (is b);
  events_then = λ b. events_more (bound == b) (old b) (mid b) (new b) next events (λ same. e ∙ ap (λ d. d ++ events) (taken.events_there ∙ ap (λ x. events_of (old x)) (eqb-true bound b same))) (taken.others b) (is b);
  reads_then = λ b. reads_more (bound == b) (old b) (mid b) (new b) next reads (λ same. r ∙ ap (λ d. d ++ reads) (taken.reads_there ∙ ap (λ x. reads_of (old x)) (eqb-true bound b same))) (taken.others b) (is b);
}
