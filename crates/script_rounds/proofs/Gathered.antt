-- The gathering of one event or read more.
use Rattle.std.proofs.Common.{◌≡◌, ◌∙◌, ◌+◌, ◌++◌, ◌∷◌, ◌||◌, ◌&&◌, ◌==◌, ◌<◌, ◌≤◌, ℕ, Bool, true, false, List, [], Option, refl, sym, ap, subst, if◌then◌else◌, take, length, arith}
use Rattle.std.specs.Prelude.{nat_le, get_or, min}
use Rattle.std.specs.List.{list_any}
use Rattle.std.proofs.lemmas.Bool.{eqb-true}
use Rattle.std.proofs.lemmas.List.{append-nil, append_assoc, length-take, take_more}
use Rattle.std.proofs.lemmas.List.Folds.{list_any_more}
use Rattle.std.proofs.Math.Bool.{or-false}
use Rattle.tool_text.specs.declared.script.Event.{Event}
use Rattle.tool_text.specs.declared.script.ScriptRead.{ScriptRead}
use Rattle.script_rounds.specs.Rounds.{Done, bound_of, events_of, is_made_at, is_run_at, is_there, places_from, reads_of}
use Rattle.script_rounds.specs.Building.{HasEvent, HasEvents, HasMore, HasReads}

module _ {X : Type 0} (passes : X → Bool) where
  abbrev none : List X
  none = []

  places_more : (n : ℕ) (xs : List X) (x : X) → places_from passes n (xs ++ x ∷ []) ≡ places_from passes n xs ++ (if passes x then (n + length xs) ∷ [] else [])
  places_more n [] x =
      let same : n ≡ n + length none = omega arith in
      append-nil (if passes x then n ∷ [] else []) ∙ ap (λ k. if passes x then k ∷ [] else []) same
  places_more n (y ∷ xs) x =
      let at : n + 1 + length xs ≡ n + length (y ∷ xs) = omega arith in
      ap (λ (ps : List ℕ). (if passes y then n ∷ [] else []) ++ ps) (places_more (n + 1) xs x)
      ∙ sym (append_assoc (if passes y then n ∷ [] else []) (places_from passes (n + 1) xs) (if passes x then (n + 1 + length xs) ∷ [] else []))
      ∙ ap (λ k. (if passes y then n ∷ [] else []) ++ places_from passes (n + 1) xs ++ (if passes x then k ∷ [] else [])) at

  places_taken : (i : ℕ) (xs : List X) (x : X) → i < length xs → get_or xs i x ≡ x → places_from passes 0 (take (i + 1) xs) ≡ places_from passes 0 (take i xs) ++ (if passes x then i ∷ [] else [])
  places_taken i xs x lt here =
      let many : 0 + length (take i xs) ≡ i = omega (arith, length-take i xs, lt) in
      ap (places_from passes 0) (take_more xs i x lt ∙ ap (λ y. take i xs ++ y ∷ []) here)
      ∙ places_more 0 (take i xs) x
      ∙ ap (λ k. places_from passes 0 (take i xs) ++ (if passes x then k ∷ [] else [])) many

  any_taken : (i : ℕ) (xs : List X) (x : X) → i < length xs → get_or xs i x ≡ x → list_any passes (take (i + 1) xs) ≡ (list_any passes (take i xs) || passes x)
  any_taken i xs x lt here = list_any_more passes xs i x lt ∙ ap (λ y. list_any passes (take i xs) || passes y) here

abbrev nil : List ℕ
nil = []

if_nil : (here : Bool) → (if here then nil else nil) ≡ nil
if_nil true = refl
if_nil false = refl

last_first : (here old any : Bool) → (here || (old || any)) ≡ (old || (any || here))
last_first true true any = refl
last_first true false true = refl
last_first true false false = refl
last_first false true any = refl
last_first false false true = refl
last_first false false false = refl

both : (x y : Bool) → (x ≡ true → y ≡ true) → (x && y) ≡ x
both true y is = is refl
both false y is = refl

neither : (x y : Bool) → (x ≡ true → y ≡ false) → (x && y) ≡ false
neither true y is = is refl
neither false y is = refl

fits : (b end : ℕ) → b ≤ end → nat_le b end ≡ true
fits b end le = grind arith

beyond : (b end : ℕ) → end < b → nat_le b end ≡ false
beyond b end lt = grind arith

runs_here : (end b : ℕ) (e : Event) → e.at ≤ end → is_run_at end b e ≡ (e.at == b)
runs_here end b e le = both (e.at == b) (nat_le b end) (λ same. subst (λ x. nat_le x end ≡ true) (eqb-true e.at b same) (fits e.at end le))

runs_nowhere : (end b : ℕ) (e : Event) → end < e.at → is_run_at end b e ≡ false
runs_nowhere end b e lt = neither (e.at == b) (nat_le b end) (λ same. subst (λ x. nat_le x end ≡ false) (eqb-true e.at b same) (beyond e.at end lt))

-- both lists of a step
appended : (new mid old front more : List ℕ) → new ≡ mid ++ more → mid ≡ old ++ front → new ≡ old ++ (front ++ more)
appended new mid old front more n m = n ∙ ap (λ xs. xs ++ more) m ∙ append_assoc old front more

unmoved : (new mid old : List ℕ) (here : Bool) → new ≡ mid ++ (if here then [] else []) → mid ≡ old → new ≡ old
unmoved new mid old here n m = n ∙ (ap (λ xs. mid ++ xs) (if_nil here) ∙ append-nil mid) ∙ m

module _ (end place : ℕ) (e : Event) (old new : ℕ → Option Done) where
  pub event_runs : e.at ≤ end → HasMore e.at (place ∷ []) [] old new → HasEvent end place e old new
  event_runs le more = record {
    there = λ b. more.there b ∙ ap (λ x. x || is_there (old b)) (sym (runs_here end b e le));
    events_then = λ b. more.events_then b ∙ ap (λ x. events_of (old b) ++ (if x then place ∷ [] else [])) (sym (runs_here end b e le));
    reads_then = λ b. unmoved (reads_of (new b)) (reads_of (old b)) (reads_of (old b)) (e.at == b) (more.reads_then b) refl;
  }

pub event_runs_not : (end place : ℕ) (e : Event) (old : ℕ → Option Done) → end < e.at → HasEvent end place e old old
event_runs_not end place e old lt = record {
  there = λ b. ap (λ x. x || is_there (old b)) (sym (runs_nowhere end b e lt));
  events_then = λ b. sym (ap (λ x. events_of (old b) ++ (if x then place ∷ [] else [])) (runs_nowhere end b e lt) ∙ append-nil (events_of (old b)));
  reads_then = λ b. refl;
}

pub event_added : (end i : ℕ) (es : List Event) (e : Event) (old mid new : ℕ → Option Done) → i < length es → get_or es i e ≡ e → HasEvents end (take i es) old mid → HasEvent end i e mid new → HasEvents end (take (i + 1) es) old new
event_added end i es e old mid new lt here so_far more = record {
  there = λ b. more.there b ∙ ap (λ x. is_run_at end b e || x) (so_far.there b) ∙ last_first (is_run_at end b e) (is_there (old b)) (list_any (is_run_at end b) (take i es))
      ∙ ap (λ x. is_there (old b) || x) (sym (any_taken (is_run_at end b) i es e lt here));
  events_then = λ b. appended (events_of (new b)) (events_of (mid b)) (events_of (old b)) (places_from (is_run_at end b) 0 (take i es)) (if is_run_at end b e then i ∷ [] else []) (more.events_then b) (so_far.events_then b)
      ∙ ap (λ xs. events_of (old b) ++ xs) (sym (places_taken (is_run_at end b) i es e lt here));
  reads_then = λ b. more.reads_then b ∙ so_far.reads_then b;
}

pub read_added : (end i : ℕ) (rs : List ScriptRead) (r : ScriptRead) (old mid new : ℕ → Option Done) → i < length rs → get_or rs i r ≡ r → HasReads end (take i rs) old mid → HasMore (bound_of end r) [] (i ∷ []) mid new → HasReads end (take (i + 1) rs) old new
read_added end i rs r old mid new lt here so_far more = record {
  there = λ b. more.there b ∙ ap (λ x. bound_of end r == b || x) (so_far.there b) ∙ last_first (bound_of end r == b) (is_there (old b)) (list_any (is_made_at end b) (take i rs))
      ∙ ap (λ x. is_there (old b) || x) (sym (any_taken (is_made_at end b) i rs r lt here));
  events_then = λ b. unmoved (events_of (new b)) (events_of (mid b)) (events_of (old b)) (bound_of end r == b) (more.events_then b) (so_far.events_then b);
  reads_then = λ b. appended (reads_of (new b)) (reads_of (mid b)) (reads_of (old b)) (places_from (is_made_at end b) 0 (take i rs)) (if bound_of end r == b then i ∷ [] else []) (more.reads_then b) (so_far.reads_then b)
      ∙ ap (λ xs. reads_of (old b) ++ xs) (sym (places_taken (is_made_at end b) i rs r lt here));
}
