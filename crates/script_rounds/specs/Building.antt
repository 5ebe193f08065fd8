-- How what is done at bounds is gathered.
use Rattle.std.specs.Prelude.{◌≡◌, ℕ, ◌==◌, ◌||◌, ◌++◌, ◌∷◌, [], Bool, List, Option, None, cond, if◌then◌else◌}
use Rattle.std.specs.List.{list_any}
use Rattle.tool_text.specs.declared.script.Event.{Event}
use Rattle.tool_text.specs.declared.script.ScriptRead.{ScriptRead}
use Rattle.script_rounds.specs.Rounds.{Done, events_of, reads_of, is_there, is_run_at, is_made_at, places_from}

-- this more is done at one bound, which is one then
pub record HasMore (bound : ℕ) (events reads : List ℕ) (old new : ℕ → Option Done) : Type 0 where
  pub there : (b : ℕ) → is_there (new b) ≡ (bound == b || is_there (old b))
  pub events_then : (b : ℕ) → events_of (new b) ≡ events_of (old b) ++ (if bound == b then events else [])
  pub reads_then : (b : ℕ) → reads_of (new b) ≡ reads_of (old b) ++ (if bound == b then reads else [])

-- one bound's were taken out
pub record HasTaken (bound : ℕ) (old new : ℕ → Option Done) (done : Done) : Type 0 where
  pub events_there : done.events ≡ events_of (old bound)
  pub reads_there : done.reads ≡ reads_of (old bound)
  pub others : (b : ℕ) → new b ≡ cond (bound == b) None (old b)

-- the event of this place is run besides, in a run that ends here, if that comes so far
pub record HasEvent (end place : ℕ) (event : Event) (old new : ℕ → Option Done) : Type 0 where
  pub there : (b : ℕ) → is_there (new b) ≡ (is_run_at end b event || is_there (old b))
  pub events_then : (b : ℕ) → events_of (new b) ≡ events_of (old b) ++ (if is_run_at end b event then place ∷ [] else [])
  pub reads_then : (b : ℕ) → reads_of (new b) ≡ reads_of (old b)

-- these events are run besides
pub record HasEvents (end : ℕ) (events : List Event) (old new : ℕ → Option Done) : Type 0 where
  pub there : (b : ℕ) → is_there (new b) ≡ (is_there (old b) || list_any (is_run_at end b) events)
  pub events_then : (b : ℕ) → events_of (new b) ≡ events_of (old b) ++ places_from (is_run_at end b) 0 events
  pub reads_then : (b : ℕ) → reads_of (new b) ≡ reads_of (old b)

-- these reads are made besides
pub record HasReads (end : ℕ) (reads : List ScriptRead) (old new : ℕ → Option Done) : Type 0 where
  pub there : (b : ℕ) → is_there (new b) ≡ (is_there (old b) || list_any (is_made_at end b) reads)
  pub events_then : (b : ℕ) → events_of (new b) ≡ events_of (old b)
  pub reads_then : (b : ℕ) → reads_of (new b) ≡ reads_of (old b) ++ places_from (is_made_at end b) 0 reads
