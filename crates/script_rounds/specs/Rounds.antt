-- To be believed.
-- Which counts of applied entries are bounds of a run, and what is done at each.
use Rattle.std.specs.Prelude.{◌≡◌, ℕ, ◌<◌, ◌+◌, ◌==◌, ◌&&◌, ◌||◌, Bool, true, false, nat_le, min, List, [], ◌∷◌, ◌++◌, Option, Some, None, if◌then◌else◌}
use Rattle.std.specs.BTreeMap.{is_at}
use Rattle.std.specs.List.{list_any}
use Rattle.std.specs.Map.{lookup}
use Rattle.std.specs.Ordering.{nat_cmp}
use Rattle.tool_text.specs.declared.script.Event.{Event}
use Rattle.tool_text.specs.declared.script.Script.{Script}
use Rattle.tool_text.specs.declared.script.ScriptRead.{ScriptRead}

-- the count at which a run over a log of this length ends
abbrev pub end_at : Option ℕ → ℕ → ℕ
end_at None total = total
end_at (Some stop) total = min stop total

abbrev pub end_of : Script → ℕ → ℕ
end_of script total = end_at script.stop_after total

-- the count at which a read is made, in a run that ends here
abbrev pub bound_of : ℕ → ScriptRead → ℕ
bound_of end read = min read.after end

-- the places, from this one on, of those that pass
abbrev pub places_from : {X : Type 0} → (X → Bool) → ℕ → List X → List ℕ
places_from passes n [] = []
places_from passes n (x ∷ xs) = (if passes x then n ∷ [] else []) ++ places_from passes (n + 1) xs

-- an event is run at its count, if the run comes so far
abbrev pub is_run_at : ℕ → ℕ → Event → Bool
is_run_at end b event = event.at == b && nat_le b end

abbrev pub is_made_at : ℕ → ℕ → ScriptRead → Bool
is_made_at end b read = bound_of end read == b

-- a bound is 0, the end, or where an event is run or a read is made
abbrev pub is_bound : ℕ → List Event → List ScriptRead → ℕ → Bool
is_bound end events reads b = 0 == b || end == b || list_any (is_run_at end b) events || list_any (is_made_at end b) reads

-- what is done at a bound: places of events and reads
pub record Done : Type 0 where
  pub events : List ℕ
  pub reads : List ℕ

abbrev pub events_of : Option Done → List ℕ
events_of None = []
events_of (Some done) = done.events

abbrev pub reads_of : Option Done → List ℕ
reads_of None = []
reads_of (Some done) = done.reads

abbrev pub is_there : Option Done → Bool
is_there None = false
is_there (Some done) = true

-- an end, and what is done at each bound
pub record Planned : Type 0 where
  pub end : ℕ
  pub rounds : List (ℕ × Done)

abbrev pub round : Planned → ℕ → Option Done
round plan b = lookup (is_at (nat_cmp b)) plan.rounds

-- the rounds of a script over a log of this length
pub record AreRounds (script : Script) (total : ℕ) (plan : Planned) : Type 0 where
  pub end : plan.end ≡ end_of script total
  pub bounds : (b : ℕ) → is_there (round plan b) ≡ is_bound (end_of script total) script.events script.reads b
  pub events : (b : ℕ) → events_of (round plan b) ≡ places_from (is_run_at (end_of script total) b) 0 script.events
  pub reads : (b : ℕ) → reads_of (round plan b) ≡ places_from (is_made_at (end_of script total) b) 0 script.reads

-- the least bound above a count
pub record IsNextBound (plan : Planned) (bound next : ℕ) : Type 0 where
  pub there : is_there (round plan next) ≡ true
  pub above : bound < next
  pub least : (b : ℕ) → bound < b → b < next → round plan b ≡ None
