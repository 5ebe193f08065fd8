-- What a log has of a region, and what an entry with changes makes of it.
use Rattle.std.specs.Prelude.{◌≡◌, ℕ, suc, true, Option, Some, None, List}
use Rattle.std.specs.List.{list_all}
use Rattle.log_codec.specs.declared.entry.Body.{Body}
use Rattle.log_codec.specs.declared.entry.Body.TheVariants as body
use Rattle.log_codec.specs.declared.entry.Entry.{Entry}
use Rattle.committed_log.specs.Log.{Log, at}
use Rattle.committed_log.specs.Regions.{region}
use Rattle.committed_log.specs.declared.region.Region.{Region}
use Rattle.committed_log.specs.declared.region.Region.TheVariants.{Unborn, Live, Prepared, Gone}
use Rattle.committed_log.specs.Store.{Store}
use Rattle.committed_log.specs.declared.op.FamilyOp.{FamilyOp}
use Rattle.committed_log.specs.declared.region.Descriptor.{Descriptor}
use Rattle.good_replica.specs.Effect.{added}
use Rattle.region_state.specs.Folding.{folded, versions_of, lies_in}
use Rattle.region_state.specs.State.{State, values_in, locks_in}

-- a region with what a store has of its handles
abbrev pub part_of : Store → Descriptor → Option ℕ → State
part_of s d target = record { descriptor = d; target = target; values = values_in d.range s.values; locks = locks_in d.range s.locks }

abbrev pub region_in : Store → Region → Option State
region_in s Unborn = None
region_in s (Live d) = Some (part_of s d None)
region_in s (Prepared d target) = Some (part_of s d (Some target))
region_in s (Gone index) = None

-- a region that is there after the first p entries
abbrev pub has : Log → ℕ → ℕ → Option State
has log p r = region_in (at log p) (region (at log p).regions r)

-- The entry at position p makes of its region, which was s, the fold of these changes. They lie in its range, and the versions that they commit are those that the entry adds.
pub record IsFold (log : Log) (p : ℕ) (e : Entry) (s : State) (changes : List FamilyOp) : Type 0 where
  pub within : list_all (lies_in s.descriptor.range) changes ≡ true
  pub state : has log (suc p) e.region ≡ Some (folded s e.index changes)
  pub versions : versions_of log.schema s changes ≡ added log p

abbrev pub HasNoOps : Body → Type 0
HasNoOps (body.Write ops) = ⊥
HasNoOps (body.Install conf_ver version low high ops) = ⊥
HasNoOps _ = Unit {0}
