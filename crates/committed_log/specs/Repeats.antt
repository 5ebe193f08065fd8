-- To be believed.
-- Which ops say again what their row's last commit says, as where an entry is proposed twice. They change nothing.
use Rattle.std.specs.Prelude.{◌≡◌, ◌<◌, length, ℕ, suc, ℤ, Bool, false, Some, None, Ok, Err, List, [], ◌∷◌, ◌++◌, slice_get, if◌then◌else◌, take}
use Rattle.flash_types.specs.declared.range.HandleRange.{HandleRange}
use Rattle.log_codec.specs.declared.entry.Body.{Body}
use Rattle.log_codec.specs.declared.entry.Body.TheVariants as body
use Rattle.log_codec.specs.declared.entry.Op.{Op}
use Rattle.committed_log.specs.Changes.{change_of}
use Rattle.committed_log.specs.Regions.{region, range_of}
use Rattle.committed_log.specs.Store.{Store, last_commit, is_repeated, after_op, after_ops, cleared}
use Rattle.committed_log.specs.Log.{Log, at}
use Rattle.committed_log.specs.declared.op.FamilyOp.{FamilyOp}
use Rattle.committed_log.specs.declared.op.FamilyOp.TheVariants as change

abbrev pub repeats_change : Store → FamilyOp → Bool
repeats_change s (change.Write h ts start gone short) = is_repeated (last_commit s.commits h) ts start gone
repeats_change s _ = false

abbrev pub repeats_op : ℤ → HandleRange → Store → Op → Bool
repeats_op table range s op = elim (change_of table range op) [ Err fault ↦ false | Ok found ↦ elim found [ None ↦ false | Some c ↦ repeats_change s c ] ]

-- whether the op at place k does, after those before it
abbrev pub repeats_among : ℤ → HandleRange → ℕ → Store → List Op → ℕ → Bool
repeats_among table range p s ops k = elim (slice_get ops k) [ None ↦ false | Some op ↦ repeats_op table range (after_ops table range p s (take k ops)) op ]

-- the places of those that do, the first op's place being k
abbrev pub repeated_from : ℤ → HandleRange → ℕ → Store → ℕ → List Op → List ℕ
repeated_from table range p s k [] = []
repeated_from table range p s k (op ∷ ops) = (if repeats_op table range s op then k ∷ [] else []) ++ repeated_from table range p (after_op table range p s op) (suc k) ops

-- those of an entry with this body, of region r
abbrev pub repeated_in : ℤ → ℕ → Store → ℕ → Body → List ℕ
repeated_in table p s r (body.Write ops) = elim (range_of (region s.regions r)) [ None ↦ [] | Some range ↦ repeated_from table range p s 0 ops ]
repeated_in table p s r (body.Install conf_ver version low high ops) =
    let range : HandleRange = record { low = low; high = high } in repeated_from table range p (cleared range s) 0 ops
repeated_in table p s r _ = []

-- those of the entry at position p
abbrev pub repeated_at : Log → ℕ → List ℕ
repeated_at log p = elim (slice_get log.entries p) [ None ↦ [] | Some e ↦ repeated_in log.table p (at log p) e.region e.body ]

-- a list for each entry
pub record AreRepeats (log : Log) (lists : List (List ℕ)) : Type 0 where
  pub count : length lists ≡ length log.entries
  pub each : (p : ℕ) → p < length log.entries → slice_get lists p ≡ Some (repeated_at log p)

abbrev pub repeats_in : ℤ → ℕ → Store → ℕ → Body → ℕ → Bool
repeats_in table p s r (body.Write ops) k = elim (range_of (region s.regions r)) [ None ↦ false | Some range ↦ repeats_among table range p s ops k ]
repeats_in table p s r (body.Install conf_ver version low high ops) k =
    let range : HandleRange = record { low = low; high = high } in repeats_among table range p (cleared range s) ops k
repeats_in table p s r _ k = false

-- whether the op at place k of the entry at position p says again what its row's last commit says
abbrev pub repeats : Log → ℕ → ℕ → Bool
repeats log p k = elim (slice_get log.entries p) [ None ↦ false | Some e ↦ repeats_in log.table p (at log p) e.region e.body k ]
