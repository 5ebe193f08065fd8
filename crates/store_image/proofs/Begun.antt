-- A new store stands for a log where nothing is applied.
use Rattle.std.proofs.Common.{◌≡◌, ◌⊎◌, inl, inr, ℕ, Bool, false, [], ◌∷◌, refl, arith}
use Rattle.flash_io.specs.Image.{Image}
use Rattle.flash_types.specs.Ranges.{all_handles}
use Rattle.manifest_form.specs.declared.recover.Recovered.{Recovered}
use Rattle.manifest.specs.Made.{OldOrMade, new_store}
use Rattle.manifest.specs.Stores.{HasStore, IsNew}
use Rattle.committed_log.specs.Log.{Log}
use Rattle.log_laws.specs.Chains.{chain_at}
use Rattle.good_replica.specs.Trail.{Segment}
use Rattle.good_replica.proofs.Replicas.{empty_good}
use Rattle.replica_store.specs.Naming.{is_file_in}
use Rattle.store_image.specs.Images.{Stands, IsEmpty, StandsFor, columns_in}
use Rattle.store_image.proofs.Which.{not_new}

-- the new store of a log
abbrev pub begun : Log → Recovered
begun log = new_store log.table (columns_in log) (chain_at log 0)

abbrev empty_segment : Segment
empty_segment = record { range = all_handles; stable = []; delta = [] }

pub stands_begun : (log : Log) (own : ℕ) (c : Image) → Stands log (λ _. false) own (begun log) c
stands_begun log own c = record {
  table = refl;
  columns = refl;
  segments = empty_segment ∷ [];
  read = (record { range = refl; stable = refl; delta = tt }, tt);
  regions = λ p. refl;
  count = tt;
  good = record { cover = (refl, refl); mark = omega arith; handles = (empty_good log 0 0 all_handles, tt) };
  high = omega arith;
  below = λ p h. absurd (cc h);
  chain = refl;
}

-- it names no file
pub begun_names_none : (log : Log) (file : ℕ) → is_file_in file (begun log).state ≡ false
begun_names_none log file = refl

pub for_begun : (log : Log) (own : ℕ) (c : Image) → HasStore c own (begun log) → StandsFor log (λ _. false) 0 c
for_begun log own c store = inr (record { file = own; has = begun log; store = store; safe_point = refl; stands = stands_begun log own c })

pub old_or_begun : (log : Log) (old : Image → Type 0) (c : Image) → OldOrMade old (begun log) c → old c ⊎ StandsFor log (λ _. false) 0 c
old_or_begun log old c (inl was) = inl was
old_or_begun log old c (inr (apart, inl new)) = inr (inl (record { new = new; none = λ p. refl; no_safe_point = refl }))
old_or_begun log old c (inr (apart, inr store)) = inr (for_begun log 1 c store)

-- ---- where nothing was committed

pub for_new : (log : Log) (c : Image) → IsNew c → StandsFor log (λ _. false) 0 c
for_new log c new = inl (record { new = new; none = λ p. refl; no_safe_point = refl })

pub only_empty : (log : Log) (A : ℕ → Bool) (safe : ℕ) (c : Image) → IsNew c → StandsFor log A safe c → IsEmpty A safe c
only_empty log A safe c new (inl empty) = empty
only_empty log A safe c new (inr it) = absurd (not_new c it.file it.has it.store new)
