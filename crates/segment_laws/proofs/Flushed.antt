-- A flush of a segment: its layer is packed anew, or stays, and all of it is named.
use Rattle.std.proofs.Common.{◌≡◌, ◌∙◌, ◌⊎◌, inl, inr, refl, sym, subst, ℕ, ◌≤◌, Bool, List, [], ◌∷◌, map, arith}
use Rattle.column_block.specs.declared.cell.Version.{Version}
use Rattle.column_file.specs.declared.file.ColumnFile.{ColumnFile}
use Rattle.flash_types.specs.declared.range.HandleRange.{HandleRange}
use Rattle.committed_log.specs.Lawful.{IsLawful}
use Rattle.committed_log.specs.Log.{Log}
use Rattle.good_replica.specs.Changed.{of_parts}
use Rattle.good_replica.specs.Good.{IsGoodSegment}
use Rattle.good_replica.specs.Trail.{DeltaFile}
use Rattle.delta_layer.specs.Files.{files_of}
use Rattle.delta_layer.specs.Repacked.{Repacked}
use Rattle.prefix_laws.specs.Prefixes.{AreSteps, IsPrefixGood}
use Rattle.prefix_laws.specs.Tagged.{Tagged, file_in, files_at, tagged_of}
use Rattle.prefix_laws.specs.Views.{AreBy}
use Rattle.prefix_laws.proofs.Replica.{all_named}
use Rattle.prefix_laws.proofs.Tagging.{all_by}
use Rattle.segment_laws.specs.Runs.{IsFlush}
use Rattle.segment_laws.proofs.Packs.{repacked_alone}

by_later : (a b : ℕ) (fs : List Tagged) → a ≤ b → AreBy a fs → AreBy b fs
by_later a b [] le by = tt
by_later a b (f ∷ fs) le by = ((let low = by.0 in omega (arith, low, le)), by_later a b fs le by.1)

-- at one count, for any set and mark
module _ (log : Log) (A : ℕ → Bool) (m safe k named : ℕ) (order : named ≤ k) (range : HandleRange) (stable : List Version) (old new : List Tagged) (flush : IsFlush named k old new) where
  abbrev Good : List DeltaFile → Type 0
  Good fs = IsGoodSegment log A m safe (of_parts range stable fs)

  at_count : (fs : List Tagged) (files : List ColumnFile) → AreBy k fs → map file_in fs ≡ files_of files → files_at k fs ≡ files_of files
  at_count fs files by e = all_by k k fs by (omega arith) ∙ e

  anew : Repacked flush.layer flush.renewed ⊎ (flush.renewed ≡ flush.layer) → Good (files_of flush.layer) → Good (files_of flush.renewed)
  anew (inl r) good = repacked_alone log A m safe range stable flush.layer flush.renewed r good
  anew (inr e) good = subst (λ fs. Good (files_of fs)) (sym e) good

  pub flushed_once : Good (files_at k old) → Good (files_at k new)
  flushed_once good = subst Good (sym (at_count new flush.renewed (by_later named k new order flush.by) flush.new_is)) (anew flush.came (subst Good (at_count old flush.layer flush.known flush.old_is) good))

pub flushed_good : (log : Log) → IsLawful log → (S : ℕ → ℕ → Bool) (m safe from last : ℕ) → AreSteps S m last → from ≤ last → (range : HandleRange) (stable : List Version) (old new : List Tagged) → IsFlush from last old new →
    IsPrefixGood log S m safe from last (tagged_of range stable old) → IsPrefixGood log S m safe from last (tagged_of range stable new)
flushed_good log lawful S m safe from last steps order range stable old new flush = all_named log lawful S m safe from last steps order (tagged_of range stable old) (tagged_of range stable new) refl flush.by
    (flushed_once log (S last) m safe last from order range stable old new flush)
