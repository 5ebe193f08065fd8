-- At a closed set of applied entries no two regions that a table has there have a handle in common.
use Rattle.std.proofs.Common.{◌≡◌, ◌≢◌, ◌∙◌, refl, sym, ap, ℕ, ℤ, Bool, true, false, true≢false, cond, ◌&&◌, Option, Some, None, List, is_some, int_le}
use Rattle.flash_types.specs.Ranges.{holds}
use Rattle.flash_types.specs.declared.range.HandleRange.{HandleRange}
use Rattle.committed_log.specs.Admission.{least_common}
use Rattle.committed_log.specs.Applied.{IsClosed, applied}
use Rattle.committed_log.specs.Lawful.{IsLawful}
use Rattle.committed_log.specs.Log.{Log}
use Rattle.committed_log.specs.Regions.{range_of}
use Rattle.committed_log.specs.declared.region.Region.TheVariants.{Live, Prepared}
use Rattle.log_laws.proofs.Apart.{ranges_apart}
use Rattle.region_state.specs.State.{State}
use Rattle.region_table.specs.Table.{Kept, AreRegionsAt, kept_in, state_there, state_kept}
use Rattle.region_file.specs.declared.entry.Entry.TheVariants as kept
use Rattle.region_table.proofs.Sets.{state_is}

-- two ranges without a handle in common have no least one
pub none_common : (a b : HandleRange) → ((h : ℤ) → holds a h ≡ true → holds b h ≡ true → ⊥) → is_some (least_common a b) ≡ false
none_common a b none =
    let low : ℤ = cond (int_le a.low b.low) b.low a.low in
    by low (holds a low) (holds b low) (none low)
  where
    by : (low : ℤ) (x y : Bool) → (x ≡ true → y ≡ true → ⊥) → is_some (cond (x && y) (Some low) None) ≡ false
    by low true true never = absurd (never refl refl)
    by low true false never = refl
    by low false y never = refl

-- the ranges of two regions that are there at a closed set have no handle in common
pub apart_at : (log : Log) → IsLawful log → (A : ℕ → Bool) → IsClosed log A → (r q : ℕ) → r ≢ q → (a b : HandleRange) → range_of (applied log A r) ≡ Some a → range_of (applied log A q) ≡ Some b → is_some (least_common a b) ≡ false
apart_at log lawful A closed r q apart a b there other = none_common a b (λ h held too. true≢false (sym too ∙ ranges_apart log lawful A closed r q apart a b there other h held))

-- ---- in a table

range_there : (s : State) → range_of (state_there s) ≡ Some s.descriptor.range
range_there s = by s.target
  where
    by : (target : Option ℕ) → range_of (elim target [ None ↦ Live s.descriptor | Some target ↦ Prepared s.descriptor target ]) ≡ Some s.descriptor.range
    by None = refl
    by (Some target) = refl

range_kept : (log : Log) (A : ℕ → Bool) (regions : List (ℕ × Kept)) → AreRegionsAt log A regions → (r : ℕ) (s : State) → kept_in regions r ≡ Some (kept.There s) → range_of (applied log A r) ≡ Some s.descriptor.range
range_kept log A regions is r s there = ap range_of (sym (state_is log A regions is r)) ∙ ap (λ k. range_of (state_kept k)) there ∙ range_there s

-- the ranges of two regions that a table has there have no handle in common
pub tables_apart : (log : Log) → IsLawful log → (A : ℕ → Bool) (regions : List (ℕ × Kept)) → AreRegionsAt log A regions → (r q : ℕ) → r ≢ q → (s s' : State) → kept_in regions r ≡ Some (kept.There s) → kept_in regions q ≡ Some (kept.There s') → is_some (least_common s.descriptor.range s'.descriptor.range) ≡ false
tables_apart log lawful A regions is r q apart s s' there other = apart_at log lawful A is.closed r q apart s.descriptor.range s'.descriptor.range (range_kept log A regions is r s there) (range_kept log A regions is q s' other)
