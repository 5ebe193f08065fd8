-- Two segments become one.
use Rattle.std.proofs.Common.{◌≡◌, ◌⊎◌, inl, inr, refl, ℕ, ℤ, Bool, true, false, List, [], ◌++◌, map}
use Rattle.column_block.specs.declared.cell.Version.{Version}
use Rattle.flash_types.specs.Ranges.{holds}
use Rattle.flash_types.specs.declared.range.HandleRange.{HandleRange}
use Rattle.committed_log.specs.Lawful.{IsLawful}
use Rattle.committed_log.specs.Log.{Log}
use Rattle.good_replica.specs.Changed.{of_parts, view, had}
use Rattle.good_replica.specs.Effect.{clipped}
use Rattle.good_replica.specs.Front.{front}
use Rattle.good_replica.specs.Good.{IsGoodSegment}
use Rattle.good_replica.specs.Trail.{DeltaFile}
use Rattle.good_replica.proofs.Covering.{clipped_silent}
use Rattle.good_replica.proofs.Installs.{split_half, merged_left, merged_right}

-- each handle is of one of them, and the later files of the other one say nothing of it
pub joined : (log : Log) → IsLawful log → (A : ℕ → Bool) (m safe : ℕ) (left right both : HandleRange) (left_stable right_stable new : List Version) (left_taken left_rest right_taken right_rest : List DeltaFile) →
    ((h : ℤ) → holds both h ≡ true → ((holds left h ≡ true) × (holds right h ≡ false)) ⊎ ((holds right h ≡ true) × (holds left h ≡ false))) →
    ((h : ℤ) (ts : ℕ) → holds left h ≡ true → had h new ts ≡ view h left_stable left_taken ts) → ((h : ℤ) (ts : ℕ) → holds right h ≡ true → had h new ts ≡ view h right_stable right_taken ts) →
    IsGoodSegment log A m safe (of_parts left left_stable (left_taken ++ left_rest)) → IsGoodSegment log A m safe (of_parts right right_stable (right_taken ++ right_rest)) →
    IsGoodSegment log A m safe (of_parts both new (map (clipped left) left_rest ++ map (clipped right) right_rest))
joined log lawful A m safe left right both left_stable right_stable new left_taken left_rest right_taken right_rest one_of same_left same_right good_left good_right h held = elim (one_of h held) [
  | inl l ↦ merged_left log lawful h (front log A h) m safe left both new new [] (map (clipped left) left_rest) (map (clipped right) right_rest) (clipped_silent right h l.1 right_rest) (λ ts. refl)
      (split_half log lawful h (front log A h) m safe left left left_stable new left_taken left_rest l.0 (λ ts. same_left h ts l.0) (good_left h l.0))
  | inr r ↦ merged_right log lawful h (front log A h) m safe right both new new [] (map (clipped right) right_rest) (map (clipped left) left_rest) (clipped_silent left h r.1 left_rest) (λ ts. refl)
      (split_half log lawful h (front log A h) m safe right right right_stable new right_taken right_rest r.0 (λ ts. same_right h ts r.0) (good_right h r.0))
]
