-- What installs do to the contents at each count.
use Rattle.std.proofs.Common.{◌≡◌, ◌∙◌, ◌⊎◌, inl, inr, refl, sym, ap, subst, ℕ, ◌<◌, ◌≤◌, max, min, ℤ, Bool, true, false, List, [], ◌∷◌, ◌++◌, map, arith}
use Rattle.std.specs.List.{AllByRecursion}
use Rattle.column_block.specs.declared.cell.Version.{Version}
use Rattle.flash_types.specs.Ranges.{holds}
use Rattle.flash_types.specs.declared.range.HandleRange.{HandleRange}
use Rattle.committed_log.specs.Lawful.{IsLawful}
use Rattle.committed_log.specs.Log.{Log}
use Rattle.good_replica.specs.Changed.{IsCollected, of_parts, had, view}
use Rattle.good_replica.specs.Front.{front}
use Rattle.good_replica.specs.Good.{IsGoodOn, IsGoodSegment}
use Rattle.good_replica.specs.Trail.{DeltaFile, trail, versions_on}
use Rattle.good_replica.proofs.Installs.{delta_merged, into_stable}
use Rattle.prefix_laws.specs.Tagged.{Tagged, file_in, files_at, content, tagged_of}
use Rattle.prefix_laws.specs.Prefixes.{AreSteps, IsPrefixGood}
use Rattle.prefix_laws.specs.Views.{AreBy, AreLaterOrNamed}
use Rattle.prefix_laws.specs.Clipped.{SaySame, in_order, clip}
use Rattle.prefix_laws.proofs.Lifting.{lift_on}
use Rattle.prefix_laws.proofs.Tagging.{at_both, all_by, later_same, clip_says, order_left, order_right}

module _ (log : Log) (lawful : IsLawful log) (S : ℕ → ℕ → Bool) (m safe from last : ℕ) (steps : AreSteps S m last) where
  -- One handle of a segment whose view was taken at a count: the view's files go into a new stable part, and of the others the new files say what they said.
  module _ (h : ℤ) (range other : HandleRange) (stable new : List Version) (taken rest files : List Tagged) (at : ℕ) (low : from ≤ at) (high : at ≤ last) (by : AreBy at taken) (later : AreLaterOrNamed from at rest) (says : SaySame h files rest)
      (good : (k : ℕ) → from ≤ k → k ≤ last → IsGoodOn log h (front log (S k) h) m safe (trail h (content k (tagged_of range stable (taken ++ rest))))) where
    -- what the law for one set makes of the old content
    abbrev Installs : Type 0
    Installs = (k : ℕ) (others : List DeltaFile) → IsGoodOn log h (front log (S k) h) m safe (trail h (of_parts range stable (map file_in taken ++ others))) → IsGoodOn log h (front log (S k) h) m safe (trail h (of_parts range new others))

    says_at : (k : ℕ) → trail h (content k (tagged_of other new files)) ≡ trail h (of_parts range new (files_at k rest))
    says_at k = ap (λ ss. record { stable = versions_on h new; steps = ss }) (says k)

    old_at : (k : ℕ) → at ≤ k → files_at k (taken ++ rest) ≡ map file_in taken ++ files_at k rest
    old_at k le = at_both k taken rest ∙ ap (λ fs. fs ++ files_at k rest) (all_by at k taken by le)

    pub installed : Installs → (k : ℕ) → from ≤ k → k ≤ last → IsGoodOn log h (front log (S k) h) m safe (trail h (content k (tagged_of other new files)))
    installed law k begins ends = lift_on log lawful h S m safe last at steps high (λ k. trail h (content k (tagged_of other new files)))
        (λ j le under. subst (IsGoodOn log h (front log (S j) h) m safe) (sym (says_at j)) (law j (files_at j rest) (subst (λ fs. IsGoodOn log h (front log (S j) h) m safe (trail h (of_parts range stable fs))) (old_at j le) (good j (omega (arith, low, le)) under))))
        k ends (λ lt. says_at k ∙ ap (λ fs. trail h (of_parts range new fs)) (later_same from at k rest later begins (omega (arith, lt))) ∙ sym (says_at at))

  -- ---- a delta merge
  pub delta_merge : (range : HandleRange) (stable new : List Version) (taken rest : List Tagged) (at at_safe : ℕ) → from ≤ at → at ≤ last → AreBy at taken → AreLaterOrNamed from at rest → at_safe ≤ safe →
      ((h : ℤ) → holds range h ≡ true → IsCollected at_safe (view h stable (map file_in taken)) (had h new)) →
      IsPrefixGood log S m safe from last (tagged_of range stable (taken ++ rest)) → IsPrefixGood log S m safe from last (tagged_of range new rest)
  delta_merge range stable new taken rest at at_safe low high by later under is good k begins ends h held =
      installed h range range stable new taken rest rest at low high by later (λ j. refl) (λ j a b. good j a b h held)
      (λ j others old. delta_merged log lawful h (front log (S j) h) m safe range stable new (map file_in taken) others at_safe under (is h held) old) k begins ends

  -- ---- a half of a split
  pub split : (range half : HandleRange) (stable new : List Version) (taken rest : List Tagged) (at : ℕ) → from ≤ at → at ≤ last → AreBy at taken → AreLaterOrNamed from at rest →
      ((h : ℤ) → holds half h ≡ true → holds range h ≡ true) → ((h : ℤ) (ts : ℕ) → holds half h ≡ true → had h new ts ≡ view h stable (map file_in taken) ts) →
      IsPrefixGood log S m safe from last (tagged_of range stable (taken ++ rest)) → IsPrefixGood log S m safe from last (tagged_of half new (clip half rest))
  split range half stable new taken rest at low high by later inside same good k begins ends h held =
      installed h range half stable new taken rest (clip half rest) at low high by later (clip_says half h rest held) (λ j a b. good j a b h (inside h held))
      (λ j others old. into_stable log lawful h (front log (S j) h) m safe range stable new (map file_in taken) others (λ ts. same h ts held) old) k begins ends

  -- ---- a merge: each view may be of a count of its own
  pub merge : (left right both : HandleRange) (left_stable right_stable new : List Version) (left_taken left_named left_more right_taken right_named right_more : List Tagged) (left_at right_at : ℕ) →
      from ≤ left_at → left_at ≤ last → from ≤ right_at → right_at ≤ last → AreBy left_at left_taken → AreBy right_at right_taken →
      AreLaterOrNamed from left_at (left_named ++ left_more) → AreLaterOrNamed from right_at (right_named ++ right_more) →
      ((h : ℤ) → holds both h ≡ true → ((holds left h ≡ true) × (holds right h ≡ false)) ⊎ ((holds right h ≡ true) × (holds left h ≡ false))) →
      ((h : ℤ) (ts : ℕ) → holds left h ≡ true → had h new ts ≡ view h left_stable (map file_in left_taken) ts) → ((h : ℤ) (ts : ℕ) → holds right h ≡ true → had h new ts ≡ view h right_stable (map file_in right_taken) ts) →
      IsPrefixGood log S m safe from last (tagged_of left left_stable (left_taken ++ (left_named ++ left_more))) → IsPrefixGood log S m safe from last (tagged_of right right_stable (right_taken ++ (right_named ++ right_more))) →
      IsPrefixGood log S m safe from last (tagged_of both new (in_order left right left_named right_named left_more right_more))
  merge left right both left_stable right_stable new left_taken left_named left_more right_taken right_named right_more left_at right_at low_left high_left low_right high_right by_left by_right later_left later_right one_of same_left same_right good_left good_right k begins ends h held =
      elim (one_of h held) [
        | inl l ↦ installed h left both left_stable new left_taken (left_named ++ left_more) (in_order left right left_named right_named left_more right_more) left_at low_left high_left by_left later_left (order_left left right left_named right_named left_more right_more h l.0 l.1) (λ j a b. good_left j a b h l.0)
            (λ j others old. into_stable log lawful h (front log (S j) h) m safe left left_stable new (map file_in left_taken) others (λ ts. same_left h ts l.0) old) k begins ends
        | inr r ↦ installed h right both right_stable new right_taken (right_named ++ right_more) (in_order left right left_named right_named left_more right_more) right_at low_right high_right by_right later_right (order_right left right left_named right_named left_more right_more h r.0 r.1) (λ j a b. good_right j a b h r.0)
            (λ j others old. into_stable log lawful h (front log (S j) h) m safe right right_stable new (map file_in right_taken) others (λ ts. same_right h ts r.0) old) k begins ends
      ]

-- ---- at one count, for any set and mark: what is in memory is there at the last count
module _ (log : Log) (lawful : IsLawful log) (A : ℕ → Bool) (m safe k : ℕ) where
  taken_at : (taken rest : List Tagged) → AreBy k taken → files_at k (taken ++ rest) ≡ map file_in taken ++ files_at k rest
  taken_at taken rest by = at_both k taken rest ∙ ap (λ fs. fs ++ files_at k rest) (all_by k k taken by (omega arith))

  module _ (h : ℤ) (range other : HandleRange) (stable new : List Version) (taken rest files : List Tagged) (by : AreBy k taken) (says : SaySame h files rest) (same : (ts : ℕ) → had h new ts ≡ view h stable (map file_in taken) ts) where
    taken_over : IsGoodOn log h (front log A h) m safe (trail h (content k (tagged_of range stable (taken ++ rest)))) → IsGoodOn log h (front log A h) m safe (trail h (content k (tagged_of other new files)))
    taken_over good = subst (λ ss. IsGoodOn log h (front log A h) m safe (record { stable = versions_on h new; steps = ss })) (sym (says k))
        (into_stable log lawful h (front log A h) m safe range stable new (map file_in taken) (files_at k rest) same
        (subst (λ fs. IsGoodOn log h (front log A h) m safe (trail h (of_parts range stable fs))) (taken_at taken rest by) good))

  pub delta_merge_once : (range : HandleRange) (stable new : List Version) (taken rest : List Tagged) (at_safe : ℕ) → AreBy k taken → at_safe ≤ safe → ((h : ℤ) → holds range h ≡ true → IsCollected at_safe (view h stable (map file_in taken)) (had h new)) →
      IsGoodSegment log A m safe (content k (tagged_of range stable (taken ++ rest))) → IsGoodSegment log A m safe (content k (tagged_of range new rest))
  delta_merge_once range stable new taken rest at_safe by under is good h held =
      delta_merged log lawful h (front log A h) m safe range stable new (map file_in taken) (files_at k rest) at_safe under (is h held)
      (subst (λ fs. IsGoodOn log h (front log A h) m safe (trail h (of_parts range stable fs))) (taken_at taken rest by) (good h held))

  pub split_once : (range half : HandleRange) (stable new : List Version) (taken rest : List Tagged) → AreBy k taken → ((h : ℤ) → holds half h ≡ true → holds range h ≡ true) → ((h : ℤ) (ts : ℕ) → holds half h ≡ true → had h new ts ≡ view h stable (map file_in taken) ts) →
      IsGoodSegment log A m safe (content k (tagged_of range stable (taken ++ rest))) → IsGoodSegment log A m safe (content k (tagged_of half new (clip half rest)))
  split_once range half stable new taken rest by inside same good h held = taken_over h range half stable new taken rest (clip half rest) by (clip_says half h rest held) (λ ts. same h ts held) (good h (inside h held))

  pub merge_once : (left right both : HandleRange) (left_stable right_stable new : List Version) (left_taken left_named left_more right_taken right_named right_more : List Tagged) → AreBy k left_taken → AreBy k right_taken →
      ((h : ℤ) → holds both h ≡ true → ((holds left h ≡ true) × (holds right h ≡ false)) ⊎ ((holds right h ≡ true) × (holds left h ≡ false))) →
      ((h : ℤ) (ts : ℕ) → holds left h ≡ true → had h new ts ≡ view h left_stable (map file_in left_taken) ts) → ((h : ℤ) (ts : ℕ) → holds right h ≡ true → had h new ts ≡ view h right_stable (map file_in right_taken) ts) →
      IsGoodSegment log A m safe (content k (tagged_of left left_stable (left_taken ++ (left_named ++ left_more)))) → IsGoodSegment log A m safe (content k (tagged_of right right_stable (right_taken ++ (right_named ++ right_more)))) →
      IsGoodSegment log A m safe (content k (tagged_of both new (in_order left right left_named right_named left_more right_more)))
  merge_once left right both left_stable right_stable new left_taken left_named left_more right_taken right_named right_more by_left by_right one_of same_left same_right good_left good_right h held = elim (one_of h held) [
    | inl l ↦ taken_over h left both left_stable new left_taken (left_named ++ left_more) (in_order left right left_named right_named left_more right_more) by_left (order_left left right left_named right_named left_more right_more h l.0 l.1) (λ ts. same_left h ts l.0) (good_left h l.0)
    | inr r ↦ taken_over h right both right_stable new right_taken (right_named ++ right_more) (in_order left right left_named right_named left_more right_more) by_right (order_right left right left_named right_named left_more right_more h r.0 r.1) (λ ts. same_right h ts r.0) (good_right h r.0)
  ]

-- ---- the count of a view: whatever count parts its files from the later ones, there is one between the committed and the last
pub middle : ℕ → ℕ → ℕ → ℕ
middle from last k = max from (min k last)

module _ (from last k : ℕ) (order : from ≤ last) where
  pub middle_low : from ≤ middle from last k
  unfolding middle
  middle_low = omega arith

  pub middle_high : middle from last k ≤ last
  unfolding middle
  middle_high = (let o = order in omega arith)

  pub middle_by : (taken : List Tagged) → AreBy k taken → AreBy last taken → AreBy (middle from last k) taken
  unfolding middle
  middle_by [] by all = tt
  middle_by (f ∷ taken) by all = ((let a = by.0 in let b = all.0 in omega (arith, a, b)), middle_by taken by.1 all.1)

  pub middle_later : (rest : List Tagged) → AllByRecursion (λ (f : Tagged). (f.tag ≤ from) ⊎ ((from < f.tag) × (k < f.tag))) rest → AreLaterOrNamed from (middle from last k) rest
  unfolding middle
  middle_later [] all = tt
  middle_later (f ∷ rest) all = (elim all.0 [ inl named ↦ inl named | inr e ↦ inr (let a = e.0 in let b = e.1 in omega (arith, a, b)) ], middle_later rest all.1)
