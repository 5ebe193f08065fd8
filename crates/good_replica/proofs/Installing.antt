-- A replica whose segments give way to others.
use Rattle.std.proofs.Common.{◌≡◌, ℕ, Bool, true, List, [], ◌∷◌, ◌++◌, Some}
use Rattle.flash_types.specs.Ranges.{is_below}
use Rattle.committed_log.specs.Log.{Log}
use Rattle.good_replica.specs.Good.{AreGood, IsGoodSegment, least_handle}
use Rattle.good_replica.specs.Trail.{Segment}
use Rattle.good_replica.proofs.Covering.{covers_changed, covers_split, covers_merged}
use Rattle.good_replica.proofs.Replicas.{replaced}

module _ (log : Log) (A : ℕ → Bool) (m safe : ℕ) where
  pub changed_good : (before : List Segment) (s t : Segment) (after : List Segment) → t.range ≡ s.range → (IsGoodSegment log A m safe s → IsGoodSegment log A m safe t) →
      AreGood log A m safe (before ++ (s ∷ after)) → AreGood log A m safe (before ++ (t ∷ after))
  changed_good before s t after same law good = record {
    cover = covers_changed least_handle before s t after same good.cover;
    mark = good.mark;
    handles = replaced log A m safe before (s ∷ []) (t ∷ []) after (λ g. (law g.0, tt)) good.handles;
  }

  pub split_good : (s lower upper : Segment) → lower.range.low ≡ s.range.low → lower.range.high ≡ Some upper.range.low → upper.range.high ≡ s.range.high →
      is_below lower.range.low lower.range.high ≡ true → is_below upper.range.low upper.range.high ≡ true →
      (IsGoodSegment log A m safe s → IsGoodSegment log A m safe lower) → (IsGoodSegment log A m safe s → IsGoodSegment log A m safe upper) →
      (before after : List Segment) → AreGood log A m safe (before ++ (s ∷ after)) → AreGood log A m safe (before ++ (lower ∷ upper ∷ after))
  split_good s lower upper begins meets ends below above law_lower law_upper before after good = record {
    cover = covers_split s lower upper begins meets ends below above least_handle before after good.cover;
    mark = good.mark;
    handles = replaced log A m safe before (s ∷ []) (lower ∷ upper ∷ []) after (λ g. (law_lower g.0, (law_upper g.0, tt))) good.handles;
  }

  pub merged_good : (left right one : Segment) → one.range.low ≡ left.range.low → one.range.high ≡ right.range.high →
      (IsGoodSegment log A m safe left → IsGoodSegment log A m safe right → IsGoodSegment log A m safe one) →
      (before after : List Segment) → AreGood log A m safe (before ++ (left ∷ right ∷ after)) → AreGood log A m safe (before ++ (one ∷ after))
  merged_good left right one begins ends law before after good = record {
    cover = covers_merged left right one begins ends least_handle before after good.cover;
    mark = good.mark;
    handles = replaced log A m safe before (left ∷ right ∷ []) (one ∷ []) after (λ g. (law g.0 g.1.0, tt)) good.handles;
  }
