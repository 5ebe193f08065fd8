-- The cover of a state's segments, and that of a replica's with the same ranges.
use Rattle.std.proofs.Common.{◌≡◌, ℕ, ℤ, true, List, [], ◌∷◌, map, Some, None, sym, ap, ◌∙◌}
use Rattle.flash_types.specs.Ranges.{is_below, has_any, least_handle}
use Rattle.flash_types.specs.declared.range.HandleRange.{HandleRange}
use Rattle.manifest_form.specs.declared.state.StoredSegment.{StoredSegment}
use Rattle.manifest_form.specs.declared.state.State.{State}
use Rattle.manifest_form.specs.States.{cover_from, all_below, is_formed}
use Rattle.good_replica.specs.Good.{CoversFrom}
use Rattle.good_replica.specs.Trail.{Segment}
use Rattle.manifest_laws.specs.Changes.{Runs}
use Rattle.manifest_cover.specs.Covers.{SameRanges}
use Rattle.manifest_laws.proofs.Facts.{and_both, both_and}
use Rattle.manifest_laws.proofs.Running.{cover_runs, runs_cover}

is_filled : (a b : HandleRange) → a ≡ b → has_any a ≡ is_below b.low b.high
is_filled a b same = ap has_any same

some_same : (a b : ℤ) → Some a ≡ Some b → a ≡ b
some_same a b e = cc e

first_same : (a b : HandleRange) (xs ys : List HandleRange) → a ∷ xs ≡ b ∷ ys → a ≡ b
first_same a b xs ys e = cc e

rest_same : (a b : HandleRange) (xs ys : List HandleRange) → a ∷ xs ≡ b ∷ ys → xs ≡ ys
rest_same a b xs ys e = cc e

pub to_replica : (low : ℤ) (stored : List StoredSegment) (ss : List Segment) → SameRanges stored ss → Runs (Some low) stored None → CoversFrom low ss
to_replica low [] ss same r = absurd (cc r)
to_replica low (a ∷ rest) [] same r = absurd (cc same)
to_replica low (a ∷ []) (s ∷ []) same r =
    let one = first_same a.range s.range [] [] same in
    (ap (λ (r : HandleRange). r.low) (sym one) ∙ sym (some_same low a.range.low r.0), ap (λ (r : HandleRange). r.high) (sym one) ∙ r.2)
to_replica low (a ∷ []) (s ∷ t ∷ ss) same r = absurd (cc same)
to_replica low (a ∷ b ∷ rest) (s ∷ []) same r = absurd (cc same)
to_replica low (a ∷ b ∷ rest) (s ∷ t ∷ ss) same r =
    let one = first_same a.range s.range (b.range ∷ map (λ (x : StoredSegment). x.range) rest) (t.range ∷ map (λ (x : Segment). x.range) ss) same in
    let behind = rest_same a.range s.range (b.range ∷ map (λ (x : StoredSegment). x.range) rest) (t.range ∷ map (λ (x : Segment). x.range) ss) same in
    let two : Some b.range.low ≡ Some t.range.low = ap (λ (r : HandleRange). Some r.low) (first_same b.range t.range (map (λ (x : StoredSegment). x.range) rest) (map (λ (x : Segment). x.range) ss) behind) in (
      ap (λ (r : HandleRange). r.low) (sym one) ∙ sym (some_same low a.range.low r.0),
      ap (λ (r : HandleRange). r.high) (sym one) ∙ r.2.0 ∙ two,
      sym (is_filled a.range s.range one) ∙ r.1,
      to_replica t.range.low (b ∷ rest) (t ∷ ss) behind (sym two, r.2.1, r.2.2),
    )

pub from_replica : (low : ℤ) (stored : List StoredSegment) (ss : List Segment) → SameRanges stored ss → CoversFrom low ss → Runs (Some low) stored None
from_replica low [] [] same c = absurd (cc c)
from_replica low [] (s ∷ ss) same c = absurd (cc same)
from_replica low (a ∷ rest) [] same c = absurd (cc c)
from_replica low (a ∷ []) (s ∷ []) same c =
    let one = first_same a.range s.range [] [] same in
    (ap (λ z. Some z) (sym (ap (λ (r : HandleRange). r.low) one ∙ c.0)), is_filled a.range s.range one ∙ ap (is_below s.range.low) c.1, ap (λ (r : HandleRange). r.high) one ∙ c.1)
from_replica low (a ∷ []) (s ∷ t ∷ ss) same c = absurd (cc same)
from_replica low (a ∷ b ∷ rest) (s ∷ []) same c = absurd (cc same)
from_replica low (a ∷ b ∷ rest) (s ∷ t ∷ ss) same c =
    let one = first_same a.range s.range (b.range ∷ map (λ (x : StoredSegment). x.range) rest) (t.range ∷ map (λ (x : Segment). x.range) ss) same in
    let behind = rest_same a.range s.range (b.range ∷ map (λ (x : StoredSegment). x.range) rest) (t.range ∷ map (λ (x : Segment). x.range) ss) same in
    let next = from_replica t.range.low (b ∷ rest) (t ∷ ss) behind c.3 in (
      ap (λ z. Some z) (sym (ap (λ (r : HandleRange). r.low) one ∙ c.0)),
      is_filled a.range s.range one ∙ c.2,
      (ap (λ (r : HandleRange). r.high) one ∙ c.1 ∙ next.0, next.1, next.2),
    )

pub cover_told : (low : ℤ) (stored : List StoredSegment) (ss : List Segment) → SameRanges stored ss → cover_from (Some low) stored ≡ true → CoversFrom low ss
cover_told low stored ss same h = to_replica low stored ss same (cover_runs (Some low) stored h)

pub cover_back : (low : ℤ) (stored : List StoredSegment) (ss : List Segment) → SameRanges stored ss → CoversFrom low ss → cover_from (Some low) stored ≡ true
cover_back low stored ss same c = runs_cover (Some low) stored (from_replica low stored ss same c)

pub formed_told : (file : ℕ) (s : State) (ss : List Segment) → SameRanges s.segments ss → is_formed file s ≡ true → CoversFrom least_handle ss
formed_told file s ss same h = cover_told least_handle s.segments ss same (and_both (all_below s.next file s) (cover_from (Some least_handle) s.segments) h).1

pub formed_back : (file : ℕ) (s : State) (ss : List Segment) → SameRanges s.segments ss → all_below s.next file s ≡ true → CoversFrom least_handle ss → is_formed file s ≡ true
formed_back file s ss same below c = both_and (all_below s.next file s) (cover_from (Some least_handle) s.segments) below (cover_back least_handle s.segments ss same c)
