-- The edits of a compaction, a split and a merge.
use Rattle.std.proofs.Common.{◌≡◌, ◌≢◌, inl, inr, ℕ, ℤ, ◌≤◌, ◌<◌, true, List, [], ◌∷◌, ◌++◌, map, Option, Some, None, refl, sym, ap, subst, ◌∙◌, append_assoc, arith}
use Rattle.std.specs.Prelude.{int_lt}
use Rattle.std.specs.List.{list_all}
use Rattle.flash_types.specs.declared.range.HandleRange.{HandleRange}
use Rattle.manifest_form.specs.declared.state.StoredSegment.{StoredSegment}
use Rattle.manifest_form.specs.declared.state.State.{State}
use Rattle.manifest_form.specs.declared.state.Edit.TheVariants.{Next, Segment, Drop, High, SafePoint, Regions, Count}
use Rattle.flash_types.specs.Ranges.{has_any}
use Rattle.manifest_form.specs.States.{done, all_done, with_segments, segment_below, is_formed}
use Rattle.manifest_form.specs.Whole.{HasNone, IdsDiffer, with_next}
use Rattle.manifest_form.proofs.Differ.{all_done_differ}
use Rattle.manifest_laws.specs.Changes.{TakesOver, Renews}
use Rattle.manifest_laws.specs.Laws.{HasRun, TakeTheRun, Gives, CheckpointGives, IsParted}
use Rattle.manifest_laws.proofs.Facts.{and_both, through}
use Rattle.manifest_laws.proofs.Taking.{none_parts, differ_behind, run_taken, run_formed, none_formed}

-- ---- ids

module _ (file : ℕ) (s : State) (before olds after : List StoredSegment) (h : HasRun file s before olds after) where
  -- an id of no segment is none of the run's
  not_given : (id : ℕ) → HasNone id s.segments → HasNone id olds
  not_given id none = (none_parts id olds after (none_parts id before (olds ++ after) (subst (HasNone id) h.stands none)).1).0

  run_differs : IdsDiffer (olds ++ after)
  run_differs = differ_behind before (olds ++ after) (subst IdsDiffer h.stands h.differ)

-- ---- ranges

same_over : (old new : StoredSegment) → new.range ≡ old.range → TakesOver (old ∷ []) (new ∷ [])
same_over old new same = λ from to r. (r.0 ∙ ap (λ (x : HandleRange). Some x.low) (sym same), ap has_any same ∙ r.1, ap (λ (x : HandleRange). x.high) same ∙ r.2)

parts_over : (old lower upper : StoredSegment) → IsParted old.range lower.range upper.range → TakesOver (old ∷ []) (lower ∷ upper ∷ [])
parts_over old lower upper p = λ from to r. (r.0 ∙ ap (λ z. Some z) (sym p.begins), p.below, (p.meets, p.above, p.ends ∙ r.2))

wider : (a b : ℤ) (mid high : Option ℤ) → mid ≡ Some b → elim mid [ None ↦ true | Some h ↦ int_lt a h ] ≡ true → elim high [ None ↦ true | Some h ↦ int_lt b h ] ≡ true → elim high [ None ↦ true | Some h ↦ int_lt a h ] ≡ true
wider a b None high meets one two = absurd (cc meets)
wider a b (Some m) None meets one two = refl
wider a b (Some m) (Some h) meets one two = let same : m ≡ b = cc meets in through a b h (subst (λ z. int_lt a z ≡ true) same one) two

joined_over : (left right both : StoredSegment) → both.range.low ≡ left.range.low → both.range.high ≡ right.range.high → TakesOver (left ∷ right ∷ []) (both ∷ [])
joined_over left right both begins ends = λ from to r. (
  r.0 ∙ ap (λ z. Some z) (sym begins),
  (λ i. elim (ends i) [ None ↦ true | Some h ↦ int_lt (begins i) h ]) ∙ wider left.range.low right.range.low left.range.high right.range.high r.2.0 r.1 r.2.1,
  ends ∙ r.2.2,
)

-- ---- numbers

one_below : (next : ℕ) (s : StoredSegment) → list_all (segment_below next) (s ∷ []) ≡ true → segment_below next s ≡ true
one_below next s h = (and_both (segment_below next s) true h).0

two_below : (next : ℕ) (s t : StoredSegment) → list_all (segment_below next) (s ∷ t ∷ []) ≡ true → (segment_below next s ≡ true) × (segment_below next t ≡ true)
two_below next s t h =
    let b = and_both (segment_below next s) (list_all (segment_below next) (t ∷ [])) h in
    (b.0, one_below next t b.1)

-- ---- one by one

module _ (file : ℕ) (s : State) (before after : List StoredSegment) (old new : StoredSegment) (h : HasRun file s before (old ∷ []) after) (same : new.range ≡ old.range) where
  module _ (id : new.id ≡ old.id) where
    plain : TakeTheRun s (old ∷ []) (Segment new ∷ [])
    plain = record { once = (tt, tt); free = (inl (inl (sym id)), tt); gone = (inl (sym id), tt); over = same_over old new same }

    pub one_done : all_done s (Segment new ∷ []) ≡ with_segments s (before ++ (new ∷ after))
    one_done = ap (with_segments s) (run_taken file s before (old ∷ []) after (Segment new ∷ []) h plain)

    pub one_formed : segment_below s.next new ≡ true → is_formed file (all_done s (Segment new ∷ [])) ≡ true
    one_formed below = run_formed file s before (old ∷ []) after (Segment new ∷ []) h plain (omega arith) (below, tt)

  module _ (next : ℕ) (risen : s.next ≤ next) where
    pub keeps : new.id ≡ old.id → Gives file next s before (new ∷ []) after (Next next ∷ Segment new ∷ [])
    keeps id =
        let edits = Next next ∷ Segment new ∷ [] in
        let take : TakeTheRun s (old ∷ []) edits = record { once = (tt, tt); free = (inl (inl (sym id)), tt); gone = (inl (sym id), tt); over = same_over old new same } in
        record {
          state = ap (with_segments (with_next next s)) (run_taken file s before (old ∷ []) after edits h take);
          formed = λ below. run_formed file s before (old ∷ []) after edits h take risen (tt, (one_below next new below, tt));
        }

    pub dropped : HasNone new.id s.segments → Gives file next s before (new ∷ []) after (Next next ∷ Drop old.id ∷ Segment new ∷ [])
    dropped none =
        let edits = Next next ∷ Drop old.id ∷ Segment new ∷ [] in
        let take : TakeTheRun s (old ∷ []) edits = record { once = (tt, tt); free = (inl (inl refl), (inr none, tt)); gone = (inl refl, tt); over = same_over old new same } in
        record {
          state = ap (with_segments (with_next next s)) (run_taken file s before (old ∷ []) after edits h take);
          formed = λ below. run_formed file s before (old ∷ []) after edits h take risen (tt, (tt, (one_below next new below, tt)));
        }

-- ---- one by two

module _ (file : ℕ) (s : State) (before after : List StoredSegment) (old lower upper : StoredSegment) (h : HasRun file s before (old ∷ []) after) (p : IsParted old.range lower.range upper.range)
    (next : ℕ) (risen : s.next ≤ next) where
  pub lower_keeps : lower.id ≡ old.id → HasNone upper.id s.segments → Gives file next s before (lower ∷ upper ∷ []) after (Next next ∷ Segment lower ∷ Segment upper ∷ [])
  lower_keeps id new =
      let edits = Next next ∷ Segment lower ∷ Segment upper ∷ [] in
      let other : lower.id ≢ upper.id = λ is. (not_given file s before (old ∷ []) after h upper.id new).0 (sym id ∙ is) in
      let take : TakeTheRun s (old ∷ []) edits = record { once = ((other, tt), (tt, tt)); free = (inl (inl (sym id)), (inr new, tt)); gone = (inl (sym id), tt); over = parts_over old lower upper p } in
      record {
        state = ap (with_segments (with_next next s)) (run_taken file s before (old ∷ []) after edits h take);
        formed = λ below. let b = two_below next lower upper below in run_formed file s before (old ∷ []) after edits h take risen (tt, (b.0, (b.1, tt)));
      }

  pub upper_keeps : HasNone lower.id s.segments → upper.id ≡ old.id → Gives file next s before (lower ∷ upper ∷ []) after (Next next ∷ Segment lower ∷ Segment upper ∷ [])
  upper_keeps new id =
      let edits = Next next ∷ Segment lower ∷ Segment upper ∷ [] in
      let other : lower.id ≢ upper.id = λ is. (not_given file s before (old ∷ []) after h lower.id new).0 (sym id ∙ sym is) in
      let take : TakeTheRun s (old ∷ []) edits = record { once = ((other, tt), (tt, tt)); free = (inr new, (inl (inl (sym id)), tt)); gone = (inr (inl (sym id)), tt); over = parts_over old lower upper p } in
      record {
        state = ap (with_segments (with_next next s)) (run_taken file s before (old ∷ []) after edits h take);
        formed = λ below. let b = two_below next lower upper below in run_formed file s before (old ∷ []) after edits h take risen (tt, (b.0, (b.1, tt)));
      }

  module _ (low : HasNone lower.id s.segments) (high : HasNone upper.id s.segments) (other : lower.id ≢ upper.id) where
    pub dropped_last : Gives file next s before (lower ∷ upper ∷ []) after (Next next ∷ Segment lower ∷ Segment upper ∷ Drop old.id ∷ [])
    dropped_last =
        let edits = Next next ∷ Segment lower ∷ Segment upper ∷ Drop old.id ∷ [] in
        let one : lower.id ≢ old.id = λ is. (not_given file s before (old ∷ []) after h lower.id low).0 (sym is) in
        let two : upper.id ≢ old.id = λ is. (not_given file s before (old ∷ []) after h upper.id high).0 (sym is) in
        let take : TakeTheRun s (old ∷ []) edits = record { once = ((other, (one, tt)), ((two, tt), tt)); free = (inr low, (inr high, (inl (inl refl), tt))); gone = (inr (inr (inl refl)), tt); over = parts_over old lower upper p } in
        record {
          state = ap (with_segments (with_next next s)) (run_taken file s before (old ∷ []) after edits h take);
          formed = λ below. let b = two_below next lower upper below in run_formed file s before (old ∷ []) after edits h take risen (tt, (b.0, (b.1, (tt, tt))));
        }

    pub dropped_first : Gives file next s before (lower ∷ upper ∷ []) after (Next next ∷ Drop old.id ∷ Segment lower ∷ Segment upper ∷ [])
    dropped_first =
        let edits = Next next ∷ Drop old.id ∷ Segment lower ∷ Segment upper ∷ [] in
        let take : TakeTheRun s (old ∷ []) edits = record { once = ((other, tt), (tt, tt)); free = (inl (inl refl), (inr low, (inr high, tt))); gone = (inl refl, tt); over = parts_over old lower upper p } in
        record {
          state = ap (with_segments (with_next next s)) (run_taken file s before (old ∷ []) after edits h take);
          formed = λ below. let b = two_below next lower upper below in run_formed file s before (old ∷ []) after edits h take risen (tt, (tt, (b.0, (b.1, tt))));
        }

-- ---- two by one

module _ (file : ℕ) (s : State) (before after : List StoredSegment) (left right both : StoredSegment) (h : HasRun file s before (left ∷ right ∷ []) after) (begins : both.range.low ≡ left.range.low) (ends : both.range.high ≡ right.range.high)
    (next : ℕ) (risen : s.next ≤ next) where
  pub left_keeps : both.id ≡ left.id → Gives file next s before (both ∷ []) after (Next next ∷ Segment both ∷ Drop right.id ∷ [])
  left_keeps id =
      let edits = Next next ∷ Segment both ∷ Drop right.id ∷ [] in
      let other : both.id ≢ right.id = λ is. (run_differs file s before (left ∷ right ∷ []) after h).0.0 (sym is ∙ id) in
      let take : TakeTheRun s (left ∷ right ∷ []) edits = record { once = ((other, tt), tt); free = (inl (inl (sym id)), (inl (inr (inl refl)), tt)); gone = (inl (sym id), (inr (inl refl), tt)); over = joined_over left right both begins ends } in
      record {
        state = ap (with_segments (with_next next s)) (run_taken file s before (left ∷ right ∷ []) after edits h take);
        formed = λ below. run_formed file s before (left ∷ right ∷ []) after edits h take risen (tt, (one_below next both below, (tt, tt)));
      }

  pub right_keeps : both.id ≡ right.id → Gives file next s before (both ∷ []) after (Next next ∷ Drop left.id ∷ Segment both ∷ [])
  right_keeps id =
      let edits = Next next ∷ Drop left.id ∷ Segment both ∷ [] in
      let take : TakeTheRun s (left ∷ right ∷ []) edits = record { once = (tt, tt); free = (inl (inl refl), (inl (inr (inl (sym id))), tt)); gone = (inl refl, (inr (inl (sym id)), tt)); over = joined_over left right both begins ends } in
      record {
        state = ap (with_segments (with_next next s)) (run_taken file s before (left ∷ right ∷ []) after edits h take);
        formed = λ below. run_formed file s before (left ∷ right ∷ []) after edits h take risen (tt, (tt, (one_below next both below, tt)));
      }

  pub both_go : HasNone both.id s.segments → Gives file next s before (both ∷ []) after (Next next ∷ Drop left.id ∷ Drop right.id ∷ Segment both ∷ [])
  both_go new =
      let edits = Next next ∷ Drop left.id ∷ Drop right.id ∷ Segment both ∷ [] in
      let take : TakeTheRun s (left ∷ right ∷ []) edits = record { once = (tt, tt); free = (inl (inl refl), (inl (inr (inl refl)), (inr new, tt))); gone = (inl refl, (inr (inl refl), tt)); over = joined_over left right both begins ends } in
      record {
        state = ap (with_segments (with_next next s)) (run_taken file s before (left ∷ right ∷ []) after edits h take);
        formed = λ below. run_formed file s before (left ∷ right ∷ []) after edits h take risen (tt, (tt, (tt, (one_below next both below, tt))));
      }

-- ---- many in their places

puts_below : (next : ℕ) (x : StoredSegment) (rest puts : List StoredSegment) → puts ≡ x ∷ rest → list_all (segment_below next) puts ≡ true → (segment_below next x ≡ true) × (list_all (segment_below next) rest ≡ true)
puts_below next x rest puts is below = and_both (segment_below next x) (list_all (segment_below next) rest) (subst (λ (l : List StoredSegment). list_all (segment_below next) l ≡ true) is below)

abbrev Renewed : ℕ → State → List StoredSegment → List StoredSegment → Type 0
Renewed file s news puts = (all_done s (map (λ (x : StoredSegment). Segment x) puts) ≡ with_segments s news) × (is_formed file (all_done s (map (λ (x : StoredSegment). Segment x) puts)) ≡ true)

renew : (file : ℕ) (s : State) (front olds news puts : List StoredSegment) → s.segments ≡ front ++ olds → is_formed file s ≡ true → IdsDiffer s.segments → Renews olds news puts → list_all (segment_below s.next) puts ≡ true → Renewed file s (front ++ news) puts
renew file s front [] [] puts stands formed differ renews below =
    subst (Renewed file s (front ++ [])) (sym renews) (ap (with_segments s) stands, formed)
renew file s front [] (new ∷ news) puts stands formed differ renews below = absurd renews
renew file s front (old ∷ olds) [] puts stands formed differ renews below = absurd renews
renew file s front (old ∷ olds) (new ∷ news) puts stands formed differ (id, range, inl (same, more)) below =
    let whole : (front ++ old ∷ []) ++ news ≡ front ++ new ∷ news = append_assoc front (old ∷ []) news ∙ ap (λ (x : StoredSegment). front ++ x ∷ news) same in
    subst (λ (l : List StoredSegment). Renewed file s l puts) whole (renew file s (front ++ old ∷ []) olds news puts (stands ∙ sym (append_assoc front (old ∷ []) olds)) formed differ more below)
renew file s front (old ∷ olds) (new ∷ news) puts stands formed differ (id, range, inr (rest, is, more)) below =
    let h : HasRun file s front (old ∷ []) olds = record { stands = stands; formed = formed; differ = differ } in
    let b = puts_below s.next new rest puts is below in
    let then = with_segments s (front ++ new ∷ olds) in
    let one : done s (Segment new) ≡ then = one_done file s front olds old new h range id in
    let good : is_formed file then ≡ true = subst (λ (t : State). is_formed file t ≡ true) one (one_formed file s front olds old new h range id b.0) in
    let others : IdsDiffer then.segments = subst (λ (t : State). IdsDiffer t.segments) one (all_done_differ s (Segment new ∷ []) differ) in
    let later = renew file then (front ++ new ∷ []) olds news rest (sym (append_assoc front (new ∷ []) olds)) good others more b.1 in
    let whole : (front ++ new ∷ []) ++ news ≡ front ++ new ∷ news = append_assoc front (new ∷ []) news in
    let same : all_done s (map (λ (x : StoredSegment). Segment x) (new ∷ rest)) ≡ all_done then (map (λ (x : StoredSegment). Segment x) rest) = ap (λ (t : State). all_done t (map (λ (x : StoredSegment). Segment x) rest)) one in
    subst (Renewed file s (front ++ new ∷ news)) (sym is) (same ∙ later.0 ∙ ap (with_segments s) whole, ap (is_formed file) same ∙ later.1)

pub all_renewed : (file : ℕ) (s : State) (news puts : List StoredSegment) → is_formed file s ≡ true → IdsDiffer s.segments → Renews s.segments news puts → list_all (segment_below s.next) puts ≡ true → Renewed file s news puts
all_renewed file s news puts formed differ renews below = renew file s [] s.segments news puts refl formed differ renews below

-- a checkpoint
module _ (file : ℕ) (s : State) (news puts : List StoredSegment) (next entries : ℕ) (chain : List ℕ) (ts region count : ℕ) (formed : is_formed file s ≡ true) (differ : IdsDiffer s.segments)
    (renews : Renews s.segments news puts) (risen : s.next ≤ next) (named : region < next) (below : list_all (segment_below next) puts ≡ true) where
  abbrev Marked : State
  Marked = record { next = next; segments = s.segments; high = entries; chain = chain; safe_point = ts; regions = Some region; count = Some count }

  marked_formed : is_formed file Marked ≡ true
  marked_formed = none_formed file s (Next next ∷ High entries chain ∷ SafePoint ts ∷ Regions region ∷ Count count ∷ []) tt formed risen (tt, (tt, (tt, (named, (tt, tt)))))

  pub checkpoint_done : CheckpointGives file s news puts next entries chain ts region count
  checkpoint_done = let r = all_renewed file Marked news puts marked_formed differ renews below in record { state = r.0; formed = r.1 }
