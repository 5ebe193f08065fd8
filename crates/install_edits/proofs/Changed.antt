-- What the edits of a change make of a state.
use Rattle.std.proofs.Common.{◌≡◌, ◌⊎◌, ◌∙◌, inl, inr, ℕ, ◌+◌, ◌<◌, Bool, true, false, List, [], ◌∷◌, ◌++◌, length, map, take, drop, refl, sym, ap, subst, arith, append_assoc}
use Rattle.std.specs.Prelude.{◌||◌}
use Rattle.std.specs.List.{AllByRecursion, list_all, list_any}
use Rattle.std.proofs.lemmas.List.{length-drop, length-take-le, map-append}
use Rattle.manifest_form.specs.declared.state.Edit.{Edit}
use Rattle.manifest_form.specs.declared.state.State.{State}
use Rattle.manifest_form.specs.declared.state.StoredSegment.{StoredSegment}
use Rattle.manifest_form.specs.States.{all_done, is_formed, segment_below, with_segments}
use Rattle.manifest_form.specs.Whole.{HasNone}
use Rattle.manifest_form.proofs.Differ.{all_done_differ}
use Rattle.manifest_laws.specs.Changes.{HasId, TakesOver, put_by}
use Rattle.manifest_laws.specs.Laws.{HasRun, TakeTheRun}
use Rattle.manifest_laws.proofs.Taking.{done_parts, none_formed, none_touched, run_formed, run_taken}
use Rattle.segment_list.specs.Lists.{CoverAlike, NumbersDiffer, is_file_in, is_file_of, with_slots}
use Rattle.segment_list.specs.Slots.{Slotted}
use Rattle.segment_list.proofs.Replacing.{ends_differ, fronts_differ, in_three, news_differ, parts_differ}
use Rattle.segment_flush.specs.Flushing.{segment_edits}
use Rattle.segment_flush.specs.Names.{stored_of}
use Rattle.install_edits.specs.Edits.{change_edits}
use Rattle.install_edits.specs.Laws.{CanChange, Changes, GiveWay, changing}
use Rattle.install_edits.proofs.Ids.{all_go, all_put, drops_below, drops_free, drops_once, drops_put, drops_state, each_has, each_none, found_or_none, none_in_three, put_once, puts_below, puts_free, puts_state}
use Rattle.install_edits.proofs.Ranges.{takes_over}

module _ {G : Type 0} where
  stored : List (Slotted G) → List StoredSegment
  stored xs = map stored_of xs

  map_three : (xs ys zs : List (Slotted G)) → map stored_of (xs ++ (ys ++ zs)) ≡ map stored_of xs ++ (map stored_of ys ++ map stored_of zs)
  map_three xs ys zs = map-append stored_of xs (ys ++ zs) ∙ ap (λ (l : List StoredSegment). map stored_of xs ++ l) (map-append stored_of ys zs)

  -- each of the new numbers is one of those that go, or none of all
  all_free : (before olds after : List (Slotted G)) (all : List StoredSegment) → all ≡ map stored_of before ++ (map stored_of olds ++ map stored_of after) → (ns : List (Slotted G)) → AllByRecursion (λ (n : Slotted G). HasNone n.id (map stored_of before)) ns → AllByRecursion (λ (n : Slotted G). HasNone n.id (map stored_of after)) ns → AllByRecursion (λ (n : Slotted G). HasId n.id (map stored_of olds) ⊎ HasNone n.id all) ns
  all_free before olds after all is [] a b = tt
  all_free before olds after all is (n ∷ ns) a b = (by (found_or_none n.id olds), all_free before olds after all is ns a.1 b.1)
    where
      by : HasId n.id (map stored_of olds) ⊎ HasNone n.id (map stored_of olds) → HasId n.id (map stored_of olds) ⊎ HasNone n.id all
      by (inl has) = inl has
      by (inr none) = inr (subst (HasNone n.id) (sym is) (none_in_three n.id (map stored_of before) (map stored_of olds) (map stored_of after) a.0 none b.0))

  over_them : (olds news : List (Slotted G)) → 0 < length olds → CoverAlike olds news → TakesOver (map stored_of olds) (map stored_of news)
  over_them [] news some alike = absurd (omega (arith, some))
  over_them (o ∷ os) news some alike = takes_over o os news alike

  module _ (file : ℕ) (s : State) (first : List Edit) (place count : ℕ) (news slots : List (Slotted G)) (can : CanChange file s first slots) (gives : GiveWay place count news slots) where
    abbrev before : List (Slotted G)
    before = take place slots

    abbrev olds : List (Slotted G)
    olds = take count (drop place slots)

    abbrev after : List (Slotted G)
    after = drop (place + count) slots

    abbrev then_state : State
    then_state = all_done s first

    abbrev edits : List Edit
    edits = change_edits olds news

    some_olds : 0 < length olds
    some_olds = let long : length olds ≡ count = length-take-le count (drop place slots) (let w = gives.within in omega (arith, w, length-drop place slots)) in let some = gives.some in omega (arith, long, some)

    stands : then_state.segments ≡ map stored_of before ++ (map stored_of olds ++ map stored_of after)
    stands = none_touched s first can.leave ∙ can.stands ∙ ap (λ (l : List (Slotted G)). map stored_of l) (sym (in_three place count slots)) ∙ map_three before olds after

    has_run : HasRun file then_state (map stored_of before) (map stored_of olds) (map stored_of after)
    has_run = record {
      stands = stands;
      formed = none_formed file s first can.leave can.formed can.no_lower can.below;
      differ = all_done_differ s first can.differ;
    }

    fronts : NumbersDiffer (before ++ news)
    fronts = fronts_differ (before ++ news) after (subst NumbersDiffer (sym (append_assoc before news after)) gives.numbers)

    free_before : AllByRecursion (λ (n : Slotted G). HasNone n.id (map stored_of before)) news
    free_before = each_none before news (λ i j d a b. parts_differ before news fronts i j d a b)

    free_after : AllByRecursion (λ (n : Slotted G). HasNone n.id (map stored_of after)) news
    free_after = each_none after news (λ i j d a b e. parts_differ news after (ends_differ before (news ++ after) gives.numbers) j i d b a (sym e))

    puts_are : put_by edits ≡ map stored_of news
    puts_are = drops_put news (segment_edits (map stored_of news)) olds ∙ all_put news

    take_run : TakeTheRun then_state (map stored_of olds) edits
    take_run = record {
      once = drops_once news (segment_edits (map stored_of news)) (put_once news (news_differ place count news slots gives.numbers)) olds;
      free = drops_free news (segment_edits (map stored_of news)) then_state.segments (map stored_of olds) (puts_free then_state.segments (map stored_of olds) news (all_free before olds after then_state.segments stands news free_before free_after)) olds (each_has olds);
      gone = all_go news olds;
      over = subst (TakesOver (map stored_of olds)) (sym puts_are) (over_them olds news some_olds gives.cover);
    }

    taken : (all_done then_state edits).segments ≡ map stored_of (with_slots place count news slots)
    taken =
        run_taken file then_state (map stored_of before) (map stored_of olds) (map stored_of after) edits has_run take_run
        ∙ ap (λ (l : List StoredSegment). map stored_of before ++ (l ++ map stored_of after)) puts_are
        ∙ sym (map_three before news after)

    parts : all_done s (changing first place count news slots) ≡ all_done then_state edits
    parts = done_parts s first edits

    alone : all_done then_state edits ≡ with_segments then_state (all_done then_state edits).segments
    alone = drops_state news (segment_edits (map stored_of news)) (λ z. puts_state z news) olds then_state

    next_same : (all_done then_state edits).next ≡ then_state.next
    next_same = ap (λ (z : State). z.next) alone

    formed_then : list_all (segment_below then_state.next) (map stored_of news) ≡ true → is_formed file (all_done then_state edits) ≡ true
    formed_then small =
        run_formed file then_state (map stored_of before) (map stored_of olds) (map stored_of after) edits has_run take_run (omega (arith, next_same))
        (drops_below news (segment_edits (map stored_of news)) (all_done then_state edits).next (puts_below (all_done then_state edits).next news (subst (λ (n : ℕ). list_all (segment_below n) (map stored_of news) ≡ true) (sym next_same) small)) olds)

    pub changed : Changes file s first place count news slots
    changed = record {
      state = parts ∙ alone ∙ ap (with_segments then_state) taken;
      formed = λ small. ap (is_formed file) parts ∙ formed_then small;
      differ = all_done_differ s (changing first place count news slots) can.differ;
    }

-- ---- files

any_join : {X : Type 0} (p : X → Bool) (xs ys : List X) → list_any p (xs ++ ys) ≡ (list_any p xs || list_any p ys)
any_join p [] ys = refl
any_join p (x ∷ xs) ys = by (p x) (any_join p xs ys)
  where
    by : (t : Bool) → list_any p (xs ++ ys) ≡ (list_any p xs || list_any p ys) → (t || list_any p (xs ++ ys)) ≡ ((t || list_any p xs) || list_any p ys)
    by true rest = refl
    by false rest = rest

pub files_then : {G : Type 0} (file place count : ℕ) (news slots : List (Slotted G)) → is_file_in file (with_slots place count news slots) ≡ (is_file_in file (take place slots) || (is_file_in file news || is_file_in file (drop (place + count) slots)))
files_then file place count news slots =
    any_join (is_file_of file) (take place slots) (news ++ drop (place + count) slots)
    ∙ ap (λ (t : Bool). list_any (is_file_of file) (take place slots) || t) (any_join (is_file_of file) news (drop (place + count) slots))
