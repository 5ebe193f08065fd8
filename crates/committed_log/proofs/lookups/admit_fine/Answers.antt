use Rattle.std.proofs.Common.{◌≡◌, ◌++◌, ◌∷◌, [], ◌∙◌, ◌≤◌, ◌^◌, cond, nat_eq, Option, None, Some, sym, ap, subst, length, w64, SFits, arith, to_z, of_z, List, ℕ, ℤ}
use Rattle.std.proofs.lemmas.Int.{to_z-of_z}
use Rattle.std.specs.BTreeMap.{get as get_low}
use Rattle.std.specs.HashMap.{get}
use Rattle.std.specs.Ordering.{int_cmp}
use Rattle.committed_log.specs.Admission.{head_fault}
use Rattle.committed_log.specs.Indexed.{log_with}
use Rattle.committed_log.specs.Log.{Log, end}
use Rattle.committed_log.specs.Nexts.{Successors, put_next, drop_next, IsBack}
use Rattle.committed_log.specs.Numbers.{AreRoomy}
use Rattle.committed_log.specs.Owned.{LiesInRegions}
use Rattle.committed_log.specs.Lawful.{IsLawful, pushed}
use Rattle.committed_log.specs.Lows.{lows_after, put_low_of, ended_low_of}
use Rattle.committed_log.specs.Repeats.{AreRepeats}
use Rattle.committed_log.specs.Regions.{Region, region, acts_on}
use Rattle.committed_log.specs.Store.{Store, store_of, after_entry}
use Rattle.committed_log.specs.Tables.{Follows}
use Rattle.committed_log.proofs.LowEnds.{alike, lows_pushed, moved_as, put_back_alike}
use Rattle.committed_log.proofs.Lying.{lies_at}
use Rattle.committed_log.proofs.NextLists.{noted, noted_reaches, kept, kept_reaches, is_back}
use Rattle.committed_log.proofs.RepeatedPlaces.{repeats_push}
use Rattle.committed_log.proofs.Pushed.{lawful_push, store_push, roomy_end, at_end}
use Rattle.committed_log.proofs.lookups.admit_fine.Goals as goal

pub admit_entry-requires : goal.admit_entry-requires
admit_entry-requires c =
    let fits : SFits w64 c.args.table = c.ranges.table in
    let log : Log = log_with c.args.table c.args.schema.now c.args.entries.now in
    let few : length c.args.entries.now ≤ 2 ^ 20 = omega (arith, c.requires.few) in
    let same : store_of (to_z w64 (of_z w64 c.args.table)) c.args.entries.now ≡ end log = ap (λ t. store_of t c.args.entries.now) (to_z-of_z w64 _ fits) in
    let head : head_fault (length c.args.entries.now) (store_of (to_z w64 (of_z w64 c.args.table)) c.args.entries.now).regions c.args.entry.now ≡ None = subst (λ (s : Store). head_fault (length c.args.entries.now) s.regions c.args.entry.now ≡ None) (sym same) c.requires.head in (
      subst (λ (s : Store). Follows c.args.lookups.now.tables s) (sym same) c.requires.told.follows,
      (
        subst (λ (s : Store). AreRoomy s.regions) (sym same) (roomy_end log c.requires.told.lawful few),
        (subst (λ (s : Store). LiesInRegions s) (at_end log ∙ sym same) (lies_at log c.requires.told.lawful (length c.args.entries.now)), (c.requires.writable, (c.new-repeated.ensures.items, head))),
      ),
    )

pub returns-in-Ok-admit_entry-clause-told : goal.returns-in-Ok-admit_entry-clause-told
returns-in-Ok-admit_entry-clause-told c =
    let fits : SFits w64 c.args.table = c.ranges.table in
    let log : Log = log_with c.args.table c.args.schema.now c.args.entries.now in
    let none = simp (to_z-of_z w64 _ fits) at c.in-Ok-admit_entry.ensures.ok in
    let step : (r : ℕ) → get nat_eq c.note.new.nexts r ≡ cond (acts_on r c.args.entry.now) (put_next (region (end log).regions r) (length log.entries) (get nat_eq c.args.lookups.now.nexts r)) (get nat_eq c.args.lookups.now.nexts r) =
    (λ r. c.in_default-note.ensures.ok r ∙ ap (λ (rs : List (ℕ × Region)). cond (acts_on r c.args.entry.now) (put_next (region rs r) (length log.entries) (get nat_eq c.args.lookups.now.nexts r)) (get nat_eq c.args.lookups.now.nexts r)) c.requires.told.follows.regions) in
    let pushed_lists : c.push_reserved.new.self.items ≡ c.args.lookups.now.repeats.items ++ c.admit_entry.new.repeated.items ∷ [] = c.push_reserved.ensures.items ∙ (λ i. c.args.lookups.now.repeats.items ++ c.from_vec.ensures i ∷ []) in
    let more : IsLawful (pushed log c.args.entry.now) = lawful_push c.args.table c.args.schema.now c.args.entries.now c.args.entry.now c.requires.told.lawful c.requires.writable none in
    let moves = c.low_moves-moves.result in
    let lows : (h : ℤ) → get_low int_cmp c.end_moved.new.lows h ≡ lows_after (end log).regions c.args.entry.now (get_low int_cmp c.args.lookups.now.lows) h =
    moved_as (end log).regions c.args.entry.now moves.put moves.ended moves.region
    (c.low_moves-moves.ensures.put ∙ ap (λ (rs : List (ℕ × Region)). put_low_of rs c.args.entry.now.region c.args.entry.now.body) c.requires.told.follows.regions)
    c.low_moves-moves.ensures.region
    (c.low_moves-moves.ensures.ended ∙ ap (λ (rs : List (ℕ × Region)). ended_low_of rs c.args.entry.now.region c.args.entry.now.body) c.requires.told.follows.regions)
    (get_low int_cmp c.args.lookups.now.lows) (get_low int_cmp c.put_moved.new.lows) (get_low int_cmp c.end_moved.new.lows) c.in-Ok.ensures.ok c.end_moved.ensures in
    record {
      lawful = more;
      follows = subst (λ (s : Store). Follows c.admit_entry.new.tables s)
          (ap (λ t. after_entry t (length c.args.entries.now) (store_of t c.args.entries.now) c.args.entry.now) (to_z-of_z w64 _ fits) ∙ sym (store_push c.args.table c.args.schema.now c.args.entries.now c.args.entry.now)) c.in-Ok-admit_entry.ensures.follows;
      nexts = noted log c.requires.told.lawful c.args.entry.now (get nat_eq c.args.lookups.now.nexts) (get nat_eq c.note.new.nexts) c.requires.told.nexts c.requires.told.reaches none step;
      reaches = noted_reaches log c.requires.told.lawful c.args.entry.now (get nat_eq c.args.lookups.now.nexts) (get nat_eq c.note.new.nexts) c.requires.told.nexts c.requires.told.reaches none step;
      lows = lows_pushed log c.args.entry.now c.requires.told.lawful more none (get_low int_cmp c.args.lookups.now.lows) (get_low int_cmp c.end_moved.new.lows) c.requires.told.lows lows;
      repeats = subst (λ (lists : List (List ℕ)). AreRepeats (pushed log c.args.entry.now) lists) (sym pushed_lists)
          (repeats_push log c.args.entry.now c.args.lookups.now.repeats.items c.requires.told.repeats c.admit_entry.new.repeated.items (simp (to_z-of_z w64 _ fits) at c.in-Ok-admit_entry.ensures.repeated));
    }

pub returns-in-Err-admit_entry-clause-unchanged : goal.returns-in-Err-admit_entry-clause-unchanged
returns-in-Err-admit_entry-clause-unchanged c =
    let fits : SFits w64 c.args.table = c.ranges.table in
    let log : Log = log_with c.args.table c.args.schema.now c.args.entries.now in
    let follows : Follows c.admit_entry.new.tables (end log) = subst (λ (s : Store). Follows c.admit_entry.new.tables s) (ap (λ t. store_of t c.args.entries.now) (to_z-of_z w64 _ fits)) c.in-Err-admit_entry.ensures.unchanged in
    let old : ℕ → Option Successors = get nat_eq c.args.lookups.now.nexts in
    let back : (r : ℕ) → IsBack (region (end log).regions r) (length log.entries) (old r) (get nat_eq c.forget.new.nexts r) =
    (λ r. is_back (acts_on r c.args.entry.now) (region (end log).regions r) (length log.entries) (old r) (get nat_eq c.note.new.nexts r) (get nat_eq c.forget.new.nexts r)
    (c.in_default-note.ensures.ok r ∙ ap (λ (rs : List (ℕ × Region)). cond (acts_on r c.args.entry.now) (put_next (region rs r) (length log.entries) (old r)) (old r)) c.requires.told.follows.regions)
    (c.forget.ensures r ∙ ap (λ (rs : List (ℕ × Region)). cond (acts_on r c.args.entry.now) (drop_next (region rs r) (get nat_eq c.note.new.nexts r)) (get nat_eq c.note.new.nexts r)) follows.regions)) in
    record {
      lawful = c.requires.told.lawful;
      follows = follows;
      nexts = kept log c.requires.told.lawful c.args.entry.now (get nat_eq c.args.lookups.now.nexts) (get nat_eq c.forget.new.nexts) c.requires.told.nexts c.requires.told.reaches back;
      reaches = kept_reaches log c.requires.told.lawful c.args.entry.now (get nat_eq c.args.lookups.now.nexts) (get nat_eq c.forget.new.nexts) c.requires.told.nexts c.requires.told.reaches back;
      lows = alike (end log).regions (get_low int_cmp c.args.lookups.now.lows) (get_low int_cmp c.put_back-in-Err-admit_entry.new.lows)
          (put_back_alike c.low_moves-moves.result.put (Some c.low_moves-moves.result.region) c.in-Ok.stood (get_low int_cmp c.args.lookups.now.lows) (get_low int_cmp c.put_moved.new.lows) (get_low int_cmp c.put_back-in-Err-admit_entry.new.lows) c.in-Ok.ensures.ok c.in-Ok.ensures.before c.put_back-in-Err-admit_entry.ensures)
          c.requires.told.lows;
      repeats = c.requires.told.repeats;
    }
