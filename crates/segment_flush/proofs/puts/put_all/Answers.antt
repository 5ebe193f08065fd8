use Rattle.std.proofs.Common.{rules, ◌≡◌, ◌∙◌, ◌++◌, ◌∷◌, [], ap, sym, subst, ℕ, suc, ◌+◌, ◌-◌, ◌<◌, ◌≤◌, List, Option, Some, length, take, drop, set, arith}
use Rattle.std.specs.Prelude.{slice_get}
use Rattle.std.specs.List.{AllByRecursion}
use Rattle.std.proofs.lemmas.List.{take_all}
use Rattle.segment_list.specs.Slots.{Slotted}
use Rattle.segment_list.specs.declared.flush.Flush.{Flush}
use Rattle.segment_flush.specs.Flushing.{after_slots, flushed_slots, has_more, one_flushed, plan_of, plans_of}
use Rattle.segment_flush.proofs.Planned.{all_at, as_many, at_place, last_plan, none_put, one_put, still_there}
use Rattle.segment_flush.proofs.puts.put_all.Goals as goal

pub loop-place-init : goal.loop-place-init
loop-place-init g c =
    let long : c.len-place.result ≡ length c.args.list.now = (let n : c.len-place.result ≡ length c.args.flushes.items = search rules in n ∙ ap length c.requires.planned ∙ as_many has_more c.args.from c.args.list.now) in
    let plans : c.len-place.result ≡ length (plans_of has_more c.args.from c.args.list.now) = long ∙ sym (as_many has_more c.args.from c.args.list.now) in
    record {
      within = omega (arith, long);
      planned = c.requires.planned ∙ sym (take_all c.len-place.result (plans_of has_more c.args.from c.args.list.now) (omega (arith, plans)));
      slots = none_put has_more c.len-place.result c.args.from c.args.list.now (omega (arith, long));
    }

pub put_at-requires-clause-planned : goal.put_at-requires-clause-planned
put_at-requires-clause-planned g c = λ s here.
    let olds = c.args.list.now in
    let k = c.loop-place.place - 1 in
    let at : c.loop-place.place ≡ suc k = (let some = c.loop-place-test.true in omega (arith, some)) in
    let within : k < length olds = (let le = c.loop-place.invariant.within in omega (arith, le, at)) in
    let there : slice_get olds k ≡ Some s = sym (still_there has_more c.args.from olds k within) ∙ ap (λ (n : ℕ). slice_get (take n olds ++ drop n (flushed_slots has_more c.args.from olds)) k) (sym at) ∙ ap (λ (l : List (Slotted _)). slice_get l k) (sym c.loop-place.invariant.slots) ∙ here in
    let popped : c.loop-place.flushes.items ≡ c.take_last.new.flushes.items ++ c.in-Some.plan ∷ [] = search rules in
    (after_slots has_more c.args.from (take k olds), (last_plan has_more c.args.from olds k s c.take_last.new.flushes.items c.in-Some.plan there (ap (λ (n : ℕ). take n (plans_of has_more c.args.from olds)) (sym at) ∙ sym c.loop-place.invariant.planned ∙ popped)).1)

pub put_at-requires-clause-room : goal.put_at-requires-clause-room
put_at-requires-clause-room g c = λ s here.
    let olds = c.args.list.now in
    let k = c.loop-place.place - 1 in
    let at : c.loop-place.place ≡ suc k = (let some = c.loop-place-test.true in omega (arith, some)) in
    let within : k < length olds = (let le = c.loop-place.invariant.within in omega (arith, le, at)) in
    let there : slice_get olds k ≡ Some s = sym (still_there has_more c.args.from olds k within) ∙ ap (λ (n : ℕ). slice_get (take n olds ++ drop n (flushed_slots has_more c.args.from olds)) k) (sym at) ∙ ap (λ (l : List (Slotted _)). slice_get l k) (sym c.loop-place.invariant.slots) ∙ here in
    all_at (λ (t : Slotted _). t.epoch < 18446744073709551615) olds k s there c.requires.room

pub loop-place-preserved : goal.loop-place-preserved
loop-place-preserved g c =
    let olds = c.args.list.now in
    let k = c.loop-place.place - 1 in
    let at : c.loop-place.place ≡ suc k = (let some = c.loop-place-test.true in omega (arith, some)) in
    let within : k < length olds = (let le = c.loop-place.invariant.within in omega (arith, le, at)) in
    let it = at_place olds k within in
    let now_is : c.loop-place.list ≡ take (suc k) olds ++ drop (suc k) (flushed_slots has_more c.args.from olds) = c.loop-place.invariant.slots ∙ ap (λ (n : ℕ). take n olds ++ drop n (flushed_slots has_more c.args.from olds)) at in
    let here : slice_get c.loop-place.list k ≡ Some it.0 = ap (λ (l : List (Slotted _)). slice_get l k) now_is ∙ still_there has_more c.args.from olds k within ∙ it.1 in
    let popped : c.loop-place.flushes.items ≡ c.take_last.new.flushes.items ++ c.in-Some.plan ∷ [] = search rules in
    let last = last_plan has_more c.args.from olds k it.0 c.take_last.new.flushes.items c.in-Some.plan it.1 (ap (λ (n : ℕ). take n (plans_of has_more c.args.from olds)) (sym at) ∙ sym c.loop-place.invariant.planned ∙ popped) in
    record {
      within = omega (arith, within);
      planned = last.0;
      slots = c.put_at.ensures it.0 (after_slots has_more c.args.from (take k olds)) here last.1
          ∙ ap (λ (l : List (Slotted _)). set l k (one_flushed (has_more it.0) (after_slots has_more c.args.from (take k olds)) it.0)) now_is
          ∙ one_put has_more c.args.from olds k it.0 it.1;
    }
