use Rattle.std.proofs.Common.{◌≡◌, ◌∙◌, ap, ℕ, ◌<◌, arith, OnOk}
use Rattle.std.specs.Prelude.{unwrap_or, Result, Ok, Err}
use Rattle.committed_log.specs.Log.{Log, end}
use Rattle.committed_log.specs.Regions.{region, index_of}
use Rattle.generator.specs.Generated.{region_of, last_index, log_of, begun, prewritten, committed}
use Rattle.generator.proofs.MomentSteps.{region_low, region_high}
use Rattle.generator.proofs.Making.{last_is, last_low, prewrite_fine, commit_fine, grown}
use Rattle.generator.proofs.generate.add_transaction.Goals as goal

found : (n x r last : ℕ) (logs : Log) → logs ≡ log_of (begun n) → n < 524283 → r ≡ region_of x → last ≡ unwrap_or (index_of (region (end logs).regions r)) 0 → last ≡ last_index (region_of x) n
found n x r last logs is room er el = el ∙ ap (λ q. unwrap_or (index_of (region (end logs).regions q)) 0) er ∙ last_is n logs is (omega (arith, room)) (region_of x) (region_low x) (region_high x)

pub prewritten-requires-clause-low : goal.prewritten-requires-clause-low
prewritten-requires-clause-low c =
    last_low c.args.i c.args.logs.now c.requires.begun (omega (arith, c.requires.room)) (region_of c.args.x) c.last_index-last.result
    (found c.args.i c.args.x c.region_of.result c.last_index-last.result c.args.logs.now c.requires.begun c.requires.room c.region_of.ensures.region c.last_index-last.ensures)

pub committed-requires-clause-low : goal.committed-requires-clause-low
committed-requires-clause-low c =
    last_low c.args.i c.args.logs.now c.requires.begun (omega (arith, c.requires.room)) (region_of c.args.x) c.last_index-last.result
    (found c.args.i c.args.x c.region_of.result c.last_index-last.result c.args.logs.now c.requires.begun c.requires.room c.region_of.ensures.region c.last_index-last.ensures)

pub add-requires-clause-writable : goal.add-requires-clause-writable
add-requires-clause-writable c =
    let last = found c.args.i c.args.x c.region_of.result c.last_index-last.result c.args.logs.now c.requires.begun c.requires.room c.region_of.ensures.region c.last_index-last.ensures in
    (prewrite_fine c.args.i c.args.x c.args.logs.now c.requires.begun c.requires.room c.in_ok-first.first (c.in_ok-first.ensures ∙ ap (prewritten c.args.x c.args.i) last)).0

pub add-requires-clause-none : goal.add-requires-clause-none
add-requires-clause-none c =
    let last = found c.args.i c.args.x c.region_of.result c.last_index-last.result c.args.logs.now c.requires.begun c.requires.room c.region_of.ensures.region c.last_index-last.ensures in
    (prewrite_fine c.args.i c.args.x c.args.logs.now c.requires.begun c.requires.room c.in_ok-first.first (c.in_ok-first.ensures ∙ ap (prewritten c.args.x c.args.i) last)).1

pub add-requires-2-clause-writable : goal.add-requires-2-clause-writable
add-requires-2-clause-writable c =
    let last = found c.args.i c.args.x c.region_of.result c.last_index-last.result c.args.logs.now c.requires.begun c.requires.room c.region_of.ensures.region c.last_index-last.ensures in
    (commit_fine c.args.i c.args.x c.args.logs.now c.requires.begun c.requires.room c.in_ok-first.first (c.in_ok-first.ensures ∙ ap (prewritten c.args.x c.args.i) last) c.add.new.logs c.in_ok-add.ensures c.in_ok-second.second (c.in_ok-second.ensures ∙ ap (committed c.args.x c.args.i) last)).0

pub add-requires-2-clause-none : goal.add-requires-2-clause-none
add-requires-2-clause-none c =
    let last = found c.args.i c.args.x c.region_of.result c.last_index-last.result c.args.logs.now c.requires.begun c.requires.room c.region_of.ensures.region c.last_index-last.ensures in
    (commit_fine c.args.i c.args.x c.args.logs.now c.requires.begun c.requires.room c.in_ok-first.first (c.in_ok-first.ensures ∙ ap (prewritten c.args.x c.args.i) last) c.add.new.logs c.in_ok-add.ensures c.in_ok-second.second (c.in_ok-second.ensures ∙ ap (committed c.args.x c.args.i) last)).1

on_ok : {A E : Type 0} {P Q : Type 0} (r : Result A E) → OnOk r P → (P → Q) → OnOk r Q
on_ok (Ok x) p f = f p
on_ok (Err e) p f = tt

pub returns : goal.returns
returns c =
    let last = found c.args.i c.args.x c.region_of.result c.last_index-last.result c.args.logs.now c.requires.begun c.requires.room c.region_of.ensures.region c.last_index-last.ensures in
    on_ok c.add-2.result c.add-2.ensures (λ all. grown c.args.i c.args.x c.args.logs.now c.requires.begun c.requires.room c.in_ok-first.first (c.in_ok-first.ensures ∙ ap (prewritten c.args.x c.args.i) last) c.add.new.logs c.in_ok-add.ensures c.in_ok-second.second (c.in_ok-second.ensures ∙ ap (committed c.args.x c.args.i) last) c.add-2.new.logs all c.requires.random)
