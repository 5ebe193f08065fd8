use Rattle.std.proofs.Common.{◌≡◌, ◌∙◌, ap, sym, subst, arith}
use Rattle.column_block.specs.Suiting.{Suits}
use Rattle.delta_layer.specs.Files.{FilesHave, files_of}
use Rattle.flash_io.specs.Crash.{LeavesOnly}
use Rattle.manifest.specs.Stores.{Beneath}
use Rattle.segment_flush.specs.Flushing.{after_one, has_more, one_flushed}
use Rattle.segment_flush.proofs.Planned.{none_planned, some_planned}
use Rattle.segment_list.specs.Flushes.{after_files, flushed_files}
use Rattle.segment_list.specs.declared.flush.Flush.{Flush}
use Rattle.segment_staging.specs.Staging.{AreBelow, AreWritten}
use Rattle.segment_staging.proofs.Written.{below_written, beneath_now, nothing_counted, nothing_named}
use Rattle.segment_staging.proofs.slots.stage_planned.Goals as goal

pub returns-in-None-clause-named : goal.returns-in-None-clause-named
returns-in-None-clause-named g c = nothing_named g.D.Disk c.args.store.now

pub returns-in-None-clause-written : goal.returns-in-None-clause-written
returns-in-None-clause-written g c = λ n planned image left.
    let s = c.args.slot.now in
    subst (λ b. AreWritten c.args.schema.now c.args.store.now.manifest.state.next image (one_flushed b n s).files) (sym (none_planned (has_more s) n s (sym c.in-None.is ∙ planned)))
    (below_written c.args.schema.now c.args.store.now.manifest.state.next image s.files c.requires.below)

pub returns-in-None-clause-any_moment : goal.returns-in-None-clause-any_moment
returns-in-None-clause-any_moment g c = λ n planned. beneath_now g.D.Disk g.met.D.Disk.only_now c.args.store.now n

pub returns-in-None-clause-counted : goal.returns-in-None-clause-counted
returns-in-None-clause-counted g c = nothing_counted g.D.Disk c.args.store.now

pub stage_layer-requires-clause-fresh : goal.stage_layer-requires-clause-fresh
stage_layer-requires-clause-fresh g c =
    let s = c.args.slot.now in
    let it = c.requires.planned in
    let is = some_planned (has_more s) it.from s c.in-Some.flush (sym c.in-Some.is ∙ it.is) in
    let from = ap (λ (f : Flush). f.from) is.1 in
    let fresh = it.fresh in
    omega (arith, from, fresh)

pub stage_layer-requires-clause-suits : goal.stage_layer-requires-clause-suits
stage_layer-requires-clause-suits g c = subst (λ fs. FilesHave (Suits c.args.schema.now) (files_of fs)) (sym c.layer.ensures) c.requires.suits.files

pub stage_layer-requires-clause-below : goal.stage_layer-requires-clause-below
stage_layer-requires-clause-below g c = subst (AreBelow c.args.store.now.manifest.state.next) (sym c.layer.ensures) c.requires.below

pub stage_layer-requires-clause-room : goal.stage_layer-requires-clause-room
stage_layer-requires-clause-room g c =
    let s = c.args.slot.now in
    let it = c.requires.planned in
    let is = some_planned (has_more s) it.from s c.in-Some.flush (sym c.in-Some.is ∙ it.is) in
    let numbers : after_files c.in-Some.flush.from c.layer.result.now ≡ after_one (has_more s) it.from s =
    ap (λ n. after_files n c.layer.result.now) (ap (λ (f : Flush). f.from) is.1) ∙ ap (after_files it.from) c.layer.ensures ∙ ap (λ b. after_one b it.from s) (sym is.0) in
    let room = it.room in
    omega (arith, numbers, room)

pub returns-in_err-stage_layer-in-Some-clause-any_moment : goal.returns-in_err-stage_layer-in-Some-clause-any_moment
returns-in_err-stage_layer-in-Some-clause-any_moment g c = λ n planned.
    let s = c.args.slot.now in
    let d = g.D.Disk in
    let is = some_planned (has_more s) n s c.in-Some.flush (sym c.in-Some.is ∙ planned) in
    subst (λ k. LeavesOnly d.moment d.left_since c.args.store.now.disk c.stage_layer.new.store.disk (Beneath k (d.may_leave c.args.store.now.disk))) (ap (λ (f : Flush). f.from) is.1) c.stage_layer.ensures.any_moment

pub returns-in_ok-stage_layer-in-Some-clause-any_moment : goal.returns-in_ok-stage_layer-in-Some-clause-any_moment
returns-in_ok-stage_layer-in-Some-clause-any_moment g c = λ n planned.
    let s = c.args.slot.now in
    let d = g.D.Disk in
    let is = some_planned (has_more s) n s c.in-Some.flush (sym c.in-Some.is ∙ planned) in
    subst (λ k. LeavesOnly d.moment d.left_since c.args.store.now.disk c.stage_layer.new.store.disk (Beneath k (d.may_leave c.args.store.now.disk))) (ap (λ (f : Flush). f.from) is.1) c.stage_layer.ensures.any_moment

pub returns-in_ok-stage_layer-in-Some-clause-written : goal.returns-in_ok-stage_layer-in-Some-clause-written
returns-in_ok-stage_layer-in-Some-clause-written g c = λ n planned image left.
    let s = c.args.slot.now in
    let next = c.args.store.now.manifest.state.next in
    let is = some_planned (has_more s) n s c.in-Some.flush (sym c.in-Some.is ∙ planned) in
    subst (λ b. AreWritten c.args.schema.now next image (one_flushed b n s).files) (sym is.0)
    (subst (λ fs. AreWritten c.args.schema.now next image (flushed_files n fs)) c.layer.ensures
    (subst (λ k. AreWritten c.args.schema.now next image (flushed_files k c.layer.result.now)) (ap (λ (f : Flush). f.from) is.1) (c.in_ok-stage_layer-in-Some.ensures.written image left)))
