use Rattle.std.proofs.Common.{◌≡◌, ◌∙◌, ◌+◌, refl, sym, ap, subst, arith, take}
use Rattle.column_block.specs.Suiting.{Suits}
use Rattle.manifest.specs.declared.store.Manifest.{Manifest}
use Rattle.segment_flush.proofs.Planned.{all_at}
use Rattle.segment_list.specs.Flushes.{after_file, after_files, flushed_file}
use Rattle.segment_list.proofs.Flushing.{number_more}
use Rattle.segment_staging.specs.Staging.{IsFileBelow, IsWritten}
use Rattle.segment_staging.proofs.Numbered.{fewer_files, no_fewer}
use Rattle.segment_staging.proofs.Written.{beneath_more, beneath_now, counted_on, elsewhere_beneath, file_more, files_at, named_on, nothing_counted, nothing_named}
use Rattle.segment_staging.proofs.files.stage_layer.Goals as goal

pub loop-i-init : goal.loop-i-init
loop-i-init g c = record {
  number = refl;
  named = nothing_named g.D.Disk c.args.store.now;
  moments = beneath_now g.D.Disk g.met.D.Disk.only_now c.args.store.now c.args.from;
  written = λ image left. tt;
  counted = nothing_counted g.D.Disk c.args.store.now;
}

pub stage_file-requires-clause-fresh : goal.stage_file-requires-clause-fresh
stage_file-requires-clause-fresh g c =
    let same = ap (λ (m : Manifest). m.state.next) c.loop-i.invariant.named.manifest in
    let fresh = c.requires.fresh in
    let up = no_fewer c.args.from (take c.loop-i.i c.args.layer.now) in
    omega (arith, same, fresh, up, c.loop-i.invariant.number)

pub stage_file-requires-clause-suits : goal.stage_file-requires-clause-suits
stage_file-requires-clause-suits g c = files_at (Suits c.args.schema.now) c.args.layer.now c.loop-i.i c.file-file.result.now c.file-file.ensures c.requires.suits

pub stage_file-requires-clause-below : goal.stage_file-requires-clause-below
stage_file-requires-clause-below g c =
    subst (λ (m : Manifest). IsFileBelow m.state.next c.file-file.result.now) (sym c.loop-i.invariant.named.manifest)
    (all_at (IsFileBelow c.args.store.now.manifest.state.next) c.args.layer.now c.loop-i.i c.file-file.result.now c.file-file.ensures c.requires.below)

pub number_after-number-requires : goal.number_after-number-requires
number_after-number-requires g c =
    let layer = c.args.layer.now in
    let more = number_more c.args.from layer c.loop-i.i c.file-file.result.now c.file-file.ensures in
    let next : after_file c.loop-i.number c.file-file.result.now ≡ after_file (after_files c.args.from (take c.loop-i.i layer)) c.file-file.result.now = ap (λ n. after_file n c.file-file.result.now) c.loop-i.invariant.number in
    let few = fewer_files c.args.from (c.loop-i.i + 1) layer in
    let room = c.requires.room in
    omega (arith, more, next, few, room)

pub loop-i-preserved : goal.loop-i-preserved
loop-i-preserved g c =
    let d = g.D.Disk in
    let layer = c.args.layer.now in
    let f = c.file-file.result.now in
    let old = c.args.store.now in
    let mid = c.loop-i.store in
    let new = c.stage_file.new.store in
    let number = c.loop-i.number in
    let so_far = c.loop-i.invariant in
    let run = elsewhere_beneath d mid new number c.stage_file.ensures.any_moment in
    let up = no_fewer c.args.from (take c.loop-i.i layer) in
    let same = ap (λ (m : Manifest). m.state.next) so_far.named.manifest in
    record {
      number = c.number_after-number.ensures ∙ ap (λ n. after_file n f) so_far.number ∙ sym (number_more c.args.from layer c.loop-i.i f c.file-file.ensures);
      named = named_on d old mid new so_far.named c.stage_file.ensures.named;
      moments = beneath_more d g.met.D.Disk.counts_now c.args.from old mid new so_far.moments number run (omega (arith, up, so_far.number));
      written = file_more d g.met.D.Disk.counts_now c.args.schema.now old.manifest.state.next c.args.from c.requires.fresh mid new number run layer c.loop-i.i f c.file-file.ensures c.requires.below so_far.number so_far.written
          (λ image left. subst (λ n. IsWritten c.args.schema.now n image (flushed_file number f)) same (c.in_ok-stage_file.ensures.written image left));
      counted = counted_on d old mid new so_far.counted c.stage_file.ensures.counted;
    }

pub returns-in_err-stage_file-clause-named : goal.returns-in_err-stage_file-clause-named
returns-in_err-stage_file-clause-named g c = named_on g.D.Disk c.args.store.now c.loop-i.store c.stage_file.new.store c.loop-i.invariant.named c.stage_file.ensures.named

pub returns-in_err-stage_file-clause-any_moment : goal.returns-in_err-stage_file-clause-any_moment
returns-in_err-stage_file-clause-any_moment g c =
    let up = no_fewer c.args.from (take c.loop-i.i c.args.layer.now) in
    beneath_more g.D.Disk g.met.D.Disk.counts_now c.args.from c.args.store.now c.loop-i.store c.stage_file.new.store c.loop-i.invariant.moments c.loop-i.number (elsewhere_beneath g.D.Disk c.loop-i.store c.stage_file.new.store c.loop-i.number c.stage_file.ensures.any_moment) (omega (arith, up, c.loop-i.invariant.number))

pub returns-in_err-stage_file-clause-counted : goal.returns-in_err-stage_file-clause-counted
returns-in_err-stage_file-clause-counted g c = counted_on g.D.Disk c.args.store.now c.loop-i.store c.stage_file.new.store c.loop-i.invariant.counted c.stage_file.ensures.counted
