use Rattle.std.proofs.Common.{◌≡◌, ◌∙◌, ◌<◌, length, refl, rules, sym, subst, arith}
use Rattle.std.specs.Prelude.{◌^◌}
use Rattle.std.specs.List.{flat_map}
use Rattle.manifest_form.specs.Spelling as spelling
use Rattle.manifest_form.proofs.Differ.{all_done_differ}
use Rattle.flash_io.proofs.Moments.{started, weaken}
use Rattle.manifest_form.specs.States.{all_done}
use Rattle.manifest.specs.Gated.{IsSteady}
use Rattle.manifest.specs.Stores.{has_with, IsKept}
use Rattle.manifest.proofs.Same.{same_manifest, on_err, done_state}
use Rattle.manifest.proofs.Stays.{still_old, old_or_new, kept_with, kept_same}
use Rattle.manifest.proofs.store.Manifest.commit.Goals as goal

pub returns-in_err-bytes-clause-any_moment : goal.returns-in_err-bytes-clause-any_moment
returns-in_err-bytes-clause-any_moment g c =
    let D = g.D.Disk in
    let m = c.args.self.now in
    let disk = c.args.disk.now in
    started D.moment D.left_since disk _ (λ x left. still_old m (D.may_leave disk) c.requires.kept (has_with m (all_done m.state c.args.edits.now)) x (g.met.D.Disk.only_now disk x left))

pub returns-in_err-copies-clause-any_moment : goal.returns-in_err-copies-clause-any_moment
returns-in_err-copies-clause-any_moment g c =
    let D = g.D.Disk in
    let m = c.args.self.now in
    let disk = c.args.disk.now in
    started D.moment D.left_since disk _ (λ x left. still_old m (D.may_leave disk) c.requires.kept (has_with m (all_done m.state c.args.edits.now)) x (g.met.D.Disk.only_now disk x left))

pub returns-in_err-ready-clause-any_moment : goal.returns-in_err-ready-clause-any_moment
returns-in_err-ready-clause-any_moment g c =
    let D = g.D.Disk in
    let m = c.args.self.now in
    let disk = c.args.disk.now in
    started D.moment D.left_since disk _ (λ x left. still_old m (D.may_leave disk) c.requires.kept (has_with m (all_done m.state c.args.edits.now)) x (g.met.D.Disk.only_now disk x left))

pub returns-in_err-ready-clause-refused : goal.returns-in_err-ready-clause-refused
returns-in_err-ready-clause-refused g c =
    let m = c.args.self.now in
    let state : c.make_ready.new.state ≡ m.state = search rules in
    on_err c.from_residual-in_err-ready.result (same_manifest m _ refl refl refl refl refl refl state refl)

pub returns-clause-refused : goal.returns-clause-refused
returns-clause-refused g c =
    let m = c.args.self.now in
    let state : c.cancel.new.state ≡ m.state = search rules in
    same_manifest m _ refl refl refl refl refl refl state refl

pub invariant_of-self-in-Ok : goal.invariant_of-self-in-Ok
invariant_of-self-in-Ok g c =
    let m = c.args.self.now in
    let edits = c.args.edits.now in
    let state = done_state c.args.self.now.state c.make_ready.new.state c.do_all.new.state c.in_ok-ready.ready c.in_ok-copies.copies.items c.args.edits.now c.do_all.ensures.done c.in_ok-ready.ensures.taken c.in_ok-ready.ensures.ready c.in_ok-copies.ensures in
    let len : c.len.result ≡ length c.as_slice.result.now = search rules in
    record {
      apart = m.apart;
      formed = rw state c.requires.formed;
      lawful = m.lawful;
      differ = rw state (all_done_differ m.state edits m.differ);
      named = m.named;
      within = omega (arith, len, c.in-Ok.ensures.room);
    }

pub returns-in-Ok-clause-done : goal.returns-in-Ok-clause-done
returns-in-Ok-clause-done g c =
    let state = done_state c.args.self.now.state c.make_ready.new.state c.do_all.new.state c.in_ok-ready.ready c.in_ok-copies.copies.items c.args.edits.now c.do_all.ensures.done c.in_ok-ready.ensures.taken c.in_ok-ready.ensures.ready c.in_ok-copies.ensures in
    record { file = refl; root_at = refl; table = refl; columns = refl; steadied = refl; state = state }

pub returns-in-Ok-clause-kept : goal.returns-in-Ok-clause-kept
returns-in-Ok-clause-kept g c =
    let D = g.D.Disk in
    let m = c.args.self.now in
    let edits = c.args.edits.now in
    let bytes = c.as_slice.result.now in
    let old = D.may_leave c.args.disk.now in
    let new = D.may_leave c.commit.new.disk in
    let kept = c.requires.kept in
    let steady : IsSteady m.file kept.closes.part old = (kept.content, kept.closes.shut, kept.held) in
    let run = c.commit.ensures.any_moment kept.closes.part kept.closes.size steady in
    let spelled : bytes ≡ flat_map spelling.edit edits = c.as_slice.ensures.value ∙ c.in_ok-bytes.ensures.bytes in
    let sized : length bytes < 2 ^ 64 = search rules in
    let state = done_state c.args.self.now.state c.make_ready.new.state c.do_all.new.state c.in_ok-ready.ready c.in_ok-copies.copies.items c.args.edits.now c.do_all.ensures.done c.in_ok-ready.ensures.taken c.in_ok-ready.ensures.ready c.in_ok-copies.ensures in
    let len : c.len.result ≡ length bytes = search rules in
    kept_with m old kept edits bytes c.requires.formed spelled c.in_ok-bytes.ensures.fits sized new (λ x left. run.each x (g.met.D.Disk.counts_now c.commit.new.disk (D.moment c.args.disk.now) x run.later left)) (c.in-Ok.ensures.committed kept.closes.part kept.closes.size steady) _ (record {
      becomes = record { file = refl; root_at = refl; table = refl; columns = refl; steadied = refl; state = state };
      at = omega (arith, len);
    })

pub returns-in-Ok-clause-any_moment : goal.returns-in-Ok-clause-any_moment
returns-in-Ok-clause-any_moment g c =
    let D = g.D.Disk in
    let m = c.args.self.now in
    let edits = c.args.edits.now in
    let bytes = c.as_slice.result.now in
    let old = D.may_leave c.args.disk.now in
    let kept = c.requires.kept in
    let run = c.commit.ensures.any_moment kept.closes.part kept.closes.size (kept.content, kept.closes.shut, kept.held) in
    let spelled : bytes ≡ flat_map spelling.edit edits = c.as_slice.ensures.value ∙ c.in_ok-bytes.ensures.bytes in
    let sized : length bytes < 2 ^ 64 = search rules in
    weaken D.moment D.left_since c.args.disk.now c.commit.new.disk _ _ run (old_or_new m old kept edits bytes c.requires.formed spelled c.in_ok-bytes.ensures.fits sized)

pub returns-clause-any_moment : goal.returns-clause-any_moment
returns-clause-any_moment g c =
    let D = g.D.Disk in
    let m = c.args.self.now in
    let edits = c.args.edits.now in
    let bytes = c.as_slice.result.now in
    let old = D.may_leave c.args.disk.now in
    let kept = c.requires.kept in
    let run = c.commit.ensures.any_moment kept.closes.part kept.closes.size (kept.content, kept.closes.shut, kept.held) in
    let spelled : bytes ≡ flat_map spelling.edit edits = c.as_slice.ensures.value ∙ c.in_ok-bytes.ensures.bytes in
    let sized : length bytes < 2 ^ 64 = search rules in
    weaken D.moment D.left_since c.args.disk.now c.commit.new.disk _ _ run (old_or_new m old kept edits bytes c.requires.formed spelled c.in_ok-bytes.ensures.fits sized)

pub returns-clause-memory : goal.returns-clause-memory
returns-clause-memory g c = λ memory.
    let D = g.D.Disk in
    let m = c.args.self.now in
    let bytes = c.as_slice.result.now in
    let old = D.may_leave c.args.disk.now in
    let new = D.may_leave c.commit.new.disk in
    let kept = c.requires.kept in
    let steady : IsSteady m.file kept.closes.part old = (kept.content, kept.closes.shut, kept.held) in
    let run = c.commit.ensures.any_moment kept.closes.part kept.closes.size steady in
    let state : c.cancel.new.state ≡ m.state = search rules in
    let same = kept_same m old kept bytes new (λ x left. run.each x (g.met.D.Disk.counts_now c.commit.new.disk (D.moment c.args.disk.now) x run.later left)) (c.in-Err.ensures.memory kept.closes.part kept.closes.size steady memory) in
    subst (IsKept new) (sym (same_manifest m _ refl refl refl refl refl refl state refl)) same
