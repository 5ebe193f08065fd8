use Rattle.std.proofs.Common.{◌≡◌, List, ℕ, length, take, drop, ◌++◌, refl, ◌∙◌, subst, rules, arith}
use Rattle.flash_io.specs.Image.{Holds}
use Rattle.flash_io.proofs.Runs.{untouched_none, untouched_more, counted_then}
use Rattle.flash_io.proofs.Pieces.{starts, read_on, read_last}
use Rattle.flash_io.proofs.file.append_file.Goals as goal

pub loop-init : goal.loop-init
loop-init g c = let D = g.D.Disk in record {
  part = λ tells. starts (D.files c.args.disk.now) c.args.file c.args.into.now.items c.requires.empty (c.requires.there tells);
  untouched = untouched_none D.files D.may_leave D.moment D.left_since g.met.D.Disk.only_now c.args.disk.now;
  counted = search (rules, arith);
  quiet = refl;
}

pub loop-preserved : goal.loop-preserved
loop-preserved g c =
    let D = g.D.Disk in
    let old = c.args.disk.now in
    let mid = c.loop.disk in
    let new = c.read.new.self in
    let at : c.len-at.result ≡ length c.loop.into.items = search rules in
    record {
      part = λ tells. read_on 1048576 c.args.file (D.files old) (D.files mid) c.loop.into.items c.read.new.into.items (c.loop.invariant.part tells) c.loop.invariant.untouched.same (subst (λ n. (content : List ℕ) × Holds (D.files mid) c.args.file content × (c.read.new.into.items ≡ c.loop.into.items ++ take 1048576 (drop n content))) at (c.in_ok-count.ensures.told tells));
      untouched = untouched_more D.files D.may_leave D.moment D.left_since old mid new c.loop.invariant.untouched c.in_ok-count.ensures.files c.in_ok-count.ensures.crash c.in_ok-count.ensures.time;
      counted = counted_then D.fault_count D.reader_fault_count D.never_fails old mid new c.loop.invariant.counted (record { later = c.in_ok-count.ensures.cause.later; readers = c.in_ok-count.ensures.readers; spared = c.in_ok-count.ensures.spared });
      quiet = c.in_ok-count.ensures.cause.quiet ∙ c.loop.invariant.quiet;
    }

pub returns-then-count-clause-told : goal.returns-then-count-clause-told
returns-then-count-clause-told g c = λ tells.
    let D = g.D.Disk in
    let old = c.args.disk.now in
    let at : c.len-at.result ≡ length c.loop.into.items = search rules in
    let told = c.in_ok-count.ensures.told tells in
    read_last 1048576 c.in_ok-count.count c.args.file (D.files old) (D.files c.loop.disk) c.loop.into.items c.read.new.into.items (c.loop.invariant.part tells) c.loop.invariant.untouched.same
    (subst (λ n. (content : List ℕ) × Holds (D.files c.loop.disk) c.args.file content × (c.read.new.into.items ≡ c.loop.into.items ++ take 1048576 (drop n content))) at told) c.in_ok-count.ensures.appended c.if-count.true
