use Rattle.std.proofs.Common.{rules, ◌≡◌, length, refl, subst}
use Rattle.std.specs.Ordering.{nat_cmp}
use Rattle.std.specs.BTreeSet.{contains}
use Rattle.flash_io.specs.Crash.{Follows, Allows, Torn}
use Rattle.flash_mem.specs.Files.{image_of}
use Rattle.flash_mem.specs.Laws.{MayLeave}
use Rattle.flash_mem.specs.declared.history.Call.TheVariants as call
use Rattle.flash_mem.proofs.OneCall.{follows_same, write_model, torn_same, write_crash, elapses_one, put_reads, put_settled, write_others}
use Rattle.flash_mem.proofs.calls.MemDiskDisk.write_at.Goals as goal

pub returns-then-fails-clause-crash : goal.returns-then-fails-clause-crash
returns-then-fails-clause-crash c = follows_same _ _ (torn_same c.args.file c.args.at (length c.args.bytes.now)) c.args.self.now.history.items _ refl

pub returns-in_err-kept-clause-crash : goal.returns-in_err-kept-clause-crash
returns-in_err-kept-clause-crash c = follows_same _ _ (torn_same c.args.file c.args.at (length c.args.bytes.now)) c.args.self.now.history.items _ refl

pub returns-in_err-put_over-clause-crash : goal.returns-in_err-put_over-clause-crash
returns-in_err-put_over-clause-crash c = follows_same _ _ (torn_same c.args.file c.args.at (length c.args.bytes.now)) c.args.self.now.history.items _ c.in_err-put_over.ensures.kept.calls_kept

pub invariant_of-self-2-clause-reads : goal.invariant_of-self-2-clause-reads
invariant_of-self-2-clause-reads c =
    let self = c.args.self.now in
    put_reads (image_of self.base) (call.Write c.args.file c.args.at c.in_ok-kept.kept) c.args.file self.history.items c.put_over.new.calls.items (image_of self.files) (image_of c.put_over.new.files) (contains nat_cmp self.unsynced) (contains nat_cmp c.put_over.new.unsynced) self.reads c.put_over.ensures.either

pub invariant_of-self-2-clause-settled : goal.invariant_of-self-2-clause-settled
invariant_of-self-2-clause-settled c =
    let self = c.args.self.now in
    put_settled (image_of self.base) (call.Write c.args.file c.args.at c.in_ok-kept.kept) c.args.file self.history.items c.put_over.new.calls.items (image_of self.files) (image_of c.put_over.new.files) (contains nat_cmp self.unsynced) (contains nat_cmp c.put_over.new.unsynced)
    (λ old image step. step.0) (write_others c.args.file c.args.at c.in_ok-kept.kept) self.settled c.put_over.ensures.others c.put_over.ensures.either

pub returns-clause-crash : goal.returns-clause-crash
returns-clause-crash c =
    let size : length c.in_ok-kept.kept.items ≡ length c.args.bytes.now = search rules in
    subst (λ n. Follows (Torn c.args.file c.args.at n) (MayLeave (image_of c.args.self.now.base) c.args.self.now.history.items) (MayLeave (image_of c.args.self.now.base) c.put_over.new.calls.items)) size
    (write_crash (image_of c.args.self.now.base) c.args.file c.args.at c.in_ok-kept.kept c.args.self.now.history.items c.put_over.new.calls.items c.in_ok-put_over.ensures.noted.calls_noted)

pub returns-clause-time : goal.returns-clause-time
returns-clause-time c = elapses_one (image_of c.args.self.now.base) c.args.self.now.history.items c.put_over.new.calls.items (call.Write c.args.file c.args.at c.in_ok-kept.kept) c.in_ok-put_over.ensures.noted.calls_noted

pub returns-clause-model : goal.returns-clause-model
returns-clause-model c =
    let size : length c.in_ok-kept.kept.items ≡ length c.args.bytes.now = search rules in
    subst (λ n. Allows (Torn c.args.file c.args.at n) (MayLeave (image_of c.args.self.now.base) c.args.self.now.history.items) (MayLeave (image_of c.args.self.now.base) c.put_over.new.calls.items)) size
    (write_model (image_of c.args.self.now.base) c.args.file c.args.at c.in_ok-kept.kept c.args.self.now.history.items c.put_over.new.calls.items c.in_ok-put_over.ensures.noted.calls_noted)
