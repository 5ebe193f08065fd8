use Rattle.std.proofs.Common.{refl}
use Rattle.std.specs.Ordering.{nat_cmp}
use Rattle.std.specs.BTreeSet.{contains}
use Rattle.flash_mem.specs.Files.{image_of}
use Rattle.flash_mem.specs.declared.history.Call.TheVariants as call
use Rattle.flash_mem.proofs.OneCall.{follows_same, removed_same, remove_reads, remove_settled, remove_crash, remove_model, elapses_one}
use Rattle.flash_mem.proofs.calls.MemDiskDisk.remove.Goals as goal

pub returns-then-fails-clause-crash : goal.returns-then-fails-clause-crash
returns-then-fails-clause-crash c = follows_same _ _ (removed_same c.args.file) c.args.self.now.history.items _ refl

pub invariant_of-self-2-clause-reads : goal.invariant_of-self-2-clause-reads
invariant_of-self-2-clause-reads c =
    let self = c.args.self.now in
    remove_reads (image_of self.base) c.args.file self.history.items c.take.new.calls.items (image_of self.files) (image_of c.take.new.files) (contains nat_cmp self.unsynced) (contains nat_cmp c.take.new.unsynced) c.take.ensures.calls c.take.ensures.files self.reads

pub invariant_of-self-2-clause-settled : goal.invariant_of-self-2-clause-settled
invariant_of-self-2-clause-settled c =
    let self = c.args.self.now in
    remove_settled (image_of self.base) c.args.file self.history.items c.take.new.calls.items (image_of self.files) (image_of c.take.new.files) (contains nat_cmp self.unsynced) (contains nat_cmp c.take.new.unsynced) c.take.ensures.calls c.take.ensures.files self.settled c.take.ensures.others

pub returns-clause-crash : goal.returns-clause-crash
returns-clause-crash c =
    let self = c.args.self.now in
    remove_crash (image_of self.base) c.args.file self.history.items c.take.new.calls.items (image_of self.files) (image_of c.take.new.files) (contains nat_cmp self.unsynced) (contains nat_cmp c.take.new.unsynced) c.take.ensures.calls c.take.ensures.files

pub returns-clause-time : goal.returns-clause-time
returns-clause-time c = elapses_one (image_of c.args.self.now.base) c.args.self.now.history.items c.take.new.calls.items (call.Remove c.args.file) c.take.ensures.calls

pub returns-clause-model : goal.returns-clause-model
returns-clause-model c =
    let self = c.args.self.now in
    remove_model (image_of self.base) c.args.file self.history.items c.take.new.calls.items (image_of self.files) (image_of c.take.new.files) (contains nat_cmp self.unsynced) (contains nat_cmp c.take.new.unsynced) c.take.ensures.calls c.take.ensures.files
