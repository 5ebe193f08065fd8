use Rattle.std.specs.Ordering.{nat_cmp}
use Rattle.std.specs.BTreeSet.{contains}
use Rattle.flash_mem.specs.Files.{image_of}
use Rattle.flash_mem.proofs.OneCall.{sync_reads, sync_settled, sync_durable, sync_crash, sync_model, sync_time}
use Rattle.flash_mem.proofs.calls.MemDiskDisk.sync.Goals as goal

pub invariant_of-self-2-clause-reads : goal.invariant_of-self-2-clause-reads
invariant_of-self-2-clause-reads c =
    let self = c.args.self.now in
    let e = c.settle.ensures in
    sync_reads (image_of self.base) c.args.file self.history.items c.settle.new.calls.items (image_of self.files) (contains nat_cmp self.unsynced) (contains nat_cmp c.settle.new.unsynced) self.reads self.settled e.calls e.same e.others

pub invariant_of-self-2-clause-settled : goal.invariant_of-self-2-clause-settled
invariant_of-self-2-clause-settled c =
    let self = c.args.self.now in
    let e = c.settle.ensures in
    sync_settled (image_of self.base) c.args.file self.history.items c.settle.new.calls.items (image_of self.files) (contains nat_cmp self.unsynced) (contains nat_cmp c.settle.new.unsynced) self.reads self.settled e.calls e.same e.others

pub returns-clause-durable : goal.returns-clause-durable
returns-clause-durable c =
    let self = c.args.self.now in
    let e = c.settle.ensures in
    sync_durable (image_of self.base) c.args.file self.history.items c.settle.new.calls.items (image_of self.files) (contains nat_cmp self.unsynced) (contains nat_cmp c.settle.new.unsynced) self.reads self.settled e.calls e.same e.others (c.requires.there tt)

pub returns-clause-crash : goal.returns-clause-crash
returns-clause-crash c =
    let self = c.args.self.now in
    let e = c.settle.ensures in
    sync_crash (image_of self.base) c.args.file self.history.items c.settle.new.calls.items (image_of self.files) (contains nat_cmp self.unsynced) (contains nat_cmp c.settle.new.unsynced) self.reads self.settled e.calls e.same e.others

pub returns-clause-time : goal.returns-clause-time
returns-clause-time c =
    let self = c.args.self.now in
    let e = c.settle.ensures in
    sync_time (image_of self.base) c.args.file self.history.items c.settle.new.calls.items (image_of self.files) (contains nat_cmp self.unsynced) (contains nat_cmp c.settle.new.unsynced) self.reads self.settled e.calls e.same e.others

pub returns-clause-model : goal.returns-clause-model
returns-clause-model c =
    let self = c.args.self.now in
    let e = c.settle.ensures in
    sync_model (image_of self.base) c.args.file self.history.items c.settle.new.calls.items (image_of self.files) (contains nat_cmp self.unsynced) (contains nat_cmp c.settle.new.unsynced) self.reads self.settled e.calls e.same e.others
