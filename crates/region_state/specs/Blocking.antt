-- Which locks are in the way of a read.
use Rattle.std.specs.Prelude.{ℕ, Bool, ◌&&◌, nat_le}
use Rattle.committed_log.specs.Replies.{may_commit}
use Rattle.committed_log.specs.declared.store.Lock.{Lock}

-- a lock of a put or a delete, by a transaction that began at or before the read's timestamp: it may yet commit below it
abbrev pub blocks_at : ℕ → Lock → Bool
blocks_at ts lock = may_commit lock.kind && nat_le lock.start ts
