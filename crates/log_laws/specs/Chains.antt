-- The digests along a log.
use Rattle.std.specs.Prelude.{ℕ, List, take}
use Rattle.committed_log.specs.Digest.{chain}
use Rattle.committed_log.specs.Log.{Log}

-- the digest of the log's header and its first n entries
abbrev pub chain_at : Log → ℕ → List ℕ
chain_at log n = chain log.table log.schema (take n log.entries)
