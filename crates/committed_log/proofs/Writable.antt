-- Entries that a log file can hold, one by one.
use Rattle.std.proofs.Common.{◌≡◌, ◌∙◌, ap, ℕ, zero, suc, ◌+◌, ◌<◌, ◌≤◌, List, [], ◌∷◌, length, take, drop, get_or, fold, arith}
use Rattle.std.proofs.lemmas.List.{take_more, take_all}
use Rattle.log_codec.specs.declared.entry.Entry.{Entry}
use Rattle.committed_log.specs.Digest.{extended_by}
use Rattle.committed_log.specs.Lawful.{AllWritable, IsWritable}
use Rattle.committed_log.proofs.Positions.{fold_push}

pub writable_one : (es : List Entry) (k : ℕ) (d : Entry) → k < length es → AllWritable es → IsWritable (get_or es k d)
writable_one [] k d here all = absurd (omega (arith, here))
writable_one (e ∷ es) zero d here all = all.0
writable_one (e ∷ es) (suc k) d here all = writable_one es k d (omega (arith, here)) all.1

pub writable_take : (n : ℕ) (es : List Entry) → AllWritable es → AllWritable (take n es)
writable_take zero es all = tt
writable_take (suc n) [] all = tt
writable_take (suc n) (e ∷ es) all = (all.0, writable_take n es all.1)

pub writable_drop : (n : ℕ) (es : List Entry) → AllWritable es → AllWritable (drop n es)
writable_drop zero es all = all
writable_drop (suc n) [] all = tt
writable_drop (suc n) (e ∷ es) all = writable_drop n es all.1

-- the digest of one entry more, and of all
pub digest_more : (first : List ℕ) (es : List Entry) (k : ℕ) (d : Entry) → k < length es → fold extended_by first (take (k + 1) es) ≡ extended_by (fold extended_by first (take k es)) (get_or es k d)
digest_more first es k d here = ap (fold extended_by first) (take_more es k d here) ∙ fold_push extended_by first (take k es) (get_or es k d)

pub digest_all : (first : List ℕ) (es : List Entry) (k : ℕ) → length es ≤ k → fold extended_by first (take k es) ≡ fold extended_by first es
digest_all first es k done = ap (fold extended_by first) (take_all k es done)
