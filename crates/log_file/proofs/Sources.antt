-- Logs from sources.
use Rattle.std.proofs.Common.{◌≡◌, ◌∙◌, sym, ap, subst, ℕ, ◌+◌, ◌≤◌, List, ◌++◌, length, Option, Some, None, arith}
use Rattle.std.specs.Io.KnownBytes.{Consumes, IsAtEnd}
use Rattle.std.proofs.lemmas.List.{append-nil, length-append}
use Rattle.committed_log.specs.Log.{Log}
use Rattle.log_file.specs.Passages.{Passage, Reads, ReadsBeyond}
use Rattle.log_file.specs.Logs.{IsLogFile, IsRefused, IsErrorOf}
use Rattle.log_file.specs.Reads.{most_log, RefusesLog, IsErrorFrom}
use Rattle.log_file.specs.declared.cause.Refusal.{Refusal}
use Rattle.log_file.specs.declared.log.LogError.{LogError}
use Rattle.log_file.specs.declared.log.LogError.TheVariants.{Limit, Refused, Failed, Memory}
use Rattle.log_file.proofs.Files.{refused_is_no_file}

-- why the bytes of a source that was read to its end are no log
pub error_from : (p : Passage) (bytes : List ℕ) (why : LogError) → Reads most_log p bytes → IsErrorOf bytes why → IsErrorFrom p why
error_from p bytes Limit read is = absurd is
error_from p bytes (Refused r) read is = record { bytes = bytes; read = read; refused = is }
error_from p bytes Failed read is = absurd is
error_from p bytes Memory read is = record { bytes = bytes; consumed = read.consumed; within = read.within }

-- what was consumed of a source's bytes is no longer than they are
pub no_longer : (left left' : Option (List ℕ)) (bytes taken : List ℕ) → left ≡ Some bytes → Consumes left left' taken → length taken ≤ length bytes
no_longer None left' bytes taken is consumed = absurd cc
no_longer (Some all) None bytes taken is consumed = absurd consumed
no_longer (Some all) (Some rest) bytes taken is consumed =
    let same : all ≡ bytes = cc is in
    let sum : length all ≡ length taken + length rest = ap length consumed ∙ length-append taken rest in
    let total : length all ≡ length bytes = ap length same in
    omega (arith, sum, total)

-- and is all of them at the end
pub all_of_it : (left left' : Option (List ℕ)) (bytes taken : List ℕ) → left ≡ Some bytes → Consumes left left' taken → IsAtEnd left' → taken ≡ bytes
all_of_it None left' bytes taken is consumed ended = absurd cc
all_of_it (Some all) None bytes taken is consumed ended = absurd consumed
all_of_it (Some all) (Some rest) bytes taken is consumed ended =
    let same : all ≡ bytes = cc is in
    sym (append-nil taken) ∙ ap (λ xs. taken ++ xs) (sym ended) ∙ sym consumed ∙ same

pub reads_beyond_not : (most : ℕ) (p : Passage) (bytes : List ℕ) → p.before.bytes ≡ Some bytes → length bytes ≤ most → ReadsBeyond most p → ⊥
reads_beyond_not most p bytes left few long =
    let shorter = no_longer p.before.bytes p.after.bytes bytes long.bytes left long.consumed in
    let past = long.past in
    absurd (omega (arith, shorter, past, few))

pub reads_these : (most : ℕ) (p : Passage) (bytes taken : List ℕ) → p.before.bytes ≡ Some bytes → Reads most p taken → taken ≡ bytes
reads_these most p bytes taken left read = all_of_it p.before.bytes p.after.bytes bytes taken left read.consumed read.ended

-- a lawful log's file isn't refused
pub not_refused : (p : Passage) (bytes : List ℕ) (log : Log) (r : Refusal) → p.before.bytes ≡ Some bytes → IsLogFile bytes log → RefusesLog p r → ⊥
not_refused p bytes log r left file is =
    let same = reads_these most_log p bytes is.bytes left is.read in
    refused_is_no_file bytes r log (subst (λ b. IsRefused b r) same is.refused) file
