use Rattle.std.proofs.Common.{arith, rules}
use Rattle.committed_log.specs.ReadIndex.{IsAnswered}
use Rattle.committed_log.proofs.ReadIndexes.{read_index_law}
use Rattle.committed_log.proofs.laws.reads.reads_past_a_read_index_agree.Goals as goal

pub returns : goal.returns
returns c = λ log lawful r k ts base read i j a b from_i from_j one other h in_base in_a in_b none.
    let first : IsAnswered log r i ts a = record { there = search rules; free = search rules } in
    let second : IsAnswered log r j ts b = record { there = search rules; free = search rules } in
    read_index_law log lawful r k ts base read i j a b (omega (arith, from_i)) (omega (arith, from_j)) first second h in_base in_a in_b none
