use Rattle.std.proofs.Common.{◌≡◌, ◌+◌, length}
use Rattle.kv_codec.specs.Keys.{text_at}
use Rattle.flash_list.specs.Steps.{seen}
use Rattle.kv_codec.proofs.keys.check_groups.Given as goal

abbrev pub invariant-loop-rest : goal.invariant-loop-rest
invariant-loop-rest l = record {
  place : l.at + length l.rest ≡ length l.key;
  read : seen (λ _. tt {0}) (text_at l.at l.rest) ≡ seen (λ _. tt {0}) (text_at 0 l.key);
}

abbrev pub decreases-loop-rest : goal.decreases-loop-rest
decreases-loop-rest l = length l.rest
