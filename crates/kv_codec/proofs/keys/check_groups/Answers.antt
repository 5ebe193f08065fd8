use Rattle.std.proofs.Common.{Err, arith, sym, ap, ◌∙◌}
use Rattle.flash_list.specs.Steps.{seen}
use Rattle.kv_codec.specs.declared.keys.KeyError.TheVariants.{Short}
use Rattle.kv_codec.proofs.Groups.{low_marker, at_last, full_group, too_short, behind-length}
use Rattle.kv_codec.proofs.keys.check_groups.Goals as goal

pub returns-then-marker-lt-EMPTY : goal.returns-then-marker-lt-EMPTY
returns-then-marker-lt-EMPTY c = sym (ap (seen (λ _. tt {0})) (low_marker c.loop-rest.at c.loop-rest.rest.now c.in-len9-up.len_at_least c.if-marker-lt-EMPTY.true)) ∙ c.loop-rest.invariant.read

pub returns-then-marker-lt-FULL : goal.returns-then-marker-lt-FULL
returns-then-marker-lt-FULL c = c.check_last.ensures ∙ sym (ap (seen (λ _. tt {0})) (at_last c.loop-rest.at c.loop-rest.rest.now c.in-len9-up.len_at_least c.if-marker-lt-EMPTY.false c.if-marker-lt-FULL.true)) ∙ c.loop-rest.invariant.read

pub loop-rest-preserved : goal.loop-rest-preserved
loop-rest-preserved c = record {
  place = omega (arith, c.loop-rest.invariant.place, behind-length c.loop-rest.rest.now c.in-len9-up.len_at_least);
  read = sym (full_group c.loop-rest.at c.loop-rest.rest.now c.in-len9-up.len_at_least c.if-marker-lt-FULL.false) ∙ c.loop-rest.invariant.read;
}

pub returns : goal.returns
returns c = ap (λ n. Err (Short n)) (sym c.loop-rest.invariant.place) ∙ sym (ap (seen (λ _. tt {0})) (too_short c.loop-rest.at c.loop-rest.rest.now c.in_default.len_below)) ∙ c.loop-rest.invariant.read
