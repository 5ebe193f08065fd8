use Rattle.std.proofs.Common.{◌∷◌, [], ◌+◌, ◌-◌, ◌/◌, ◌%◌, arith, sym, subst, List, ℕ}
use Rattle.flash_put.specs.Appending.{Appends}
use Rattle.flash_put.proofs.Appending.{more}
use Rattle.column_codec.specs.Spelling as spelling
use Rattle.column_codec.proofs.WriteSteps.{high_fits, higher_more}
use Rattle.column_codec.proofs.write.+put_higher.Goals as goal

pub put_higher-requires : goal.put_higher-requires
put_higher-requires t c = (omega arith, high_fits c.args.n c.args.more c.if-more-eq0.false c.requires)

pub returns : goal.returns
returns t c =
    let n = c.args.n in
    let both = more c.put_higher.result c.args.into.now.items ((128 + n % 128) ∷ []) (spelling.higher (c.args.more - 1) (n / 128)) c.put_u8-2.new.into.items c.put_higher.new.into.items c.in_ok-put_u8.ensures c.put_higher.ensures in
    subst (λ (xs : List ℕ). Appends c.put_higher.result c.args.into.now.items xs c.put_higher.new.into.items) (sym (higher_more n c.args.more c.if-more-eq0.false c.if-n-lt128.false)) both
