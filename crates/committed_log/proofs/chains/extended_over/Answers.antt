use Rattle.std.proofs.Common.{◌∙◌, ◌<◌, ◌≤◌, sym, subst, length, arith}
use Rattle.log_codec.specs.Writable.{CanBeWritten}
use Rattle.log_codec.specs.declared.entry.Entry.{Entry}
use Rattle.committed_log.proofs.Writable.{writable_one, digest_all}
use Rattle.committed_log.proofs.chains.extended_over.Goals as goal

pub extend-requires : goal.extend-requires
extend-requires c =
    let here : c.loop-k.k < length c.args.entries.now = omega arith in
    subst (λ (e : Entry). CanBeWritten e) (sym c.index-entries-k.is) (writable_one c.args.entries.now c.loop-k.k c.index-entries-k.result here c.requires).form

pub returns : goal.returns
returns c =
    let done : length c.args.entries.now ≤ c.loop-k.k = omega arith in
    c.loop-k.invariant ∙ digest_all c.args.first c.args.entries.now c.loop-k.k done
