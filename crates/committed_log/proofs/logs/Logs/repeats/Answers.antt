use Rattle.std.proofs.Common.{◌∙◌, sym, ap, subst, length, ◌<◌, ◌≡◌, List, ℕ, Some}
use Rattle.committed_log.specs.Indexed.{log_of}
use Rattle.committed_log.specs.Log.{Log}
use Rattle.committed_log.specs.Repeats.{repeats}
use Rattle.committed_log.proofs.RepeatedPlaces.{found_in_lists}
use Rattle.committed_log.proofs.logs.Logs.repeats.Goals as goal

pub returns : goal.returns
returns c =
    subst (λ (l : Log). c.args.position < length l.entries → c.is_ok.result ≡ repeats l c.args.position c.args.op) c.self.view_is
    (λ less. c.is_ok.ensures.value ∙ found_in_lists (log_of c.self.inside) c.self.inside.lookups.repeats.items c.args.position c.args.op c.as_slice.result.now c.binary_search.result c.self.invariant.repeats less
    (c.repeats_at-places.ensures ∙ ap (λ (list : List ℕ). Some list) (sym c.as_slice.ensures)) c.binary_search.ensures.position) c.requires
