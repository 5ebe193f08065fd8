use Rattle.std.proofs.lemmas.Result.{err_from_is_err_and}
use Rattle.stable_file.specs.Steps.{so_many}
use Rattle.stable_file.specs.Footer as footer
use Rattle.stable_file.proofs.Going.{many_start, many_go_on, many_fail, many_done}
use Rattle.stable_file.proofs.footer.some_entries.Goals as goal

pub loop-init : goal.loop-init
loop-init c = rw c.new-entries.ensures (many_start (footer.pack_entry_at c.args.end c.args.stop c.args.columns.now) footer.behind c.args.packs (footer.first c.args.packs) c.args.bytes.now)

pub returns-in_err-pack : goal.returns-in_err-pack
returns-in_err-pack c =
    let p = err_from_is_err_and c.from_residual.result c.from_residual.ensures.1 in
    let total = so_many (footer.pack_entry_at c.args.end c.args.stop c.args.columns.now) footer.behind c.args.packs (footer.first c.args.packs) c.args.bytes.now in
    rw (p.1, p.2) (many_fail (footer.pack_entry_at c.args.end c.args.stop c.args.columns.now) footer.behind c.loop.entries c.args.packs c.loop.counter c.loop.before c.loop.rest.now c.in_err-pack.field-0.0 total c.loop-test.true c.in_err-pack.ensures.exact c.loop.invariant)

pub loop-preserved : goal.loop-preserved
loop-preserved c =
    let total = so_many (footer.pack_entry_at c.args.end c.args.stop c.args.columns.now) footer.behind c.args.packs (footer.first c.args.packs) c.args.bytes.now in
    rw (c.in-Ok.ensures.ok, c.behind-before.ensures) (many_go_on (footer.pack_entry_at c.args.end c.args.stop c.args.columns.now) footer.behind c.loop.entries c.args.packs c.loop.counter c.loop.before c.loop.rest.now c.in_ok-pack.pack c.in_ok-pack.after.now total c.loop-test.true c.in_ok-pack.ensures.exact c.loop.invariant)

pub returns : goal.returns
returns c = many_done (footer.pack_entry_at c.args.end c.args.stop c.args.columns.now) footer.behind c.loop.entries c.args.packs c.loop.counter c.loop.before c.loop.rest.now (so_many (footer.pack_entry_at c.args.end c.args.stop c.args.columns.now) footer.behind c.args.packs (footer.first c.args.packs) c.args.bytes.now) c.loop-test.false c.loop.invariant
