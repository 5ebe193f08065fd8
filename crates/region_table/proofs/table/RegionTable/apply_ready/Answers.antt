use Rattle.std.proofs.Common.{◌≡◌, ◌∙◌, refl, sym, subst, ℕ}
use Rattle.std.proofs.lemmas.Option.{slice_get_within}
use Rattle.committed_log.specs.Applied.{applied, with_position}
use Rattle.committed_log.proofs.Ready.{closed_more, ready_parts}
use Rattle.region_table.specs.Steps.{CanBeDone, kept_after}
use Rattle.raft_apply.specs.Entries.{command_of}
use Rattle.region_table.specs.Nexts.{nexts_after}
use Rattle.region_table.specs.Table.{AreRegionsAt, IsTableAt, kept_in, kept_at, next_in}
use Rattle.region_table.proofs.Applied.{after, can}
use Rattle.region_table.proofs.Counts.{room}
use Rattle.region_table.proofs.Following.{nexts_then}
use Rattle.region_table.proofs.Parsed.{entry_of, moved}
use Rattle.region_table.proofs.Sets.{tells}
use Rattle.region_table.proofs.table.RegionTable.apply_ready.Goals as goal

pub advance-requires : goal.advance-requires
advance-requires c =
    let x = c.args.parsed.now in
    let e = entry_of c.args.logs.now x c.requires.parsed in
    let A = c.requires.agrees.0 in
    let at = subst (IsTableAt c.args.logs.now A) (sym c.self.view_is) c.requires.agrees.1 in
    let done = can c.args.logs.now c.told_lawful.ensures A at.closed x.position e.0 e.1.here (c.requires.ready A c.requires.agrees.1) (kept_in c.self.inside.regions.entries) at.regions in
    moved c.args.logs.now x e.0 e.1 (λ r i command. CanBeDone (kept_in c.self.inside.regions.entries) r command) done

pub count_one-self-inside-requires-clause-within : goal.count_one-self-inside-requires-clause-within
count_one-self-inside-requires-clause-within c = let e = entry_of c.args.logs.now c.args.parsed.now c.requires.parsed in slice_get_within c.args.logs.now.entries c.args.parsed.now.position e.0 e.1.here

pub count_one-self-inside-requires-clause-room : goal.count_one-self-inside-requires-clause-room
count_one-self-inside-requires-clause-room c =
    let e = entry_of c.args.logs.now c.args.parsed.now c.requires.parsed in
    let A = c.requires.agrees.0 in
    let at = subst (IsTableAt c.args.logs.now A) (sym c.self.view_is) c.requires.agrees.1 in
    room c.args.logs.now A c.self.inside.counted at.counted c.args.parsed.now.position (ready_parts c.args.logs.now A c.args.parsed.now.position (c.requires.ready A c.requires.agrees.1)).free (slice_get_within c.args.logs.now.entries c.args.parsed.now.position e.0 e.1.here)

pub returns-in-Ok-clause-table : goal.returns-in-Ok-clause-table
returns-in-Ok-clause-table c = λ A is.
    let log = c.args.logs.now in
    let x = c.args.parsed.now in
    let p = c.args.parsed.now.position in
    let lawful = c.told_lawful.ensures in
    let e = entry_of log x c.requires.parsed in
    let at = subst (IsTableAt log A) (sym c.self.view_is) is in
    let ready = c.requires.ready A is in
    let closed = closed_more log A p at.closed ready in
    let regions : (q : ℕ) → kept_in c.advance.new.regions.entries q ≡ kept_at log q (applied log (with_position A p) q)
    = λ q. c.in-Ok.ensures.regions q ∙ moved log x e.0 e.1 (λ r i command. kept_after (kept_in c.self.inside.regions.entries) r i command q ≡ kept_at log q (applied log (with_position A p) q)) (after log lawful A at.closed p e.0 e.1.here ready (kept_in c.self.inside.regions.entries) at.regions q) in
    let there : AreRegionsAt log (with_position A p) c.advance.new.regions.entries = record { closed = closed; regions = regions } in
    record {
      closed = closed;
      regions = regions;
      counted = c.count_one-self-inside.ensures A at.counted (ready_parts log A p ready).free (λ q. sym (tells log lawful (with_position A p) c.advance.new.regions.entries there q));
      nexts = nexts_then log lawful A at.closed p e.0 e.1.here ready (kept_in c.self.inside.regions.entries) at.regions c.self.inside.nexts.entries at.nexts c.advance.new.nexts.entries
          (λ q. c.in-Ok.ensures.nexts q ∙ moved log x e.0 e.1 (λ r i command. nexts_after log p r i command (next_in c.self.inside.nexts.entries) q ≡ nexts_after log p e.0.region e.0.index (command_of log p e.0.body) (next_in c.self.inside.nexts.entries) q) refl);
    }
