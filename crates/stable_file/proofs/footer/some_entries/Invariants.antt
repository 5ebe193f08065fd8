use Rattle.std.proofs.Common.{◌≡◌, ◌-◌}
use Rattle.flash_list.proofs.Each.{with_front}
use Rattle.stable_file.specs.Steps.{so_many}
use Rattle.stable_file.specs.Footer as footer
use Rattle.stable_file.proofs.footer.some_entries.Given as goal

abbrev pub invariant-loop : goal.invariant-loop
invariant-loop l = with_front l.entries (so_many (footer.pack_entry_at l.end l.stop l.columns) footer.behind (l.packs - l.counter) l.before l.rest) ≡ so_many (footer.pack_entry_at l.end l.stop l.columns) footer.behind l.packs (footer.first l.packs) l.bytes
