use Rattle.std.proofs.Common.{◌-◌, ◌*◌, ◌<◌, ◌≤◌, length, drop}
use Rattle.std.specs.List.{flat_map, AllByRecursion}
use Rattle.column_codec.proofs.WriteSteps.{Written}
use Rattle.pack_codec.specs.Spelling.{pack, PackFits}
use Rattle.stable_file.specs.Building.{first_cuts, entries}
use Rattle.stable_file.proofs.write.put_packs.Given as goal

abbrev pub invariant-loop : goal.invariant-loop
invariant-loop l = record {
  bytes : Written l.initial.into.items l.into.items (flat_map (pack l.schema) (first_cuts (l.packs - l.counter) l.rows (drop l.from l.block))) (flat_map (pack l.schema) (first_cuts l.packs l.rows l.block));
  entries : Written l.initial.footer.items l.footer.items (entries l.schema (length l.into.items - l.start) (first_cuts (l.packs - l.counter) l.rows (drop l.from l.block))) (entries l.schema 4 (first_cuts l.packs l.rows l.block));
  fits : AllByRecursion (PackFits l.schema) (first_cuts (l.packs - l.counter) l.rows (drop l.from l.block)) → AllByRecursion (PackFits l.schema) (first_cuts l.packs l.rows l.block);
  start : l.start ≤ length l.into.items;
  within : l.from ≤ length l.block;
  reach : l.counter < l.packs → (l.packs - l.counter - 1) * l.rows < length l.block - l.from;
}
