-- What is in memory is in order at an opening.
use Rattle.std.proofs.Common.{◌≡◌, sym, subst, ℕ, Bool, List, [], length, arith}
use Rattle.committed_log.specs.Applied.{IsClosed}
use Rattle.committed_log.specs.Lawful.{IsLawful}
use Rattle.committed_log.specs.Log.{Log}
use Rattle.flash_types.specs.Settings.{AreSettings}
use Rattle.flash_types.specs.declared.settings.Settings.{Settings}
use Rattle.region_table.specs.Counting.{applied_in}
use Rattle.region_table.specs.Table.{Table, IsTableAt, size_of}
use Rattle.region_table.proofs.Sets.{of_table, set_is}
use Rattle.segment_list.specs.Slots.{Slotted}
use Rattle.replica_state.specs.Core.{Core, IsCore, AreSlots, AreNumbers, IsHighest}
use Rattle.replica_state.specs.declared.numbers.Numbers.{Numbers}
use Rattle.replica_state.proofs.Sets.{upto_all}

module _ {G : Type 0} (log : Log) (lawful : IsLawful log) (slots : List (Slotted G)) (t : Table) (count highest : ℕ) (numbers : Numbers) (settings : Settings) where
  pub opened_in_order : (A : ℕ → Bool) → IsTableAt log A t → ((B : ℕ → Bool) → IsTableAt log B t → count ≡ size_of log B) → IsHighest (applied_in log t.regions) highest → AreSlots log.schema numbers.next 0 0 slots → AreNumbers (length log.entries) numbers → AreSettings settings
      → IsCore (record { log = log; slots = slots; table = t; listed = []; committed = 0; count = count; highest = highest; numbers = numbers; settings = settings })
  opened_in_order A at counted high slots_are numbers_are settings_are =
      let set : applied_in log t.regions ≡ A = set_is log lawful A t.regions (of_table log A t at) in
      let table : IsTableAt log (applied_in log t.regions) t = subst (λ (B : ℕ → Bool). IsTableAt log B t) (sym set) at in
      let s : Core G = record { log = log; slots = slots; table = t; listed = []; committed = 0; count = count; highest = highest; numbers = numbers; settings = settings } in
      record {
        sets = record {
          table = table;
          closed = λ k. subst (IsClosed log) (sym (upto_all s tt k (omega arith))) table.closed;
          differ = λ i j d less within. absurd (omega (arith, within));
          applied = tt;
          committed = omega arith;
          count = counted (applied_in log t.regions) table;
          highest = high;
        };
        slots = slots_are;
        numbers = numbers_are;
        settings = settings_are;
      }
