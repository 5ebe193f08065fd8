-- What was opened is named, and its numbers are in order.
use Rattle.std.proofs.Common.{◌≡◌, ◌∙◌, ℕ, ◌<◌, List, [], length, map, sym, ap, subst, arith}
use Rattle.flash_types.specs.declared.settings.Settings.{Settings}
use Rattle.committed_log.specs.Log.{Log}
use Rattle.log_laws.specs.Chains.{chain_at}
use Rattle.manifest.specs.Stores.{has_of}
use Rattle.manifest.specs.declared.store.Manifest.{Manifest}
use Rattle.manifest.proofs.Stays.{file_below}
use Rattle.region_table.specs.Table.{Table}
use Rattle.replica_state.specs.Core.{AreNumbers, Core}
use Rattle.replica_state.specs.Opening.{IsOpened}
use Rattle.replica_state.specs.declared.numbers.Numbers.{Numbers}
use Rattle.segment_list.specs.Slots.{Slotted}
use Rattle.store_image.specs.Images.{columns_in}
use Rattle.opened_store.specs.Causes.{IsOfLog}
use Rattle.opened_store.specs.Opening.{AreParts}
use Rattle.replica.specs.Names.{Names, stored_of}
use Rattle.restart.specs.Restart.{numbers_of}

pub numbers_are : (log : Log) (m : Manifest) → IsOfLog log (has_of m) → AreNumbers (length log.entries) (numbers_of m.state)
numbers_are log m of_log = (let below = file_below m.file m.state m.formed in record { mark = omega arith; high = of_log.high; kept = omega arith; generation = omega (arith, below) })

module _ {G : Type 0} (log : Log) (m : Manifest) (t : Table) (slots : List (Slotted G)) (settings : Settings) (s : Core G) (o : IsOpened log slots t (numbers_of m.state) settings s) where
  pub opened_names : IsOfLog log (has_of m) → AreParts log m.state t slots → Names (has_of m) s
  opened_names of_log parts =
      let high : m.state.high ≡ s.numbers.high = sym (ap (λ (n : Numbers). n.high) o.numbers) in
      record {
        table = of_log.table ∙ sym (ap (λ (l : Log). l.table) o.log);
        columns = of_log.columns ∙ sym (ap columns_in o.log);
        segments = sym parts.stored ∙ ap (map stored_of) (sym o.slots);
        next = sym (ap (λ (n : Numbers). n.next) o.numbers);
        high = high;
        safe_point = sym (ap (λ (n : Numbers). n.safe_point) o.numbers);
        chain = of_log.chain ∙ (λ i. chain_at (sym o.log i) (high i));
      }

  pub core_is : s ≡ record { log = log; slots = slots; table = t; listed = []; committed = 0; count = s.count; highest = s.highest; numbers = numbers_of m.state; settings = settings }
  core_is = λ i. record { log = o.log i; slots = o.slots i; table = o.table i; listed = o.listed i; committed = o.committed i; count = s.count; highest = s.highest; numbers = o.numbers i; settings = o.settings i }
