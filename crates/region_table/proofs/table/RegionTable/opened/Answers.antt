use Rattle.std.proofs.Common.{◌≡◌, ◌∙◌, sym, ap, ℕ, List, Ok}
use Rattle.std.proofs.lemmas.Result.{IfOk-weaker}
use Rattle.committed_log.specs.Log.{Log}
use Rattle.region_file.specs.Regions.{regions_of}
use Rattle.region_table.specs.Opening.{IsOpened, IsOpenFault, IsRegionsFault}
use Rattle.region_table.specs.Table.{Kept, Agrees}
use Rattle.region_table.specs.declared.opening.OpenFault.{OpenFault}
use Rattle.region_table.specs.declared.opening.OpenFault.TheVariants as fault
use Rattle.region_table.proofs.Points.{err_weaker}
use Rattle.region_table.proofs.table.RegionTable.opened.Goals as goal

fault_of : (log : Log) (bytes : List ℕ) (regions : List (ℕ × Kept)) → regions_of bytes ≡ Ok regions → (why : OpenFault) → IsRegionsFault log regions why → IsOpenFault log bytes why
fault_of log bytes regions is (fault.Damaged at) never = absurd never
fault_of log bytes regions is fault.OtherLog none = (regions, is, none)
fault_of log bytes regions is fault.Memory h = tt

pub returns-in-Ok-clause-ok : goal.returns-in-Ok-clause-ok
returns-in-Ok-clause-ok c = IfOk-weaker c.open_regions.result _ (IsOpened c.args.logs.now c.args.bytes.now) (λ t told. record { file = c.in-Ok.ensures ∙ ap Ok (sym told.0); table = told.1 }) c.open_regions.ensures.ok

pub returns-in-Ok-clause-err : goal.returns-in-Ok-clause-err
returns-in-Ok-clause-err c = err_weaker c.open_regions.result (IsRegionsFault c.args.logs.now c.in-Ok.regions.entries) (IsOpenFault c.args.logs.now c.args.bytes.now) (fault_of c.args.logs.now c.args.bytes.now c.in-Ok.regions.entries c.in-Ok.ensures) c.open_regions.ensures.err
