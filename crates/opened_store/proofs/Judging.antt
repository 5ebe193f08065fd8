-- Faults of files as causes why a disk isn't opened.
use Rattle.std.proofs.Common.{inr, ℕ, Bool, false, Option, Some, None, refl}
use Rattle.flash_io.specs.Image.{Image}
use Rattle.committed_log.specs.Log.{Log}
use Rattle.region_table.specs.Table.{Agrees, Table}
use Rattle.region_table.proofs.Sets.{of_table}
use Rattle.manifest_form.specs.declared.recover.Recovered.{Recovered}
use Rattle.store_image.specs.Images.{AreRegionsRead, columns_in}
use Rattle.opened_segments.specs.Faults.{IsFaultOf, faults_in}
use Rattle.opened_segments.specs.declared.fault.OpenFault as segments
use Rattle.opened_segments.specs.declared.fault.OpenFault.TheVariants as fault
use Rattle.opened_store.specs.Causes.{ArePartsDamaged, IsDamageOr}
use Rattle.opened_store.specs.Errors.{of_segments}
use Rattle.opened_store.specs.Opening.{AreRegionsOpened}

-- the region file was opened, so its regions are those of a set
pub regions_there : (log : Log) (own : ℕ) (c : Image) (o : Option ℕ) (t : Table) → Agrees log t → AreRegionsOpened own c o t → (A : ℕ → Bool) × AreRegionsRead own c log A o
regions_there log own c None t agrees opened = ((λ p. false), λ p. refl)
regions_there log own c (Some file) t agrees opened = (agrees.0, (opened.0, opened.1, (opened.2.0, opened.2.1, (t.regions, opened.2.2, of_table log agrees.0 t agrees.1))))

pub segments_cause : (log : Log) (own : ℕ) (c : Image) (has : Recovered) → ((A : ℕ → Bool) × AreRegionsRead own c log A has.state.regions)
    → (e : segments.OpenFault) → IsFaultOf (faults_in own c (columns_in log) has.state.segments) e → IsDamageOr (ArePartsDamaged log own c has) (of_segments e)
segments_cause log own c has there (fault.Damaged file at) h = inr (there, h)
segments_cause log own c has there fault.Device h = tt
segments_cause log own c has there fault.Memory h = tt
