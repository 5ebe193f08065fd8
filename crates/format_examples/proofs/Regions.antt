-- A file of regions, computed.
use Rattle.std.proofs.Common.{refl}
use Rattle.region_file.specs.Spelling.{value, lock, region, entry}
use Rattle.format_examples.specs.Regions.{RegionsInBytes}

pub computed : RegionsInBytes
unfolding value lock region entry
computed = record { whole = refl }
