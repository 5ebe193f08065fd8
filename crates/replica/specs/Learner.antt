-- To be believed.
-- What contracts see of a replica, when it is in order, and when it is sound: good for its log in memory and in each image of its disk.
use Rattle.std.specs.Prelude.{◌≡◌, ℕ, List}
use Rattle.std.specs.List.{AllByRecursion}
use Rattle.flash_io.specs.Image.{Image}
use Rattle.flash_io.specs.declared.disk.Disk.{Ghosts}
use Rattle.good_state.specs.Good.{IsGoodState, committed_set, segments_at}
use Rattle.manifest.specs.Stores.{has_of}
use Rattle.replica_state.specs.Core.{Core}
use Rattle.replica_store.specs.Store.{Stored, IsWhole}
use Rattle.store_image.specs.Images.{AreRegionsRead, AreSegmentsRead, IsCountOf, StandsAtLeast, columns_in}
use Rattle.replica.specs.Names.{IsRetired, Names}
use Rattle.replica.specs.declared.retired.Retired.{Retired}

-- a disk with its manifest, what is in memory, and the files that went out of use
pub record Learner (D G : Type 0) : Type 0 where
  pub store : Stored D
  pub core : Core G
  pub retired : List Retired

module _ {D G : Type 0} where
  -- The manifest names what the replica has in memory, after an error too.
  pub record IsLearner (r : Learner D G) : Type 0 where
    pub names : Names (has_of r.store.manifest) r.core
    pub retired : AllByRecursion (IsRetired r.store.manifest r.core.numbers.generation) r.retired

  -- all but the disk is as it was
  pub record SameState (new old : Learner D G) : Type 0 where
    pub manifest : new.store.manifest ≡ old.store.manifest
    pub opened_faults : new.store.opened_faults ≡ old.store.opened_faults
    pub core : new.core ≡ old.core
    pub retired : new.retired ≡ old.retired

-- an image stands for the log with at least the entries of the last checkpoint, and a safe point that is no lower
abbrev pub IsPromised : {G : Type 0} → Core G → Image → Type 0
IsPromised core = StandsAtLeast core.log (committed_set core) core.numbers.safe_point

module _ {D G : Type 0} (bytes : G → List ℕ) where
  -- In an image the files that the manifest names are as memory has them, and its region file has the entries of the last checkpoint.
  pub record HasNamed (r : Learner D G) (c : Image) : Type 0 where
    pub segments : AreSegmentsRead r.store.manifest.file c (columns_in r.core.log) r.store.manifest.state.segments (segments_at bytes r.core.committed r.core)
    pub regions : AreRegionsRead r.store.manifest.file c r.core.log (committed_set r.core) r.store.manifest.state.regions

module _ {D R G : Type 0} (d : Ghosts D R G) (bytes : G → List ℕ) where
  -- What is in memory is good for the log; the count that the manifest has is that of the last checkpoint; each image stands for the log; and while the disk is whole each image has what is named as memory has it.
  pub record Sound (r : Learner D G) : Type 0 where
    pub memory : IsGoodState bytes r.core
    pub counted : IsCountOf r.core.log (committed_set r.core) r.store.manifest.state.count
    pub images : (c : Image) → d.may_leave r.store.disk c → IsPromised r.core c
    pub named : IsWhole d r.store → (c : Image) → d.may_leave r.store.disk c → HasNamed bytes r c
