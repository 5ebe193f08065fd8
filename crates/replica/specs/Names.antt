-- What of a replica its manifest names.
use Rattle.std.specs.Prelude.{◌≡◌, ℕ, ◌<◌, false, map}
use Rattle.log_laws.specs.Chains.{chain_at}
use Rattle.manifest.specs.declared.store.Manifest.{Manifest}
use Rattle.manifest_form.specs.declared.recover.Recovered.{Recovered}
use Rattle.replica_state.specs.Core.{Core}
use Rattle.replica_store.specs.Naming.{is_file_in}
pub use Rattle.segment_flush.specs.Names.{name_of, stored_of}
use Rattle.store_image.specs.Images.{columns_in}
use Rattle.replica.specs.declared.retired.Retired.{Retired}

module _ {G : Type 0} where
  -- A store names what is in memory, and of the log's entries below High it has the digest.
  pub record Names (has : Recovered) (core : Core G) : Type 0 where
    pub table : has.header.table ≡ core.log.table
    pub columns : has.header.columns ≡ columns_in core.log
    pub segments : has.state.segments ≡ map stored_of core.slots
    pub next : has.state.next ≡ core.numbers.next
    pub high : has.state.high ≡ core.numbers.high
    pub safe_point : has.state.safe_point ≡ core.numbers.safe_point
    pub chain : has.state.chain ≡ chain_at core.log core.numbers.high

-- a file that went out of use, at a generation before the current one
pub record IsRetired (m : Manifest) (generation : ℕ) (it : Retired) : Type 0 where
  pub unnamed : is_file_in it.file m.state ≡ false
  pub numbered : it.file < m.state.next
  pub before : it.generation < generation
