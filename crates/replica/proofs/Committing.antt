-- What a commit keeps, whatever it names.
use Rattle.std.proofs.Common.{◌≡◌, ◌∙◌, inl, inr, ℕ, ◌≤◌, List, length, refl, sym, ap, subst, arith}
use Rattle.flash_io.specs.Image.{Image, SameBut}
use Rattle.flash_io.specs.declared.disk.Disk.{Ghosts}
use Rattle.flash_io.proofs.Moments.{same_but_refl}
use Rattle.good_replica.specs.Good.{AreGood}
use Rattle.good_state.specs.Follows.{StateFollows}
use Rattle.good_state.specs.Good.{IsGoodState, committed_set, segments_at}
use Rattle.log_laws.specs.Chains.{chain_at}
use Rattle.manifest.specs.Runs.{OldOrNew}
use Rattle.manifest.specs.Stores.{Becomes, HasStore, IsKept, has_of, has_with}
use Rattle.manifest.specs.declared.store.Manifest.{Manifest}
use Rattle.manifest.proofs.Stays.{store_in}
use Rattle.manifest_form.specs.declared.recover.Recovered.{Recovered}
use Rattle.manifest_form.specs.declared.state.State.{State}
use Rattle.replica_state.specs.Core.{Core}
use Rattle.replica_store.specs.Store.{Stored}
use Rattle.store_image.specs.Images.{AreRegionsRead, AreSegmentsRead, IsCountOf, Stands, columns_in}
use Rattle.store_image.specs.Sound.{AreAlike}
use Rattle.store_image.proofs.Keeping.{by_store, file_apart, for_after, for_before}
use Rattle.replica.specs.Learner.{IsPromised}
use Rattle.replica.specs.Names.{Names}
use Rattle.replica.proofs.Following.{promised_before}

-- each image has the store of a manifest that is kept
pub kept_store : (m : Manifest) (outcomes : Image → Type 0) → IsKept outcomes m → (c : Image) → outcomes c → HasStore c m.file (has_of m)
kept_store m outcomes kept c left = store_in m outcomes kept c c left (same_but_refl m.file c) (has_of m) kept.closes.part kept.closes.holds (kept.content, kept.held c left, kept.closes.shut)

-- What names a good state, and whose files an image has as memory has them, stands for the log there.
module _ {G : Type 0} (bytes : G → List ℕ) (core : Core G) (order : core.committed ≤ length core.listed) (within : core.numbers.high ≤ length core.log.entries) (own : ℕ) (has : Recovered) (c : Image) where
  pub stands_by : Names has core → IsGoodState bytes core → IsCountOf core.log (committed_set core) has.state.count
      → AreSegmentsRead own c (columns_in core.log) has.state.segments (segments_at bytes core.committed core) → AreRegionsRead own c core.log (committed_set core) has.state.regions
      → Stands core.log (committed_set core) own has c
  stands_by names good counted read regions =
      let high = names.high in
      record {
        table = names.table;
        columns = names.columns;
        segments = segments_at bytes core.committed core;
        read = read;
        regions = regions;
        count = counted;
        good = subst (λ (h : ℕ). AreGood core.log (committed_set core) h has.state.safe_point (segments_at bytes core.committed core)) (sym high)
            (subst (λ (ts : ℕ). AreGood core.log (committed_set core) core.numbers.high ts (segments_at bytes core.committed core)) (sym names.safe_point)
            (good.counts core.committed (omega arith) order));
        high = omega (arith, high, within);
        below = λ p h. let less = good.below p h in omega (arith, high, less);
        chain = names.chain ∙ ap (chain_at core.log) (sym high);
      }

-- A commit of a state that names another state of memory, from a store that is kept. The images before it are promised, and what is committed stands for the log in each of them.
module _ {D R G : Type 0} (d : Ghosts D R G) (old n : Core G) (follows : StateFollows n old) (t : Stored D) (state : State) (kept : IsKept (d.may_leave t.disk) t.manifest)
    (begun : (c : Image) → d.may_leave t.disk c → IsPromised old c)
    (safe_is : state.safe_point ≡ n.numbers.safe_point)
    (stands : (c : Image) → d.may_leave t.disk c → Stands n.log (committed_set n) t.manifest.file (has_with t.manifest state) c) where
  abbrev pub Either : Image → Type 0
  Either = OldOrNew (d.may_leave t.disk) t.manifest.file (has_of t.manifest) (has_with t.manifest state)

  new_promised : (c : Image) → (from : (e : Image) × d.may_leave t.disk e × SameBut t.manifest.file e c) → HasStore c t.manifest.file (has_with t.manifest state) → IsPromised n c
  new_promised c from store = record {
    set = committed_set n;
    safe_point = state.safe_point;
    inside = λ p h. h;
    no_lower = omega (arith, safe_is);
    stands = for_after n.log (committed_set n) t.manifest.file (has_with t.manifest state) from.0 c from.2 store (stands from.0 from.1);
  }

  -- at any moment of it an image is promised as before
  pub promised : (c : Image) → Either c → IsPromised old c
  promised c (from, inl before) =
      let was = begun from.0 from.1 in
      record {
        set = was.set;
        safe_point = was.safe_point;
        inside = was.inside;
        no_lower = was.no_lower;
        stands = for_before old.log was.set was.safe_point t.manifest.file (has_of t.manifest) from.0 c (kept_store t.manifest (d.may_leave t.disk) kept from.0 from.1) from.2 before was.stands;
      }
  promised c (from, inr after) = promised_before n old follows c (new_promised c from after)

  -- and once it is done, as the new state promises
  module _ (u : Stored D) (becomes : Becomes t.manifest state u.manifest) (kept_now : IsKept (d.may_leave u.disk) u.manifest) where
    has_is : has_of u.manifest ≡ has_with t.manifest state
    has_is = rw (becomes.table, becomes.columns, becomes.state) refl

    pub done : (c : Image) → Either c → d.may_leave u.disk c → IsPromised n c
    done c (from, either) left = new_promised c from (subst (λ f. HasStore c f (has_with t.manifest state)) becomes.file (subst (λ (h : Recovered). HasStore c u.manifest.file h) has_is (kept_store u.manifest (d.may_leave u.disk) kept_now c left)))

  -- ---- the files that are named are in the other image too

  pub alike_before : (e c : Image) → d.may_leave t.disk e → SameBut t.manifest.file e c → AreAlike e c t.manifest.state
  alike_before e c left same file is =
      let was = begun e left in
      same file (file_apart old.log was.set t.manifest.file (has_of t.manifest) e (by_store old.log was.set was.safe_point e t.manifest.file (has_of t.manifest) (kept_store t.manifest (d.may_leave t.disk) kept e left) was.stands).1 file is)

  pub alike_after : (e c : Image) → d.may_leave t.disk e → SameBut t.manifest.file e c → AreAlike e c state
  alike_after e c left same file is = same file (file_apart n.log (committed_set n) t.manifest.file (has_with t.manifest state) e (stands e left) file is)
