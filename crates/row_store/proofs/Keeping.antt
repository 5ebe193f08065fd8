-- The families' changes leave the regions.
use Rattle.std.proofs.Common.{◌≡◌, ℕ, ℤ, Bool, true, false, cond, List, [], ◌∷◌, Option, Some, None, Result, Ok, Err, refl, ap, ◌∙◌}
use Rattle.flash_types.specs.declared.range.HandleRange.{HandleRange}
use Rattle.log_codec.specs.declared.entry.Entry.{Entry}
use Rattle.log_codec.specs.declared.entry.Body.{Body}
use Rattle.log_codec.specs.declared.entry.Body.TheVariants as body
use Rattle.log_codec.specs.declared.entry.Op.{Op}
use Rattle.committed_log.specs.Changes.{change_of}
use Rattle.committed_log.specs.declared.op.OpFault.{OpFault}
use Rattle.committed_log.specs.Regions.{region, range_of, regions_after}
use Rattle.committed_log.specs.Store.{Store, after_change, after_op, after_ops, families_after, after_entry, is_repeated, last_commit}
use Rattle.committed_log.specs.declared.op.FamilyOp.{FamilyOp}
use Rattle.committed_log.specs.declared.op.FamilyOp.TheVariants as change
use Rattle.row_store.specs.Newest.{with_regions}

either : (b : Bool) (s t : Store) → t.regions ≡ s.regions → (cond b s t).regions ≡ s.regions
either true s t e = refl
either false s t e = e

change_keeps : (p : ℕ) (s : Store) (c : FamilyOp) → (after_change p s c).regions ≡ s.regions
change_keeps p s (change.Value h start bytes) = refl
change_keeps p s (change.DropValue h start) = refl
change_keeps p s (change.Lock h kind start) = refl
change_keeps p s (change.Unlock h) = refl
change_keeps p s (change.Write h ts start gone short) = either (is_repeated (last_commit s.commits h) ts start gone) s _ refl

abbrev given : ℕ → Store → Result (Option FamilyOp) OpFault → Store
given p s c = elim c [ Err fault ↦ s | Ok found ↦ elim found [ None ↦ s | Some c ↦ after_change p s c ] ]

found_keeps : (p : ℕ) (s : Store) (c : Result (Option FamilyOp) OpFault) → (given p s c).regions ≡ s.regions
found_keeps p s (Err fault) = refl
found_keeps p s (Ok None) = refl
found_keeps p s (Ok (Some c)) = change_keeps p s c

ops_keep : (table : ℤ) (range : HandleRange) (p : ℕ) (s : Store) (ops : List Op) → (after_ops table range p s ops).regions ≡ s.regions
ops_keep table range p s [] = refl
ops_keep table range p s (op ∷ ops) = ops_keep table range p (after_op table range p s op) ops ∙ found_keeps p s (change_of table range op)

pub families_keep : (table : ℤ) (p : ℕ) (there : Option HandleRange) (b : Body) (s : Store) → (families_after table p there b s).regions ≡ s.regions
families_keep table p None (body.Open conf_ver version low high) s = refl
families_keep table p None (body.Write ops) s = refl
families_keep table p None (body.Split at child) s = refl
families_keep table p None (body.Prepare target) s = refl
families_keep table p None (body.Commit source) s = refl
families_keep table p None body.Remove s = refl
families_keep table p None (body.Install conf_ver version low high ops) s = ops_keep table _ p _ ops
families_keep table p None body.Empty s = refl
families_keep table p (Some range) (body.Open conf_ver version low high) s = refl
families_keep table p (Some range) (body.Write ops) s = ops_keep table range p s ops
families_keep table p (Some range) (body.Split at child) s = refl
families_keep table p (Some range) (body.Prepare target) s = refl
families_keep table p (Some range) (body.Commit source) s = refl
families_keep table p (Some range) body.Remove s = refl
families_keep table p (Some range) (body.Install conf_ver version low high ops) s = ops_keep table _ p _ ops
families_keep table p (Some range) body.Empty s = refl

-- the regions may advance behind the families
pub behind : (table : ℤ) (p : ℕ) (s : Store) (e : Entry) →
    with_regions (regions_after (families_after table p (range_of (region s.regions e.region)) e.body s).regions e) (families_after table p (range_of (region s.regions e.region)) e.body s) ≡ after_entry table p s e
behind table p s e = ap (λ regions. with_regions (regions_after regions e) (families_after table p (range_of (region s.regions e.region)) e.body s)) (families_keep table p (range_of (region s.regions e.region)) e.body s)

-- an entry that was done in two steps
pub entered : (table t : ℤ) (p : ℕ) (s new mid : Store) (e : Entry) (there : Option HandleRange) → there ≡ range_of (region s.regions e.region) → t ≡ table
    → mid ≡ families_after t p there e.body s → new ≡ with_regions (regions_after mid.regions e) mid → new ≡ after_entry table p s e
entered table t p s new mid e there there_is t_is mid_is new_is =
    let same : mid ≡ families_after table p (range_of (region s.regions e.region)) e.body s = mid_is ∙ (ap (λ x. families_after x p there e.body s) t_is ∙ ap (λ x. families_after table p x e.body s) there_is) in
    new_is ∙ (ap (λ m. with_regions (regions_after m.regions e) m) same ∙ behind table p s e)
