-- A manifest whose state is what it was is the same.
use Rattle.std.proofs.Common.{◌≡◌, ◌∙◌, refl, ◌<◌, ◌+◌, ◌^◌, true, List, []}
use Rattle.std.specs.Prelude.{Result, Ok, Err, OnErr}
use mathlib.Core.HLevel.{is_prop→PathP}
use mathlib.Core.Bool.{Bool-set}
use Rattle.std.proofs.Props.{props}
use Rattle.column_block.specs.Schemas.{IsSchema}
use Rattle.manifest_form.specs.declared.state.State.{State}
use Rattle.manifest_form.specs.declared.state.StoredSegment.{StoredSegment}
use Rattle.manifest_form.specs.declared.state.Edit.{Edit}
use Rattle.manifest_form.specs.States.{is_formed, all_done, with_segments}
use Rattle.manifest_form.specs.Whole.{IdsDiffer, IdsDiffer-prop}
use Rattle.manifest.specs.declared.store.Manifest.{Manifest}

pub same_manifest : (m n : Manifest) → n.alloc ≡ m.alloc → n.file ≡ m.file → n.at ≡ m.at → n.root_at ≡ m.root_at → n.table ≡ m.table → n.columns ≡ m.columns → n.state ≡ m.state → n.steadied ≡ m.steadied → n ≡ m
same_manifest m n alloc file at root_at table columns state steadied = λ i. record {
  alloc = alloc i;
  file = file i;
  at = at i;
  root_at = root_at i;
  table = table i;
  columns = columns i;
  state = state i;
  steadied = steadied i;
  apart = is_prop→PathP (λ i. 0 < file i) (λ i. Prim.hlevel props) n.apart m.apart i;
  formed = is_prop→PathP (λ i. is_formed (file i) (state i) ≡ true) (λ i. Bool-set _ _) n.formed m.formed i;
  lawful = is_prop→PathP (λ i. IsSchema (columns i)) (λ i. Prim.hlevel props) n.lawful m.lawful i;
  differ = is_prop→PathP (λ i. IdsDiffer (state i).segments) (λ i. IdsDiffer-prop (state i).segments) n.differ m.differ i;
  named = is_prop→PathP (λ i. 0 < root_at i) (λ i. Prim.hlevel props) n.named m.named i;
  within = is_prop→PathP (λ i. at i + 1 < 2 ^ 64) (λ i. Prim.hlevel props) n.within m.within i;
}

pub on_err : {T E : Type 0} {P : Type 0} (r : Result T E) → P → OnErr r P
on_err (Ok x) p = tt
on_err (Err e) p = p

-- what is done to the segments that were taken out is done to the state
pub done_state : (old taken new : State) (ready : List StoredSegment × List Edit) (copies edits : List Edit) → new ≡ all_done (with_segments taken ready.0) ready.1 → taken ≡ with_segments old [] → ready ≡ (old.segments, copies) → copies ≡ edits → new ≡ all_done old edits
done_state old taken new ready copies edits done out is same = done ∙ rw (out, is, same) refl
