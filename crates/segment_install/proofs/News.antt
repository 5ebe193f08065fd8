-- What the code makes of a plan's parts.
use Rattle.std.proofs.Common.{◌≡◌, ◌∙◌, refl, sym, ap, subst, ℕ, suc, ◌+◌, ◌<◌, ◌≤◌, Option, Some, None, List, [], ◌∷◌, ◌++◌, length, get_or, nat_eq, arith}
use Rattle.std.specs.Prelude.{IfSome, position, slice_get}
use Rattle.std.specs.List.{AllByRecursion}
use Rattle.std.proofs.lemmas.List.{append_assoc}
use Rattle.std.proofs.lemmas.Option.{slice_get-get_or}
use Rattle.column_file.specs.declared.file.ColumnFile.{ColumnFile}
use Rattle.column_file.specs.declared.file.ColumnFile.TheVariants.{Tiny}
use Rattle.delta_layer.specs.Laws.{TinyFilesBecomeOne}
use Rattle.delta_layer.specs.Repacked.{CanCompact}
use Rattle.delta_layer.specs.declared.built.Built.{Built}
use Rattle.delta_layer.specs.declared.built.Job.{Job}
use Rattle.delta_layer.specs.declared.built.Job.TheVariants.{Compact, MergeDelta, Split, Merge}
use Rattle.delta_layer.specs.declared.view.SegmentView.{SegmentView}
use Rattle.segment_laws.specs.Runs.{IsFirstRun, run_of}
use Rattle.segment_list.specs.Slots.{Gathered, Slotted}
use Rattle.segment_work.specs.Jobs.{segment_of}
use Rattle.segment_install.specs.Plans.{AreHalves, AreHalvesBuilt, CanInstall, CanInstallAt, IsBothBuilt, IsBuiltFor, IsCompacted, IsJoined, IsLaid, IsMerged, IsOneBuilt, IsRunBuilt, part_of}
use Rattle.segment_install.specs.Slots.{Fits, compacted_slot, half_slot, joined_slot, merged_slot}
use Rattle.segment_install.specs.Stale.{first_fault}
use Rattle.segment_install.specs.declared.part.Files.{Files}
use Rattle.segment_install.specs.declared.part.Part.{Part}
use Rattle.segment_install.proofs.Placed.{found_none}
use Rattle.segment_install.proofs.Ready.{first_there}
use Rattle.segment_install.proofs.Running.{one_run, run_can, run_named, run_tinies}

pub stands_there : {X : Type 0} (xs : List X) (k : ℕ) (x : X) → k < length xs → x ≡ get_or xs k x → slice_get xs k ≡ Some x
stands_there {X = X} xs k x lt e = slice_get-get_or xs k x lt ∙ ap (λ (y : X). Some y) (sym e)

-- files that are gathered one after the other
pub named_gathered : (old mid : Gathered) (left right : List ColumnFile) → mid ≡ record old { files = old.files ++ left } → record mid { files = mid.files ++ right } ≡ record old { files = old.files ++ (left ++ right) }
named_gathered old mid left right e = ap (λ (r : Gathered). record r { files = r.files ++ right }) e ∙ ap (λ (fs : List ColumnFile). record old { files = fs }) (append_assoc old.files left right)

module _ {G : Type 0} where
  pub compact_can : TinyFilesBecomeOne → (first : ℕ) (built : Built G) (s : Slotted G) (of : IsRunBuilt s.id built) (a b : ℕ) → Fits of.view s → IsLaid first s → IsFirstRun of.view.delta a b → CanCompact a b (Tiny first of.piece.versions) s.files × (b ≤ s.named)
  compact_can law first built s of a b fits laid run =
      let same = one_run of.view.delta of.from of.to a b of.run run in
      let many : suc a < b = run.many in
      let versions = of.versions ∙ ap (λ (k : ℕ). run_of of.view.delta k of.to) same.0 ∙ ap (λ (k : ℕ). run_of of.view.delta a k) same.1 in
      let tinies = run_tinies s.files of.view.delta fits.rest a b fits.files run in (
        run_can law s.files of.view.delta fits.rest a b first of.piece.versions fits.files run versions,
        run_named s.files a b s.named (omega (arith, many)) tinies.1 tinies.0 laid.behind,
      )

  pub compacted_news : (first : ℕ) (built : Built G) (s : Slotted G) (of : IsRunBuilt s.id built) (a b : ℕ) (new : Slotted G) (items : List (Slotted G)) → IsFirstRun of.view.delta a b → new ≡ compacted_slot a b (Tiny first of.piece.versions) s → items ≡ new ∷ [] → IsCompacted first built s items
  compacted_news first built s of a b new items run is are =
      let same = one_run of.view.delta a b of.from of.to run of.run in
      record { of = of; are = are ∙ ap (λ (x : Slotted G). x ∷ []) (is ∙ ap (λ (k : ℕ). compacted_slot k b (Tiny first of.piece.versions) s) same.0 ∙ ap (λ (k : ℕ). compacted_slot of.from k (Tiny first of.piece.versions) s) same.1) }

  pub merged_news : (first : ℕ) (files : Files G) (built : Built G) (s : Slotted G) (of : IsOneBuilt s.id built) (n : ℕ) (part : Option (Part G)) (new : Slotted G) (items : List (Slotted G)) → n ≡ length of.view.delta → part ≡ part_of first files.low → new ≡ merged_slot n part s → items ≡ new ∷ [] → IsMerged first files built s items
  merged_news first files built s of n part new items n_is part_is is are = record { of = of; are = are ∙ ap (λ (x : Slotted G). x ∷ []) (is ∙ ap (λ (k : ℕ). merged_slot k part s) n_is ∙ ap (λ (p : Option (Part G)). merged_slot (length of.view.delta) p s) part_is) }

  pub halves_news : (first : ℕ) (files : Files G) (built : Built G) (s : Slotted G) (of : AreHalvesBuilt s.id built) (n : ℕ) (low high : Option (Part G)) (x y : Slotted G) (items : List (Slotted G)) → n ≡ length of.view.delta → low ≡ part_of first files.low → high ≡ part_of (first + 1) files.high → x ≡ half_slot (first + 2) of.low.range low n s → y ≡ half_slot (first + 3) of.high.range high n s → items ≡ x ∷ y ∷ [] → AreHalves first files built s items
  halves_news first files built s of n low high x y items n_is low_is high_is x_is y_is are = record {
    of = of;
    are =
        are
        ∙ ap (λ (t : Slotted G). t ∷ y ∷ []) (x_is ∙ ap (λ (k : ℕ). half_slot (first + 2) of.low.range low k s) n_is ∙ ap (λ (p : Option (Part G)). half_slot (first + 2) of.low.range p (length of.view.delta) s) low_is)
        ∙ ap (λ (t : Slotted G). half_slot (first + 2) of.low.range (part_of first files.low) (length of.view.delta) s ∷ t ∷ []) (y_is ∙ ap (λ (k : ℕ). half_slot (first + 3) of.high.range high k s) n_is ∙ ap (λ (p : Option (Part G)). half_slot (first + 3) of.high.range p (length of.view.delta) s) high_is);
  }

  pub joined_news : (first : ℕ) (files : Files G) (built : Built G) (l r : Slotted G) (of : IsBothBuilt l.id built) (n m : ℕ) (part : Option (Part G)) (new : Slotted G) (items : List (Slotted G)) → n ≡ length of.left.delta → m ≡ length of.right.delta → part ≡ part_of first files.low → new ≡ joined_slot (first + 1) of.piece.range part n l m r → items ≡ new ∷ [] → IsJoined first files built l r items
  joined_news first files built l r of n m part new items n_is m_is part_is is are = record {
    of = of;
    are = are ∙ ap (λ (x : Slotted G). x ∷ []) (is ∙ ap (λ (k : ℕ). joined_slot (first + 1) of.piece.range part k l m r) n_is ∙ ap (λ (k : ℕ). joined_slot (first + 1) of.piece.range part (length of.left.delta) l k r) m_is ∙ ap (λ (p : Option (Part G)). joined_slot (first + 1) of.piece.range p (length of.left.delta) l (length of.right.delta) r) part_is);
  }

  -- ---- at a place

  module _ (first place : ℕ) (built : Built G) (slots : List (Slotted G)) (can : CanInstallAt first place built slots) (s : Slotted G) (there : slice_get slots place ≡ Some s) where
    pub built_there : (job : Job) → built.job ≡ job → IsBuiltFor job built × (s.id ≡ segment_of job)
    built_there job e = (subst (λ (j : Job). IsBuiltFor j built) e can.built_is, can.number s there ∙ ap segment_of e)

    pub view_fits : (v : SegmentView G) → built.views ≡ v ∷ [] → AllByRecursion (λ (w : SegmentView G). Fits w s) built.views
    view_fits v views =
        let none : place + 0 ≡ place = omega arith in
        subst (AllByRecursion (λ (w : SegmentView G). Fits w s)) (sym views) (can.fit 0 v s (ap (λ (vs : List (SegmentView G)). slice_get vs 0) views) (ap (slice_get slots) none ∙ there), tt)

  pub some_fits : (first place k : ℕ) (built : Built G) (slots : List (Slotted G)) (s : Slotted G) → CanInstallAt first place built slots → slice_get slots (place + k) ≡ Some s → IfSome (slice_get built.views k) (λ (v : SegmentView G). Fits v s)
  some_fits first place k built slots s can there = by (slice_get built.views k) refl
    where
      by : (o : Option (SegmentView G)) → slice_get built.views k ≡ o → IfSome o (λ (v : SegmentView G). Fits v s)
      by None e = tt
      by (Some v) e = can.fit k v s e there

  -- ---- it is found

  no_slot : (slots : List (Slotted G)) (v : SegmentView G) (vs : List (SegmentView G)) → first_fault slots (v ∷ vs) ≡ None → position (λ (t : Slotted G). nat_eq t.id v.seg) slots ≡ None → ⊥
  no_slot slots v vs fresh none = (let there = (first_there slots v vs fresh).0 in absurd (cc (sym there.is ∙ found_none (λ (t : Slotted G). nat_eq t.id v.seg) slots none)))

  pub is_found : (first : ℕ) (built : Built G) (slots : List (Slotted G)) → CanInstall first built slots → position (λ (t : Slotted G). nat_eq t.id (segment_of built.job)) slots ≡ None → ⊥
  is_found first built slots can none = by built.job refl can.built_is
    where
      at_seg : (job : Job) (seg : ℕ) → built.job ≡ job → segment_of job ≡ seg → position (λ (t : Slotted G). nat_eq t.id seg) slots ≡ None
      at_seg job seg e f = sym (ap (λ (n : ℕ). position (λ (t : Slotted G). nat_eq t.id n) slots) (ap segment_of e ∙ f)) ∙ none

      by : (job : Job) → built.job ≡ job → IsBuiltFor job built → ⊥
      by (Compact seg) e is = no_slot slots is.view [] (sym (ap (first_fault slots) is.views) ∙ can.fresh) (at_seg (Compact seg) is.view.seg e (sym is.number))
      by (MergeDelta seg) e is = no_slot slots is.view [] (sym (ap (first_fault slots) is.views) ∙ can.fresh) (at_seg (MergeDelta seg) is.view.seg e (sym is.number))
      by (Split seg) e is = no_slot slots is.view [] (sym (ap (first_fault slots) is.views) ∙ can.fresh) (at_seg (Split seg) is.view.seg e (sym is.number))
      by (Merge seg) e is = no_slot slots is.left (is.right ∷ []) (sym (ap (first_fault slots) is.views) ∙ can.fresh) (at_seg (Merge seg) is.left.seg e (sym is.number))
