-- One image stands for one set at one safe point.
use Rattle.std.proofs.Common.{◌≡◌, ◌∙◌, inl, inr, ℕ, Bool, List, [], ◌∷◌, Option, Some, None, refl, sym, ap, subst, length}
use Rattle.flash_io.specs.Image.{Image}
use Rattle.flash_types.specs.declared.range.HandleRange.{HandleRange}
use Rattle.column_block.specs.declared.column.Column.{Column}
use Rattle.column_block.specs.declared.cell.Version.{Version}
use Rattle.column_file.specs.Tiny.{tiny_at}
use Rattle.stable_file.specs.Footer.{tail_at}
use Rattle.delta_layer.specs.Stable.{packs_in}
use Rattle.manifest_form.specs.declared.recover.Recovered.{Recovered}
use Rattle.manifest_form.specs.declared.state.StoredFile.{StoredFile}
use Rattle.manifest_form.specs.declared.state.StoredFile.TheVariants.{Tiny, DeleteRange}
use Rattle.manifest_form.specs.declared.state.StoredSegment.{StoredSegment}
use Rattle.committed_log.specs.Lawful.{IsLawful}
use Rattle.committed_log.specs.Log.{Log}
use Rattle.good_replica.specs.Effect.{clipped}
use Rattle.good_replica.specs.Trail.{DeltaFile, Puts, Segment}
use Rattle.region_file.specs.Regions.{regions_of}
use Rattle.region_table.specs.Counting.{applied_in}
use Rattle.region_table.specs.Opening.{IsFileOf}
use Rattle.region_table.specs.Table.{Kept}
use Rattle.region_table.proofs.Sets.{set_is}
use Rattle.store_image.specs.Images.{TellsStable, TellsTiny, IsStableRead, IsFileRead, AreFilesRead, IsSegmentRead, AreSegmentsRead, AreRegionsRead, Stands, HasStanding, StandsFor, columns_in}
use Rattle.store_image.proofs.Which.{some_same, ok_same, same_file, same_store, not_new}

module _ (columns : List Column) where
  stable_told : (vs ws : List Version) (a b : List ℕ) → a ≡ b → TellsStable columns vs a → TellsStable columns ws b → vs ≡ ws
  stable_told vs ws a b same x y =
      let packs : x.0 ≡ y.0 = ok_same (sym x.1 ∙ ap (λ (l : List ℕ). tail_at (length l) columns l) same ∙ y.1) in
      ok_same (sym x.2 ∙ (λ i. packs_in columns (same i) (packs i)) ∙ y.2)

  tiny_told : (range : HandleRange) (f g : DeltaFile) (a b : List ℕ) → a ≡ b → TellsTiny columns range f a → TellsTiny columns range g b → f ≡ g
  tiny_told range f g a b same x y =
      let versions : x.0 ≡ y.0 = ok_same (sym x.1 ∙ ap (tiny_at columns) same ∙ y.1) in
      x.2 ∙ ap (λ vs. clipped range (Puts vs)) versions ∙ sym y.2

  module _ (own : ℕ) (c : Image) where
    stable_one : (o : Option ℕ) (vs ws : List Version) → IsStableRead own c columns o vs → IsStableRead own c columns o ws → vs ≡ ws
    stable_one None vs ws x y = x ∙ sym y
    stable_one (Some file) vs ws x y = stable_told vs ws x.2.0 y.2.0 (some_same (sym x.2.1 ∙ y.2.1)) x.2.2 y.2.2

    file_one : (range : HandleRange) (s : StoredFile) (f g : DeltaFile) → IsFileRead own c columns range s f → IsFileRead own c columns range s g → f ≡ g
    file_one range (Tiny file) f g x y = tiny_told range f g x.2.0 y.2.0 (some_same (sym x.2.1 ∙ y.2.1)) x.2.2 y.2.2
    file_one range (DeleteRange cleared) f g x y = x ∙ sym y

    files_one : (range : HandleRange) (ss : List StoredFile) (fs gs : List DeltaFile) → AreFilesRead own c columns range ss fs → AreFilesRead own c columns range ss gs → fs ≡ gs
    files_one range [] [] [] x y = refl
    files_one range [] (f ∷ fs) gs x y = absurd x
    files_one range [] [] (g ∷ gs) x y = absurd y
    files_one range (s ∷ ss) [] gs x y = absurd x
    files_one range (s ∷ ss) (f ∷ fs) [] x y = absurd y
    files_one range (s ∷ ss) (f ∷ fs) (g ∷ gs) x y = (let first = file_one range s f g x.0 y.0 in let rest = files_one range ss fs gs x.1 y.1 in (λ i. first i ∷ rest i))

    segment_one : (s : StoredSegment) (t u : Segment) → IsSegmentRead own c columns s t → IsSegmentRead own c columns s u → t ≡ u
    segment_one s t u x y =
        let range : t.range ≡ u.range = x.range ∙ sym y.range in
        let stable = stable_one s.stable t.stable u.stable x.stable y.stable in
        let delta = files_one s.range s.delta t.delta u.delta x.delta y.delta in
        (λ i. record { range = range i; stable = stable i; delta = delta i })

    pub segments_one : (ss : List StoredSegment) (ts us : List Segment) → AreSegmentsRead own c columns ss ts → AreSegmentsRead own c columns ss us → ts ≡ us
    segments_one [] [] [] x y = refl
    segments_one [] (t ∷ ts) us x y = absurd x
    segments_one [] [] (u ∷ us) x y = absurd y
    segments_one (s ∷ ss) [] us x y = absurd x
    segments_one (s ∷ ss) (t ∷ ts) [] x y = absurd y
    segments_one (s ∷ ss) (t ∷ ts) (u ∷ us) x y = (let first = segment_one s t u x.0 y.0 in let rest = segments_one ss ts us x.1 y.1 in (λ i. first i ∷ rest i))

module _ (log : Log) (lawful : IsLawful log) where
  file_set : (A B : ℕ → Bool) (a b : List ℕ) → a ≡ b → IsFileOf log A a → IsFileOf log B b → (p : ℕ) → A p ≡ B p
  file_set A B a b same x y p =
      let regions : x.0 ≡ y.0 = ok_same (sym x.1 ∙ ap regions_of same ∙ y.1) in
      ap (λ (S : ℕ → Bool). S p) (sym (set_is log lawful A x.0 x.2) ∙ ap (λ (r : List (ℕ × Kept)). applied_in log r) regions ∙ set_is log lawful B y.0 y.2)

  regions_one : (A B : ℕ → Bool) (own : ℕ) (c : Image) (o : Option ℕ) → AreRegionsRead own c log A o → AreRegionsRead own c log B o → (p : ℕ) → A p ≡ B p
  regions_one A B own c None x y p = x p ∙ sym (y p)
  regions_one A B own c (Some file) x y p = file_set A B x.2.0 y.2.0 (some_same (sym x.2.1 ∙ y.2.1)) x.2.2 y.2.2 p

  pub stands_one : (A B : ℕ → Bool) (own file : ℕ) (has other : Recovered) (c : Image) → own ≡ file → has ≡ other → (x : Stands log A own has c) (y : Stands log B file other c) → (x.segments ≡ y.segments) × ((p : ℕ) → A p ≡ B p)
  stands_one A B own file has other c same alike x y =
      let read : AreSegmentsRead own c (columns_in log) has.state.segments y.segments = subst (λ n. AreSegmentsRead n c (columns_in log) has.state.segments y.segments) (sym same) (subst (λ (h : Recovered). AreSegmentsRead file c (columns_in log) h.state.segments y.segments) (sym alike) y.read) in
      let regions : AreRegionsRead own c log B has.state.regions = subst (λ n. AreRegionsRead n c log B has.state.regions) (sym same) (subst (λ (h : Recovered). AreRegionsRead file c log B h.state.regions) (sym alike) y.regions) in
      (segments_one (columns_in log) own c has.state.segments x.segments y.segments x.read read, regions_one A B own c has.state.regions x.regions regions)

  module _ (A B : ℕ → Bool) (safe other : ℕ) (c : Image) where
    -- the stores are one, and so are their segments
    pub stores_one : (x : HasStanding log A safe c) (y : HasStanding log B other c) → (x.file ≡ y.file) × (x.has ≡ y.has) × (x.stands.segments ≡ y.stands.segments)
    stores_one x y =
        let file = same_file c x.file y.file x.has y.has x.store y.store in
        let has = same_store c x.file y.file x.has y.has x.store y.store in
        (file, has, (stands_one A B x.file y.file x.has y.has c file has x.stands y.stands).0)

    pub sets_one : StandsFor log A safe c → StandsFor log B other c → ((p : ℕ) → A p ≡ B p) × (safe ≡ other)
    sets_one (inl x) (inl y) = ((λ p. x.none p ∙ sym (y.none p)), x.no_safe_point ∙ sym y.no_safe_point)
    sets_one (inl x) (inr y) = absurd (not_new c y.file y.has y.store x.new)
    sets_one (inr x) (inl y) = absurd (not_new c x.file x.has x.store y.new)
    sets_one (inr x) (inr y) =
        let file = same_file c x.file y.file x.has y.has x.store y.store in
        let has = same_store c x.file y.file x.has y.has x.store y.store in
        ((stands_one A B x.file y.file x.has y.has c file has x.stands y.stands).1, sym x.safe_point ∙ ap (λ (h : Recovered). h.state.safe_point) has ∙ y.safe_point)
