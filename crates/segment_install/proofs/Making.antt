-- What was built is what its job makes.
use Rattle.std.proofs.Common.{◌≡◌, ◌∙◌, refl, sym, ℕ, List, [], ◌∷◌}
use Rattle.column_block.specs.declared.column.Column.{Column}
use Rattle.delta_layer.specs.Built.{AreTwo, IsOne, IsSegment}
use Rattle.delta_layer.specs.declared.built.Built.{Built}
use Rattle.delta_layer.specs.declared.built.Job.{Job}
use Rattle.delta_layer.specs.declared.built.Job.TheVariants.{Compact, MergeDelta, Split, Merge}
use Rattle.delta_layer.specs.declared.built.Piece.{Piece}
use Rattle.segment_laws.specs.Jobs.{FromCompact, FromDeltaMerge, FromMerge, FromSplit, IsBuilt, IsBuiltBy, IsRun}
use Rattle.segment_install.specs.Plans.{AreHalvesBuilt, IsBothBuilt, IsBuiltFor, IsOneBuilt, IsRunBuilt}

pub record One {X : Type 0} (P : X → Type 0) (xs : List X) : Type 0 where
  pub item : X
  pub are : xs ≡ item ∷ []
  pub is : P item

pub one_is : {X : Type 0} (P : X → Type 0) (xs : List X) → IsOne P xs → One P xs
one_is P [] e = absurd e
one_is P (x ∷ []) e = record { item = x; are = refl; is = e }
one_is P (x ∷ y ∷ more) e = absurd e

pub record Two {X : Type 0} (P : X → X → Type 0) (xs : List X) : Type 0 where
  pub item : X
  pub other : X
  pub are : xs ≡ item ∷ other ∷ []
  pub is : P item other

pub two_are : {X : Type 0} (P : X → X → Type 0) (xs : List X) → AreTwo P xs → Two P xs
two_are P [] e = absurd e
two_are P (x ∷ []) e = absurd e
two_are P (x ∷ y ∷ []) e = record { item = x; other = y; are = refl; is = e }
two_are P (x ∷ y ∷ z ∷ more) e = absurd e

module _ {G : Type 0} (tells : Type 0) (bytes : G → List ℕ) (columns : List Column) (rows : ℕ) (built : Built G) where
  run : (seg : ℕ) → built.job ≡ Compact seg → FromCompact columns built → IsRunBuilt seg built
  run seg e is =
      let one = one_is (IsRun columns is.old is.is.from is.is.to) built.pieces is.is.piece in
      record {
        view = is.old;
        piece = one.item;
        views = is.is.views;
        pieces = one.are;
        number = cc (sym is.is.job ∙ e);
        from = is.is.from;
        to = is.is.to;
        run = is.is.run;
        versions = one.is.versions;
      }

  merged : (seg : ℕ) → built.job ≡ MergeDelta seg → FromDeltaMerge tells bytes columns rows built → IsOneBuilt seg built
  merged seg e is =
      let one = one_is (λ (piece : Piece). IsSegment columns rows is.old.range piece) built.pieces is.is.piece in
      record {
        view = is.old;
        piece = one.item;
        views = is.is.views;
        pieces = one.are;
        number = cc (sym is.is.job ∙ e);
        range = one.is.range;
      }

  halves : (seg : ℕ) → built.job ≡ Split seg → FromSplit tells bytes columns rows built → AreHalvesBuilt seg built
  halves seg e is =
      let two = two_are _ built.pieces is.is.pieces in
      record {
        view = is.old;
        low = two.item;
        high = two.other;
        views = is.is.views;
        pieces = two.are;
        number = cc (sym is.is.job ∙ e);
        at = is.at;
        cut = is.cut;
        low_range = two.is.0.range;
        high_range = two.is.1.range;
      }

  both : (seg : ℕ) → built.job ≡ Merge seg → FromMerge tells bytes columns rows built → IsBothBuilt seg built
  both seg e is =
      let one = one_is (λ (piece : Piece). IsSegment columns rows _ piece) built.pieces is.is.piece in
      record {
        left = is.left;
        right = is.right;
        piece = one.item;
        views = is.is.views;
        pieces = one.are;
        number = cc (sym is.is.job ∙ e);
        touch = is.touch;
        range = one.is.range;
      }

  by_job : (job : Job) → built.job ≡ job → IsBuiltBy tells bytes columns rows job built → IsBuiltFor job built
  by_job (Compact seg) e is = run seg e is
  by_job (MergeDelta seg) e is = merged seg e is
  by_job (Split seg) e is = halves seg e is
  by_job (Merge seg) e is = both seg e is

  pub built_for : IsBuilt tells bytes columns rows built → IsBuiltFor built.job built
  built_for is = by_job built.job refl is
