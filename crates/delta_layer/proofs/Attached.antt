-- A piece that was built is read as its versions.
use Rattle.std.proofs.Common.{◌≡◌, ◌∙◌, refl, sym, ap, subst, ℕ, ◌+◌, ◌<◌, ◌^◌, Bool, true, false, cond, List, [], ◌∷◌, ◌++◌, append_assoc, length, length-append, take, drop, fold, Option, Some, None, Result, Ok, Err, arith}
use Rattle.std.specs.List.{AllByRecursion, flat_map}
use Rattle.std.proofs.lemmas.List.{append-nil}
use Rattle.flash_list.specs.Steps.{◌>>=◌}
use Rattle.column_block.specs.declared.column.Column.{Column}
use Rattle.column_block.specs.declared.cell.Version.{Version}
use Rattle.column_block.specs.Order.{rise, Rise}
use Rattle.flash_types.specs.declared.range.HandleRange.{HandleRange}
use Rattle.column_block.specs.Suiting.{Suits}
use Rattle.pack_codec.specs.declared.fault.FormError.{FormError}
use Rattle.pack_codec.specs.declared.fault.FormError.TheVariants.{Damaged}
use Rattle.pack_codec.specs.Reading.{pack_at}
use Rattle.pack_codec.specs.Spelling.{pack}
use Rattle.stable_file.specs.declared.pack.Pack.{Pack}
use Rattle.stable_file.specs.Building.{cuts, file}
use Rattle.stable_file.specs.Footer.{tail_at}
use Rattle.stable_file.specs.Laws.{AllStand, AreFull, FooterTells, PacksHave, packs_told, told}
use Rattle.stable_file.specs.Opened.{HasEnd, IsTailOf, grip_of, packs_of}
use Rattle.stable_file.specs.declared.file.StableFile.{StableFile}
use Rattle.stable_file.specs.Packs.{has_room, versions_in}
use Rattle.stable_file.proofs.Tails.{tail_same}
use Rattle.stable_file.specs.Ranges.{is_as_told, reached, told_at, told_in}
use Rattle.delta_layer.specs.Built.{AreTwo, IsOne, IsSegment}
use Rattle.delta_layer.specs.Files.{files_of}
use Rattle.delta_layer.specs.Laws.{HasSchema, OpensAs, PiecesAreReadAgain, PiecesSuit, ViewSuits}
use Rattle.delta_layer.specs.Pieces.{IsStablePiece}
use Rattle.delta_layer.specs.Present.{IsPresent}
use Rattle.delta_layer.specs.Stable.{with_pack, with_versions, packs_in, stable_in}
use Rattle.delta_layer.specs.declared.built.Piece.{Piece}
use Rattle.delta_layer.specs.declared.view.SegmentView.{SegmentView}
use Rattle.delta_layer.proofs.Presents.{present_all}
use Rattle.column_block.proofs.Ordered.{each_both, rise_of, rise_is, rise_from_up, up_left, up_from_rise}
use Rattle.pack_codec.proofs.Binds.{bind_ok, if_ok, ok_is}
use Rattle.pack_codec.proofs.Suiting.{pack_suits}

rise_part : (xs ys : List Version) → 0 < length xs → rise (xs ++ ys) ≡ true → rise xs ≡ true
rise_part xs ys some up = rise_of xs (λ none. absurd (omega (arith, some, none))) (rise_from_up xs (up_left xs ys (up_from_rise (xs ++ ys) (rise_is (xs ++ ys) up))))

abbrev AreSome : List (List Version) → Type 0
AreSome parts = AllByRecursion (λ (cut : List Version). 0 < length cut) parts

some_cuts : (rows : ℕ) (parts : List (List Version)) → 0 < rows → AreFull rows parts → AreSome parts
some_cuts rows [] some full = absurd full
some_cuts rows (cut ∷ []) some full = (full.0, tt)
some_cuts rows (cut ∷ next ∷ others) some full = (let n = full.0 in omega (arith, n, some), some_cuts rows (next ∷ others) some full.1)

module _ (columns : List Column) (bytes : List ℕ) where
  stand_in : (parts : List (List Version)) (place : ℕ) (before : List Version) → AllStand columns bytes place parts → AreSome parts → rise (before ++ flat_map (λ cut. cut) parts) ≡ true →
      fold (with_pack columns bytes) (Ok before) (packs_told columns place parts) ≡ Ok (before ++ flat_map (λ cut. cut) parts)
  stand_in [] place before stand some up = ap (λ vs. Ok vs) (sym (append-nil before))
  stand_in (cut ∷ others) place before stand some up =
      ap (λ r. fold (with_pack columns bytes) r (packs_told columns (place + length (pack columns cut)) others)) first
      ∙ stand_in others (place + length (pack columns cut)) (before ++ cut) stand.1 some.1 (ap rise joined ∙ up)
      ∙ ap (λ vs. Ok vs) joined
    where
      joined : (before ++ cut) ++ flat_map (λ cut. cut) others ≡ before ++ (cut ++ flat_map (λ cut. cut) others)
      joined = append_assoc before cut (flat_map (λ cut. cut) others)

      up_so_far : rise (before ++ cut) ≡ true
      up_so_far = (let n = some.0 in rise_part (before ++ cut) (flat_map (λ cut. cut) others) (omega (arith, n, length-append before cut)) (ap rise joined ∙ up))

      first : with_pack columns bytes (Ok before) (told columns place cut) ≡ Ok (before ++ cut)
      first = ap (λ r. r >>= with_versions place before) stand.0 ∙ ap (λ b. cond b (Ok (before ++ cut)) (Err (Damaged place))) up_so_far

-- The file that these versions were built into is read as them, where its packs are those that its last bytes tell.
pub piece_reads : (columns : List Column) (rows : ℕ) (versions : List Version) (content : List ℕ) (len : ℕ) (tail : List ℕ) (packs : List Pack) → 0 < rows → rise versions ≡ true → PacksHave columns rows versions → FooterTells columns rows versions → content ≡ file columns rows versions →
    IsTailOf len tail content → HasEnd len tail → tail_at len columns tail ≡ Ok packs → packs_in columns content packs ≡ Ok versions
piece_reads columns rows versions content len tail packs some up have tells is ends whole told =
    let has_len : length (file columns rows versions) ≡ len = ap length (sym is) ∙ ends.whole in
    let same : packs ≡ packs_told columns 4 (cuts rows versions) = ok_is packs _ (sym told ∙ tail_same len columns tail content ends whole ∙ (λ i. tail_at (sym has_len i) columns (is i)) ∙ tells.whole) in
    (λ i. packs_in columns (is i) (same i))
    ∙ stand_in columns (file columns rows versions) (cuts rows versions) 4 [] have.stand (some_cuts rows (cuts rows versions) some have.sizes) (ap rise have.together ∙ up)
    ∙ ap (λ vs. Ok vs) have.together

-- ---- what is read suits the schema
versions_suit : (end at : ℕ) (columns : List Column) (bytes : List ℕ) (versions : List Version) → versions_in end at columns bytes ≡ Ok versions → AllByRecursion (Suits columns) versions
unfolding versions_in
versions_suit end at columns bytes versions e = by (has_room bytes) e
  where
    by : (room : Bool) → cond room (pack_at end columns bytes >>= λ vs. cond (rise vs) (Ok vs) (Err (Damaged at))) (Err (Damaged at)) ≡ Ok versions → AllByRecursion (Suits columns) versions
    by false h = cc h
    by true h =
        let a = bind_ok (pack_at end columns bytes) _ versions h in
        let b = if_ok (rise a.0) a.0 versions (Damaged at) a.2 in
        subst (AllByRecursion (Suits columns)) b.1 (pack_suits columns end bytes a.0 a.1)

told_suit : (pack : Pack) (columns : List Column) (content : List ℕ) (versions : List Version) → told_in pack columns content ≡ Ok versions → AllByRecursion (Suits columns) versions
unfolding told_at
told_suit pack columns content versions e =
    let bytes = take pack.len (drop pack.place content) in
    let a = bind_ok (versions_in (reached pack.place bytes) pack.place columns bytes) _ versions e in
    let b = if_ok (is_as_told pack a.0) a.0 versions (Damaged pack.place) a.2 in
    subst (AllByRecursion (Suits columns)) b.1 (versions_suit (reached pack.place bytes) pack.place columns bytes a.0 a.1)

stays_failed : (columns : List Column) (bytes : List ℕ) (packs : List Pack) (e : FormError) → fold (with_pack columns bytes) (Err e) packs ≡ Err e
stays_failed columns bytes [] e = refl
stays_failed columns bytes (pack ∷ packs) e = stays_failed columns bytes packs e

fold_suits : (columns : List Column) (bytes : List ℕ) (packs : List Pack) (before versions : List Version) → AllByRecursion (Suits columns) before → fold (with_pack columns bytes) (Ok before) packs ≡ Ok versions → AllByRecursion (Suits columns) versions
fold_suits columns bytes [] before versions suit e = subst (AllByRecursion (Suits columns)) (ok_is before versions e) suit
fold_suits columns bytes (pack ∷ packs) before versions suit e = by (with_pack columns bytes (Ok before) pack) refl e (λ mid. fold_suits columns bytes packs mid versions)
  where
    by : (r : Result (List Version) FormError) → with_pack columns bytes (Ok before) pack ≡ r → fold (with_pack columns bytes) r packs ≡ Ok versions → ((mid : List Version) → AllByRecursion (Suits columns) mid → fold (with_pack columns bytes) (Ok mid) packs ≡ Ok versions → AllByRecursion (Suits columns) versions) → AllByRecursion (Suits columns) versions
    by (Err x) is h rest = cc (sym (stays_failed columns bytes packs x) ∙ h)
    by (Ok mid) is h rest =
        let a = bind_ok (told_in pack columns bytes) _ mid is in
        let b = if_ok (rise (before ++ a.0)) (before ++ a.0) mid (Damaged pack.place) a.2 in
        rest mid (subst (AllByRecursion (Suits columns)) b.1 (each_both (Suits columns) before a.0 suit (told_suit pack columns bytes a.0 a.1))) h

pub packs_suit : (columns : List Column) (bytes : List ℕ) (packs : List Pack) (versions : List Version) → packs_in columns bytes packs ≡ Ok versions → AllByRecursion (Suits columns) versions
packs_suit columns bytes packs versions e = fold_suits columns bytes packs [] versions tt e

-- ---- pieces that were built

module _ {G : Type 0} (bytes : G → List ℕ) (read : PiecesAreReadAgain) (columns : List Column) (rows : ℕ) (small : length columns < 2 ^ 16) (some : 0 < rows) (below : rows < 2 ^ 32) where
  pub opens : (handles : HandleRange) (piece : Piece) → IsSegment columns rows handles piece → AllByRecursion (Suits columns) piece.versions → OpensAs bytes columns piece
  opens handles piece is suits file tail len filled same ends whole schema told =
      ap (λ cs. packs_in cs (bytes (grip_of file)) (packs_of file)) schema ∙ ap (λ bs. packs_in columns bs (packs_of file)) same ∙ by piece.versions is.rise suits is.bytes filled
    where
      by : (vs : List Version) → Rise vs → AllByRecursion (Suits columns) vs → IsStablePiece columns rows vs piece.bytes → (vs ≡ [] → ⊥) → packs_in columns piece.bytes (packs_of file) ≡ Ok vs
      by [] rise suit stands filled = absurd (filled refl)
      by (v ∷ vs) rise suit stands filled = read columns rows v vs piece.bytes tail len (packs_of file) small some below rise suit stands ends whole told

  pub one_opens : (handles : HandleRange) (pieces : List Piece) → IsOne (λ (piece : Piece). IsSegment columns rows handles piece) pieces → PiecesSuit columns pieces → AllByRecursion (OpensAs bytes columns) pieces
  one_opens handles [] is suit = absurd is
  one_opens handles (piece ∷ []) is suit = (opens handles piece is suit.0, tt)
  one_opens handles (piece ∷ other ∷ more) is suit = absurd is

  pub two_open : (low high : HandleRange) (pieces : List Piece) → AreTwo (λ (l u : Piece). IsSegment columns rows low l × IsSegment columns rows high u) pieces → PiecesSuit columns pieces → AllByRecursion (OpensAs bytes columns) pieces
  two_open low high [] are suit = absurd are
  two_open low high (l ∷ []) are suit = absurd are
  two_open low high (l ∷ u ∷ []) are suit = (opens low l are.0 suit.0, (opens high u are.1 suit.1.0, tt))
  two_open low high (l ∷ u ∷ x ∷ more) are suit = absurd are

module _ {G : Type 0} (bytes : G → List ℕ) (columns : List Column) where
  stable_suits : (part : Option (StableFile G)) (stable : List Version) → HasSchema columns part → stable_in bytes part ≡ Ok stable → AllByRecursion (Suits columns) stable
  stable_suits None stable has e = subst (AllByRecursion (Suits columns)) (ok_is [] stable e) tt
  stable_suits (Some file) stable has e = packs_suit columns (bytes (grip_of file)) (packs_of file) stable (ap (λ cs. packs_in cs (bytes (grip_of file)) (packs_of file)) (sym has) ∙ e)

  -- what is present in a segment whose parts suit
  pub present_suits : (old : SegmentView G) (versions : List Version) → ViewSuits columns old → IsPresent bytes old.range old.stable old.delta versions → AllByRecursion (Suits columns) versions
  present_suits old versions suits is = present_all (Suits columns) old.range is.stable (files_of old.delta) versions is.present (stable_suits old.stable is.stable suits.stable is.reads) suits.files
