-- A file that is read piece by piece.
use Rattle.std.proofs.Common.{◌≡◌, ℕ, ◌<◌, ◌≤◌, List, [], ◌++◌, length, take, drop, Some, sym, ap, ◌∙◌, subst, append_assoc, arith, length-append, length-take, take-append-drop, take_all}
use Rattle.std.proofs.Math.Seq.{drop-append_seam}
use Rattle.flash_io.specs.Image.{Image, Holds, HasPart}

-- so much of the file stands there
abbrev pub HasFront : Image → ℕ → List ℕ → Type 0
HasFront image file front = (content : List ℕ) × Holds image file content × ((rest : List ℕ) × (content ≡ front ++ rest))

some_same : {a b : List ℕ} → Some a ≡ Some b → a ≡ b
some_same e = cc

one_piece : (len : ℕ) (file : ℕ) (first files : Image) (old new : List ℕ) → HasFront first file old → files ≡ first → (content : List ℕ) × Holds files file content × (new ≡ old ++ take len (drop (length old) content))
    → (content : List ℕ) × Holds first file content × ((rest : List ℕ) × (content ≡ old ++ rest) × (new ≡ old ++ take len rest))
one_piece len file first files old new front same told =
    let held : Holds first file told.0 = subst (λ (image : Image). Holds image file told.0) same told.1 in
    let is : told.0 ≡ front.0 = some_same (sym held ∙ front.1) in
    let rest = front.2.0 in
    let behind : drop (length old) told.0 ≡ rest = ap (drop (length old)) (is ∙ front.2.1) ∙ drop-append_seam old rest in
    (front.0, front.1, (rest, front.2.1, told.2 ∙ ap (λ (l : List ℕ). old ++ take len l) behind))

pub read_on : (len : ℕ) (file : ℕ) (first files : Image) (old new : List ℕ) → HasFront first file old → files ≡ first → (content : List ℕ) × Holds files file content × (new ≡ old ++ take len (drop (length old) content)) → HasFront first file new
read_on len file first files old new front same told =
    let one = one_piece len file first files old new front same told in
    let rest = one.2.0 in
    (one.0, one.1, (drop len rest, one.2.1 ∙ ap (λ (l : List ℕ). old ++ l) (sym (take-append-drop len rest)) ∙ sym (append_assoc old (take len rest) (drop len rest)) ∙ ap (λ (l : List ℕ). l ++ drop len rest) (sym one.2.2)))

pub read_last : (len n : ℕ) (file : ℕ) (first files : Image) (old new : List ℕ) → HasFront first file old → files ≡ first → (content : List ℕ) × Holds files file content × (new ≡ old ++ take len (drop (length old) content)) → HasPart n len old new → n < len → Holds first file new
read_last len n file first files old new front same told part less =
    let one = one_piece len file first files old new front same told in
    let rest = one.2.0 in
    let size : length (take len rest) ≡ n = omega (arith, ap length one.2.2, length-append old (take len rest), ap length part.1, length-append old part.0, part.2) in
    let short : length rest ≤ len = omega (arith, length-take len rest, size, less) in
    one.1 ∙ ap Some (one.2.1 ∙ ap (λ (l : List ℕ). old ++ l) (sym (take_all len rest short)) ∙ sym one.2.2)

pub starts : (image : Image) (file : ℕ) (front : List ℕ) → front ≡ [] → (content : List ℕ) × Holds image file content → HasFront image file front
starts image file front empty there = (there.0, there.1, (there.0, ap (λ (l : List ℕ). l ++ there.0) (sym empty)))
