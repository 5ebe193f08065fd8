-- What the slots of an install say.
use Rattle.std.proofs.Common.{◌≡◌, ◌∙◌, sym, ap, ℕ, suc, ◌+◌, ◌-◌, ◌≤◌, List, ◌∷◌, ◌++◌, Option, length, map, take, drop, replicate, arith}
use Rattle.std.proofs.lemmas.List.{append_assoc, length-drop, length-replicate, length-take-le, map-append, take-append-drop}
use Rattle.column_block.specs.declared.cell.Version.{Version}
use Rattle.column_file.specs.declared.file.ColumnFile.{ColumnFile}
use Rattle.column_file.specs.declared.file.ColumnFile.TheVariants.{Tiny}
use Rattle.delta_layer.specs.Files.{file_of}
use Rattle.delta_layer.specs.declared.built.Piece.{Piece}
use Rattle.flash_types.specs.declared.range.HandleRange.{HandleRange}
use Rattle.prefix_laws.specs.Clipped.{clip}
use Rattle.prefix_laws.specs.Tagged.{Tagged, tagged_of}
use Rattle.segment_laws.specs.Given.{both_of, half_of}
use Rattle.segment_laws.specs.Runs.{run_of, with_run}
use Rattle.segment_list.specs.Slots.{Slotted, IsTagged, clip_pairs, file_in, tag_in, tagged, tags_of, told_of, told_one}
use Rattle.segment_list.proofs.GatheredLaw.{both_told, pairs_told, told_pairs}
use Rattle.segment_list.proofs.Telling.{clip_pairs_say}
use Rattle.segment_install.specs.declared.part.Part.{Part}
use Rattle.segment_install.specs.Slots.{Rest, both_rests, clip_rest, compacted_slot, half_slot, joined_slot, merged_slot, rest_of}
use Rattle.segment_install.specs.Told.{all_told, rest_told, side_of}
use Rattle.segment_install.proofs.Tags.{clip_both, drop_tags, named_both, named_clip, named_told, noughts, tagged_drop, tagged_take, take_tags}

-- what files of a rest say, those that are named first
pub rest_says : Rest → List Tagged
rest_says rest = named_told rest.named ++ map told_one rest.others

pub says_rest : (rest : Rest) → tagged (replicate (length rest.named) 0 ++ map tag_in rest.others) (rest.named ++ map file_in rest.others) ≡ rest_says rest
unfolding rest_says named_told
says_rest rest = both_told (replicate (length rest.named) 0) (map tag_in rest.others) rest.named (map file_in rest.others) (sym (length-replicate (length rest.named) 0)) ∙ ap (λ (r : List Tagged). tagged (replicate (length rest.named) 0) rest.named ++ r) (pairs_told rest.others)

clip_says : (range : HandleRange) (rest : Rest) → rest_says (clip_rest range rest) ≡ clip range (named_told rest.named) ++ clip range (map told_one rest.others)
unfolding rest_says
clip_says range rest = ap (λ (r : List Tagged). r ++ map told_one (clip_pairs range rest.others)) (named_clip range rest.named) ∙ ap (λ (r : List Tagged). clip range (named_told rest.named) ++ r) (clip_pairs_say range rest.others)

take_noughts : (k : ℕ) (ts : List ℕ) → take k (replicate k 0 ++ ts) ≡ replicate k 0
take_noughts k ts = take_tags k k ts (omega arith)

drop_noughts : (k : ℕ) (ts : List ℕ) → drop k (replicate k 0 ++ ts) ≡ ts
drop_noughts k ts =
    let e : k - k ≡ 0 = omega arith in
    drop_tags k k ts ∙ ap (λ (j : ℕ). replicate j 0 ++ drop j ts) e

both_says : (a b : Rest) → rest_says (both_rests a b) ≡ named_told a.named ++ (named_told b.named ++ (map told_one a.others ++ map told_one b.others))
unfolding rest_says
both_says a b =
    ap (λ (r : List Tagged). r ++ map told_one (a.others ++ b.others)) (named_both a.named b.named)
    ∙ ap (λ (r : List Tagged). (named_told a.named ++ named_told b.named) ++ r) (map-append told_one a.others b.others)
    ∙ append_assoc (named_told a.named) (named_told b.named) (map told_one a.others ++ map told_one b.others)

module _ {G : Type 0} where
  -- the rest with its tags
  rest_tags : (n : ℕ) (s : Slotted G) → rest_told n s ≡ tagged (replicate (s.named - n) 0 ++ drop (n - s.named) s.tags) (drop n s.files)
  rest_tags n s = tagged_drop n (tags_of s) s.files ∙ ap (λ (ts : List ℕ). tagged ts (drop n s.files)) (drop_tags n s.named s.tags)

  pub merged_says : (n : ℕ) (part : Option (Part G)) (versions : List Version) (s : Slotted G) → told_of versions (merged_slot n part s) ≡ tagged_of s.range versions (rest_told n s)
  merged_says n part versions s = ap (λ (fs : List Tagged). tagged_of s.range versions fs) (sym (rest_tags n s))

  -- the named ones of the rest, and the others
  named_part : (n : ℕ) (s : Slotted G) → IsTagged s → take (s.named - n) (rest_told n s) ≡ named_told (rest_of n s).named
  unfolding named_told
  named_part n s ok =
      let k : ℕ = s.named - n in
      let long : length (take k (drop n s.files)) ≡ k = length-take-le k (drop n s.files) (omega (arith, ok, length-drop n s.files)) in
      ap (take k) (rest_tags n s)
      ∙ tagged_take k (replicate k 0 ++ drop (n - s.named) s.tags) (drop n s.files)
      ∙ ap (λ (ts : List ℕ). tagged ts (take k (drop n s.files))) (take_noughts k (drop (n - s.named) s.tags))
      ∙ ap (λ (j : ℕ). tagged (replicate j 0) (take k (drop n s.files))) (sym long)

  others_part : (n : ℕ) (s : Slotted G) → drop (s.named - n) (rest_told n s) ≡ map told_one (rest_of n s).others
  others_part n s =
      let k : ℕ = s.named - n in
      ap (drop k) (rest_tags n s)
      ∙ tagged_drop k (replicate k 0 ++ drop (n - s.named) s.tags) (drop n s.files)
      ∙ ap (λ (ts : List ℕ). tagged ts (drop k (drop n s.files))) (drop_noughts k (drop (n - s.named) s.tags))
      ∙ sym (told_pairs (drop (n - s.named) s.tags) (drop k (drop n s.files)))

  clipped_rest : (range : HandleRange) (n : ℕ) (s : Slotted G) → IsTagged s → rest_says (clip_rest range (rest_of n s)) ≡ clip range (take (s.named - n) (rest_told n s)) ++ clip range (drop (s.named - n) (rest_told n s))
  clipped_rest range n s ok =
      clip_says range (rest_of n s)
      ∙ ap (λ (r : List Tagged). clip range r ++ clip range (map told_one (rest_of n s).others)) (sym (named_part n s ok))
      ∙ ap (λ (r : List Tagged). clip range (take (s.named - n) (rest_told n s)) ++ clip range r) (sym (others_part n s))

  pub half_says : (id : ℕ) (part : Option (Part G)) (n : ℕ) (piece : Piece) (s : Slotted G) → IsTagged s → told_of piece.versions (half_slot id piece.range part n s) ≡ half_of piece (rest_told n s)
  half_says id part n piece s ok =
      ap (λ (fs : List Tagged). tagged_of piece.range piece.versions fs)
      (says_rest (clip_rest piece.range (rest_of n s))
      ∙ clipped_rest piece.range n s ok
      ∙ sym (clip_both piece.range (take (s.named - n) (rest_told n s)) (drop (s.named - n) (rest_told n s)))
      ∙ ap (clip piece.range) (take-append-drop (s.named - n) (rest_told n s)))

  clip_named : (range : HandleRange) (n : ℕ) (s : Slotted G) → IsTagged s → named_told (clip_rest range (rest_of n s)).named ≡ clip range (take (s.named - n) (rest_told n s))
  clip_named range n s ok = named_clip range (rest_of n s).named ∙ ap (clip range) (sym (named_part n s ok))

  clip_others : (range : HandleRange) (n : ℕ) (s : Slotted G) → map told_one (clip_rest range (rest_of n s)).others ≡ clip range (drop (s.named - n) (rest_told n s))
  clip_others range n s = clip_pairs_say range (rest_of n s).others ∙ ap (clip range) (sym (others_part n s))

  pub joined_says : (id : ℕ) (part : Option (Part G)) (n m : ℕ) (piece : Piece) (below beside : List Version) (l r : Slotted G) → IsTagged l → IsTagged r → told_of piece.versions (joined_slot id piece.range part n l m r) ≡ both_of (side_of n below l) (side_of m beside r) piece
  joined_says id part n m piece below beside l r a b =
      let x : Rest = clip_rest l.range (rest_of n l) in
      let y : Rest = clip_rest r.range (rest_of m r) in
      let ln : List Tagged = clip l.range (take (l.named - n) (rest_told n l)) in
      let rn : List Tagged = clip r.range (take (r.named - m) (rest_told m r)) in
      let lm : List Tagged = clip l.range (drop (l.named - n) (rest_told n l)) in
      ap (λ (fs : List Tagged). tagged_of piece.range piece.versions fs)
      (says_rest (both_rests x y)
      ∙ both_says x y
      ∙ ap (λ (q : List Tagged). q ++ (named_told y.named ++ (map told_one x.others ++ map told_one y.others))) (clip_named l.range n l a)
      ∙ ap (λ (q : List Tagged). ln ++ (q ++ (map told_one x.others ++ map told_one y.others))) (clip_named r.range m r b)
      ∙ ap (λ (q : List Tagged). ln ++ (rn ++ (q ++ map told_one y.others))) (clip_others l.range n l)
      ∙ ap (λ (q : List Tagged). ln ++ (rn ++ (lm ++ q))) (clip_others r.range m r))

  pub compacted_says : (from to file : ℕ) (stable : List Version) (s : Slotted G) → IsTagged s → from ≤ to → to ≤ s.named → told_of stable (compacted_slot from to (Tiny file (run_of s.files from to)) s) ≡ tagged_of s.range stable (with_run 0 s.files from to (all_told s))
  compacted_says from to file stable s ok le named =
      let one : ColumnFile = Tiny file (run_of s.files from to) in
      let k : ℕ = s.named - to in
      let shape : s.named - (to - from) + 1 ≡ from + (1 + k) = omega (arith, le, named) in
      let none : to - s.named ≡ 0 = omega (arith, named) in
      let succ : 1 + k ≡ suc k = omega arith in
      let one_more : replicate (1 + k) 0 ≡ 0 ∷ replicate k 0 = ap (λ (j : ℕ). replicate {A = ℕ} j 0) succ in
      let long : length (take from s.files) ≡ length (replicate from 0) = length-take-le from s.files (omega (arith, ok, le, named)) ∙ sym (length-replicate from 0) in
      let before : take from (all_told s) ≡ tagged (replicate from 0) (take from s.files) = tagged_take from (tags_of s) s.files ∙ ap (λ (ts : List ℕ). tagged ts (take from s.files)) (take_tags from s.named s.tags (omega (arith, le, named))) in
      let after : drop to (all_told s) ≡ tagged (replicate k 0 ++ s.tags) (drop to s.files) = tagged_drop to (tags_of s) s.files ∙ ap (λ (ts : List ℕ). tagged ts (drop to s.files)) (drop_tags to s.named s.tags ∙ ap (λ (j : ℕ). replicate k 0 ++ drop j s.tags) none) in
      ap (λ (fs : List Tagged). tagged_of s.range stable fs)
      (ap (λ (j : ℕ). tagged (replicate j 0 ++ s.tags) (take from s.files ++ one ∷ drop to s.files)) shape
      ∙ ap (λ (ts : List ℕ). tagged (ts ++ s.tags) (take from s.files ++ one ∷ drop to s.files)) (sym (noughts from (1 + k)))
      ∙ ap (λ (ts : List ℕ). tagged ts (take from s.files ++ one ∷ drop to s.files)) (append_assoc (replicate from 0) (replicate (1 + k) 0) s.tags)
      ∙ both_told (replicate from 0) (replicate (1 + k) 0 ++ s.tags) (take from s.files) (one ∷ drop to s.files) long
      ∙ ap (λ (ts : List ℕ). tagged (replicate from 0) (take from s.files) ++ tagged (ts ++ s.tags) (one ∷ drop to s.files)) one_more
      ∙ ap (λ (r : List Tagged). r ++ record { tag = 0; file = file_of one } ∷ tagged (replicate k 0 ++ s.tags) (drop to s.files)) (sym before)
      ∙ ap (λ (r : List Tagged). take from (all_told s) ++ record { tag = 0; file = file_of one } ∷ r) (sym after))
