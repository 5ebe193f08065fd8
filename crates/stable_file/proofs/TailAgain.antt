-- The footer of a file that is written is read again.
use Rattle.std.proofs.Common.{◌≡◌, ℕ, zero, suc, ◌+◌, ◌-◌, ◌^◌, ◌<◌, ◌≤◌, true, false, eqb, leb, ltb, List, [], ◌∷◌, ◌++◌, length, take, drop, None, Ok, refl, sym, ap, ◌∙◌, append_assoc, arith, length-append}
use Rattle.std.specs.Int.{w32, w64, to_be_bytes}
use Rattle.std.specs.List.{AllByRecursion, flat_map}
use Rattle.std.proofs.lemmas.Bool.{le-leb, le-ltb}
use Rattle.std.proofs.lemmas.List.{append-nil, take_at, drop-append-le}
use Rattle.std.proofs.Math.Seq.{drop-append_seam}
use Rattle.column_block.specs.declared.column.Column.{Column}
use Rattle.column_block.specs.declared.cell.Version.{Version}
use Rattle.pack_codec.specs.declared.fault.FormError.TheVariants.{Damaged}
use Rattle.pack_codec.specs.Reading.{ended}
use Rattle.pack_codec.specs.Spelling.{pack, PackFits}
use Rattle.column_block.specs.Suiting.{Suits}
use Rattle.pack_codec.proofs.FieldsAgain.{u32_again, u64_again}
use Rattle.stable_file.specs.Footer.{end_magic, size_at, packs_at, pack_entry_at, behind, first, entries_at, footer_at, tail_at}
use Rattle.stable_file.specs.Steps.{so_many}
use Rattle.stable_file.specs.Building.{first_cuts, packs_for, cuts, magic, sizes, entry, entry_of, entries, footer, ending, file_of}
use Rattle.stable_file.specs.Laws.{AreFull, packs_told, BuiltFootersAreReadAgain}
use Rattle.stable_file.proofs.BuildSteps.{last_reach}
use Rattle.stable_file.proofs.CutsAgain.{all_take, all_drop, enough, some_rise, full_cuts}
use Rattle.stable_file.proofs.OrderAgain.{InOrder, cuts_in_order}
use Rattle.stable_file.proofs.EntriesAgain.{entries_again}

-- ---- the two parts of some bytes

behind_is : (a b : List ℕ) (n : ℕ) → length b ≡ n → drop (length (a ++ b) - n) (a ++ b) ≡ b
behind_is a b n is =
    let k : length (a ++ b) - n ≡ length a = omega (arith, is, length-append a b) in
    ap (λ m. drop m (a ++ b)) k ∙ drop-append_seam a b

front_is : (a b : List ℕ) (n : ℕ) → length b ≡ n → take (length (a ++ b) - n) (a ++ b) ≡ a
front_is a b n is =
    let k : length a ≡ length (a ++ b) - n = omega (arith, is, length-append a b) in
    take_at a b (length (a ++ b) - n) k

-- ---- the footer's length

size_again : (len front size : ℕ) → size < 2 ^ 64 → 8 ≤ size → size + 16 ≤ len → size ≤ front → size_at len front (to_be_bytes w64 size ++ to_be_bytes w32 end_magic) ≡ Ok size
unfolding size_at
size_again len front size below least within before =
    let a : leb 8 size ≡ true = le-leb 8 size least in
    let b : leb (size + 16) len ≡ true = le-leb (size + 16) len within in
    let c : leb size front ≡ true = le-leb size front before in
    let m = u32_again (Damaged len) end_magic [] (omega arith) in
    rw (u64_again (Damaged len) size (to_be_bytes w32 end_magic) below, m, a, b, c) refl

-- ---- the number of packs

packs_again : (end n : ℕ) → n < 2 ^ 64 → 0 < n → packs_at end (to_be_bytes w64 n) ≡ Ok n
unfolding packs_at
packs_again end n below some =
    let any : eqb n 0 ≡ false = grind (arith, some) in
    let read = u64_again (Damaged end) n [] below in
    rw (read, any) refl

entry_len : (columns : List Column) (place len : ℕ) (cut : List Version) → 1 ≤ length (entry_of columns place len cut)
unfolding entry_of sizes
entry_len columns place len cut = omega arith

enough_bytes : (columns : List Column) (place : ℕ) (parts : List (List Version)) → length parts ≤ length (entries columns place parts)
enough_bytes columns place [] = omega arith
enough_bytes columns place (cut ∷ others) =
    let rest = entries columns (place + length (pack columns cut)) others in
    let one = entry_len columns place (length (pack columns cut)) cut in
    let more = enough_bytes columns (place + length (pack columns cut)) others in
    omega (arith, one, more, length-append (entry columns place cut) rest)

some_parts : (rows : ℕ) (parts : List (List Version)) → AreFull rows parts → 0 < length parts
some_parts rows [] full = absurd full
some_parts rows (cut ∷ others) full = omega arith

footer_len : (columns : List Column) (parts : List (List Version)) → 8 ≤ length (footer columns parts)
unfolding footer
footer_len columns parts = omega (arith, length-append (entries columns 4 parts) (to_be_bytes w64 (length parts)))

-- ---- the footer

record PartsFit (columns : List Column) (rows : ℕ) (parts : List (List Version)) : Type 0 where
  pub full : AreFull rows parts
  pub order : InOrder None parts
  pub fits : AllByRecursion (PackFits columns) parts
  pub suits : AllByRecursion (AllByRecursion (Suits columns)) parts

module _ (columns : List Column) (rows : ℕ) (parts : List (List Version)) (some : 0 < rows) (small : rows < 2 ^ 32) (are : PartsFit columns rows parts) where
  all_entries : (end stop : ℕ) → stop < 2 ^ 64 → stop ≡ 4 + length (flat_map (pack columns) parts) → entries_at end stop columns (length parts) (entries columns 4 parts) ≡ Ok (packs_told columns 4 parts)
  unfolding entries_at ended
  all_entries end stop below sum =
      let none : entries columns 4 parts ++ [] ≡ entries columns 4 parts = append-nil (entries columns 4 parts) in
      let read : so_many (pack_entry_at end stop columns) behind (length parts) (first (length parts)) (entries columns 4 parts ++ []) ≡ Ok (packs_told columns 4 parts, [])
      = entries_again columns rows end stop some small below parts (first (length parts)) None None [] refl refl (tt {0}) refl sum are.full are.order are.fits are.suits in
      let all = ap (so_many (pack_entry_at end stop columns) behind (length parts) (first (length parts))) (sym none) ∙ read in
      rw all refl

  footer_again : (end : ℕ) → end < 2 ^ 64 → end ≡ 4 + length (flat_map (pack columns) parts) + length (footer columns parts) → footer_at end columns (footer columns parts) ≡ Ok (packs_told columns 4 parts)
  unfolding footer_at footer
  footer_again end below sum =
      let e = entries columns 4 parts in
      let n = to_be_bytes w64 (length parts) in
      let len : length (e ++ n) ≡ length e + 8 = length-append e n in
      let count = packs_again end (length parts) (omega (arith, below, sum, len, enough_bytes columns 4 parts)) (some_parts rows parts are.full) in
      let stop : end - length (e ++ n) ≡ 4 + length (flat_map (pack columns) parts) = omega (arith, sum) in
      let all = all_entries (end - 8) (end - length (e ++ n)) (omega (arith, below)) stop in
      rw (behind_is e n 8 refl, front_is e n 8 refl, count) all

  -- the last bytes of the file, with some bytes before the footer
  tail_of_file : (len : ℕ) (before : List ℕ) → len ≡ 4 + length (flat_map (pack columns) parts) + length (footer columns parts) + 12 → len < 2 ^ 64
      → tail_at len columns ((before ++ footer columns parts) ++ (to_be_bytes w64 (length (footer columns parts)) ++ to_be_bytes w32 end_magic)) ≡ Ok (packs_told columns 4 parts)
  unfolding tail_at
  tail_of_file len before sum below =
      let f = footer columns parts in
      let front = before ++ f in
      let l = to_be_bytes w64 (length f) ++ to_be_bytes w32 end_magic in
      let long : ltb (length (front ++ l)) 12 ≡ false = le-ltb (length (front ++ l)) 12 (omega (arith, length-append front l)) in
      let size = size_again len (length front) (length f) (omega (arith, below, sum)) (footer_len columns parts) (omega (arith, sum)) (omega (arith, length-append before f)) in
      let all = footer_again (len - 12) (omega (arith, below)) (omega (arith, sum)) in
      rw (long, front_is front l 12 refl, behind_is front l 12 refl, size, behind_is before f (length f) refl) all

  file_again : length (file_of columns parts) < 2 ^ 64 → (from : ℕ) → from ≤ 4 + length (flat_map (pack columns) parts) → tail_at (length (file_of columns parts)) columns (drop from (file_of columns parts)) ≡ Ok (packs_told columns 4 parts)
  unfolding file_of ending
  file_again below from within =
      let m = to_be_bytes w32 magic in
      let p = flat_map (pack columns) parts in
      let f = footer columns parts in
      let l = to_be_bytes w64 (length f) ++ to_be_bytes w32 end_magic in
      let front_len : length (m ++ p) ≡ 4 + length p = length-append m p in
      let split : m ++ (p ++ (f ++ l)) ≡ (m ++ p) ++ (f ++ l) = sym (append_assoc m p (f ++ l)) in
      let behind_len : length (f ++ l) ≡ length f + 12 = length-append f l in
      let len : length (m ++ (p ++ (f ++ l))) ≡ 4 + length p + length f + 12 = ap length split ∙ length-append (m ++ p) (f ++ l) ∙ omega (arith, front_len, behind_len) in
      let rest : drop from (m ++ (p ++ (f ++ l))) ≡ (drop from (m ++ p) ++ f) ++ l = ap (drop from) split ∙ drop-append-le from (m ++ p) (f ++ l) (omega (arith, front_len, within)) ∙ sym (append_assoc (drop from (m ++ p)) f l) in
      ap (tail_at (length (m ++ (p ++ (f ++ l)))) columns) rest ∙ tail_of_file (length (m ++ (p ++ (f ++ l)))) (drop from (m ++ p)) len below

-- ---- the law

cuts_suit : (columns : List Column) (packs rows : ℕ) (xs : List Version) → AllByRecursion (Suits columns) xs → AllByRecursion (AllByRecursion (Suits columns)) (first_cuts packs rows xs)
cuts_suit columns zero rows xs suits = tt
cuts_suit columns (suc packs) rows xs suits = (all_take (Suits columns) rows xs suits, cuts_suit columns packs rows (drop rows xs) (all_drop (Suits columns) rows xs suits))

pub footers_again : BuiltFootersAreReadAgain
footers_again columns rows versions some small rises suits fits =
    let n = length versions in
    let packs = packs_for rows n in
    let reach = last_reach n rows (some_rise versions rises) in
    let are : PartsFit columns rows (cuts rows versions) = record {
      full = full_cuts packs rows versions (omega arith) reach (enough n rows some);
      order = cuts_in_order packs rows None versions some reach rises (tt {0});
      fits = fits.packs;
      suits = cuts_suit columns packs rows versions suits;
    } in
    let tells = file_again columns rows (cuts rows versions) some small are fits.bytes in
    record { whole = tells 0 (omega arith); tail = tells }
