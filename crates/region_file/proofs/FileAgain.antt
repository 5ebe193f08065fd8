-- A region file that is written is read again.
use Rattle.std.proofs.Common.{◌≡◌, ℕ, suc, false, List, [], ◌∷◌, ◌++◌, length, get_or, Ok, refl, sym, ap, ◌∙◌, subst, append_assoc, length-append, arith, lit<}
use Rattle.std.specs.Int.{w64, to_be_bytes}
use Rattle.std.specs.List.{All, AllPairs, flat_map, list_any}
use Rattle.std.specs.Ordering.{nat_cmp}
use Rattle.std.proofs.lemmas.List.{append-nil, get_or_append_left}
use Rattle.std.proofs.lemmas.List.Folds.{list_any_none}
use Rattle.std.proofs.Math.Seq.{get_or-append_seam}
use Rattle.flash_types.specs.declared.range.HandleRange.{HandleRange}
use Rattle.log_codec.proofs.Again.{u32_again, u64_again}
use Rattle.region_file.specs.declared.entry.Entry.{Entry}
use Rattle.region_file.specs.declared.entry.Entry.TheVariants.{Gone, There}
use Rattle.region_file.specs.Regions.{meet, last_id, range_in, ranges_of, entries_at, magic, magic_at, regions_of}
use Rattle.region_file.specs.Spelling as S
use Rattle.region_file.specs.Spelling.{EntryFits, CanBeWritten, AreApart}
use Rattle.region_file.specs.Taken.{AreFree}
use Rattle.region_file.proofs.Going.{all_head, all_tail}
use Rattle.region_file.proofs.KeysRise.{RiseFrom, rise, id_may_be}
use Rattle.region_file.proofs.RegionAgain.{entry_again}
use Rattle.region_file.proofs.Walking.{last_more, ranges_more}

-- ---- a range meets none of the earlier ones

abbrev Apart : List HandleRange → Type 0
Apart ranges = AllPairs (λ (a b : HandleRange). meet b a ≡ false) ranges

meets_none : (earlier later : List HandleRange) (r : HandleRange) → Apart (earlier ++ r ∷ later) → list_any (meet r) earlier ≡ false
meets_none earlier later r apart = list_any_none (meet r) earlier (λ k d less.
    let pair = apart k (length earlier) d less (omega (arith, length-append earlier (r ∷ later))) in
    let at : get_or (earlier ++ r ∷ later) k d ≡ get_or earlier k d = get_or_append_left earlier (r ∷ later) d k less in
    let itself : get_or (earlier ++ r ∷ later) (length earlier) d ≡ r = get_or-append_seam earlier r later d in
    rw (at, itself) at pair)

is_free : (earlier later : List HandleRange) (e : ℕ × Entry) → Apart (earlier ++ (range_in e ++ later)) → AreFree e earlier
is_free earlier later (id, Gone index) apart = tt
is_free earlier later (id, There s) apart = meets_none earlier later s.descriptor.range apart

-- ---- entries

Apart-more : (before es : List (ℕ × Entry)) (e : ℕ × Entry) → Apart (ranges_of before ++ ranges_of (e ∷ es)) → Apart (ranges_of (before ++ e ∷ []) ++ ranges_of es)
Apart-more before es e apart =
    subst Apart (sym (append_assoc (ranges_of before) (range_in e) (ranges_of es)) ∙ ap (λ (rs : List HandleRange). rs ++ ranges_of es) (sym (ranges_more before e))) apart

entries_again : (end : ℕ) (before es : List (ℕ × Entry)) (rest : List ℕ) → All EntryFits es → RiseFrom nat_cmp (last_id before) es → Apart (ranges_of before ++ ranges_of es)
    → entries_at end (length es) before (flat_map S.entry es ++ rest) ≡ Ok (before ++ es, rest)
unfolding entries_at
entries_again end before [] rest fits up apart = ap (λ (es : List (ℕ × Entry)). Ok (es, rest)) (sym (append-nil before))
entries_again end before (e ∷ es) rest fits up apart =
    let others = flat_map S.entry es ++ rest in
    let more = before ++ e ∷ [] in
    let first = entry_again end (last_id before) (ranges_of before) e others (all_head EntryFits e es fits) (id_may_be (last_id before) e.0 up.0) (is_free (ranges_of before) (ranges_of es) e apart) in
    let up_more = subst (λ last. RiseFrom nat_cmp last es) (sym (last_more before e)) up.1 in
    let behind = entries_again end more es rest (all_tail EntryFits e es fits) up_more (Apart-more before es e apart) in
    ap (entries_at end (suc (length es)) before) (append_assoc (S.entry e) (flat_map S.entry es) rest) ∙ rw first (behind ∙ ap (λ (all : List (ℕ × Entry)). Ok (all, rest)) (append_assoc before (e ∷ []) es))

-- ---- the file

magic_again : (end : ℕ) (rest : List ℕ) → magic_at end (70 ∷ 76 ∷ 82 ∷ 71 ∷ rest) ≡ Ok (magic, rest)
unfolding magic_at
magic_again end rest = rw (u32_again _ magic rest (lit< tt)) refl

pub file_again : (entries : List (ℕ × Entry)) → CanBeWritten entries → AreApart entries → regions_of (S.file entries) ≡ Ok entries
unfolding regions_of
file_again entries fits apart =
    let end = length (S.file entries) in
    let each = flat_map S.entry entries in
    let all : entries_at end (length entries) [] each ≡ Ok (entries, []) = ap (entries_at end (length entries) []) (sym (append-nil each)) ∙ entries_again end [] entries [] fits.each (rise nat_cmp entries fits.ids) apart in
    rw (magic_again end (to_be_bytes w64 (length entries) ++ each), u64_again _ (length entries) each fits.few, all) refl
