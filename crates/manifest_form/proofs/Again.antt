-- Edits that are written are read again, whatever follows.
use Rattle.std.proofs.Common.{◌≡◌, ℕ, ℤ, zero, suc, ◌^◌, ◌<◌, ◌≤◌, false, ltb, List, [], ◌∷◌, ◌++◌, length, take, drop, Option, Some, None, Ok, refl, sym, ap, ◌∙◌, append_assoc, arith, length-append}
use Rattle.std.specs.Prelude.{FitsSigned}
use Rattle.std.specs.List.{All, flat_map}
use Rattle.std.specs.Int.{Width, w16, w32, w64, byte_len, to_be_bytes, from_be_bytes, cast_signed, cast_unsigned}
use Rattle.std.proofs.lemmas.Bool.{le-ltb}
use Rattle.std.proofs.lemmas.Nat.{from_be_bytes-to_be_bytes_2, from_be_bytes-to_be_bytes_4, from_be_bytes-to_be_bytes_8}
use Rattle.std.proofs.lemmas.Int.{to_z-of_z}
use Rattle.std.proofs.lemmas.List.{take_at}
use Rattle.std.proofs.Math.Facts.{Fits-of_z}
use Rattle.std.proofs.Math.Seq.{drop-append_seam}
use Rattle.flash_list.specs.Steps.{each_at}
use Rattle.flash_list.specs.Fields.{number_at}
use Rattle.flash_types.specs.declared.range.HandleRange.{HandleRange}
use Rattle.manifest_form.specs.declared.fault.Fault.{Fault}
use Rattle.manifest_form.specs.declared.state.StoredFile.{StoredFile}
use Rattle.manifest_form.specs.declared.state.StoredFile.TheVariants.{Tiny, DeleteRange}
use Rattle.manifest_form.specs.declared.state.StoredSegment.{StoredSegment}
use Rattle.manifest_form.specs.declared.state.Edit.{Edit}
use Rattle.manifest_form.specs.declared.state.Edit.TheVariants.{Next, Segment, Drop, High, SafePoint, Regions, Count}
use Rattle.manifest_form.specs.Fields as F
use Rattle.manifest_form.specs.Edits as E
use Rattle.manifest_form.specs.Spelling as S
use Rattle.manifest_form.specs.Spelling.{EndFits, RangeFits, NameFits, StoredFits, SegmentFits, EditFits}

pub sized_again : {E : Type 0} (width : Width) (fault : E) (field rest : List ℕ) (n : ℕ) → length field ≡ byte_len width → from_be_bytes width field ≡ n → number_at width fault (field ++ rest) ≡ Ok (n, rest)
unfolding number_at
sized_again width fault field rest n size is =
    let long : ltb (length (field ++ rest)) (byte_len width) ≡ false = le-ltb _ _ (omega (arith, length-append field rest)) in
    let front : take (byte_len width) (field ++ rest) ≡ field = take_at field rest (byte_len width) size in
    let behind : drop (byte_len width) (field ++ rest) ≡ rest = ap (λ k. drop k (field ++ rest)) (sym size) ∙ drop-append_seam field rest in
    rw (long, front, behind, is) refl

pub u16_again : {E : Type 0} (fault : E) (n : ℕ) (rest : List ℕ) → n < 2 ^ 16 → number_at w16 fault (to_be_bytes w16 n ++ rest) ≡ Ok (n, rest)
u16_again fault n rest lt = sized_again w16 fault (to_be_bytes w16 n) rest n refl (from_be_bytes-to_be_bytes_2 n lt)

pub u32_again : {E : Type 0} (fault : E) (n : ℕ) (rest : List ℕ) → n < 2 ^ 32 → number_at w32 fault (to_be_bytes w32 n ++ rest) ≡ Ok (n, rest)
u32_again fault n rest lt = sized_again w32 fault (to_be_bytes w32 n) rest n refl (from_be_bytes-to_be_bytes_4 n lt)

pub u64_again : {E : Type 0} (fault : E) (n : ℕ) (rest : List ℕ) → n < 2 ^ 64 → number_at w64 fault (to_be_bytes w64 n ++ rest) ≡ Ok (n, rest)
u64_again fault n rest lt = sized_again w64 fault (to_be_bytes w64 n) rest n refl (from_be_bytes-to_be_bytes_8 n lt)

pub byte_again : (least greatest : ℕ) (fault : Fault) (end n : ℕ) (rest : List ℕ) → least ≤ n → n ≤ greatest → F.byte_in least greatest fault end (n ∷ rest) ≡ Ok (n, rest)
unfolding F.byte_in
byte_again least greatest fault end n rest low high =
    let above : ltb n least ≡ false = le-ltb _ _ low in
    let below : ltb greatest n ≡ false = le-ltb _ _ high in
    rw (above, below) refl

bytes_again : (end len : ℕ) (field rest : List ℕ) → length field ≡ len → E.bytes_at end len (field ++ rest) ≡ Ok (field, rest)
unfolding E.bytes_at
bytes_again end len field rest size =
    let long : ltb (length (field ++ rest)) len ≡ false = le-ltb _ _ (omega (arith, size, length-append field rest)) in
    let behind : drop len (field ++ rest) ≡ rest = ap (λ k. drop k (field ++ rest)) (sym size) ∙ drop-append_seam field rest in
    rw (long, take_at field rest len size, behind) refl

-- ---- ranges

handle_again : (end : ℕ) (z : ℤ) (rest : List ℕ) → FitsSigned w64 z → F.handle_at end (S.handle z ++ rest) ≡ Ok (z, rest)
unfolding F.handle_at
handle_again end z rest fits =
    let back : cast_signed w64 (cast_unsigned w64 z) ≡ z = to_z-of_z w64 z fits in
    rw (u64_again _ (cast_unsigned w64 z) rest (Fits-of_z {w = w64} {z = z} fits).fits) (ap (λ x. Ok (x, rest)) back)

high_again : (end : ℕ) (high : Option ℤ) (rest : List ℕ) → EndFits high → F.high_at end (S.high high ++ rest) ≡ Ok (high, rest)
unfolding F.high_at
high_again end None rest fits = rw (byte_again 0 1 _ end 0 rest (omega arith) (omega arith)) refl
high_again end (Some z) rest fits = rw (byte_again 0 1 _ end 1 (S.handle z ++ rest) (omega arith) (omega arith), handle_again end z rest fits) refl

range_again : (end : ℕ) (r : HandleRange) (rest : List ℕ) → RangeFits r → F.range_at end (S.range r ++ rest) ≡ Ok (r, rest)
unfolding F.range_at
range_again end r rest fits =
    let parts : S.range r ++ rest ≡ S.handle r.low ++ (S.high r.high ++ rest) = append_assoc (S.handle r.low) (S.high r.high) rest in
    ap (F.range_at end) parts ∙ rw (handle_again end r.low (S.high r.high ++ rest) fits.0, high_again end r.high rest fits.1) refl

-- ---- segments

stable_again : (end : ℕ) (stable : Option ℕ) (rest : List ℕ) → NameFits stable → E.stable_at end (S.stable stable ++ rest) ≡ Ok (stable, rest)
unfolding E.stable_at
stable_again end None rest fits = rw (byte_again 0 1 _ end 0 rest (omega arith) (omega arith)) refl
stable_again end (Some file) rest fits = rw (byte_again 0 1 _ end 1 (to_be_bytes w32 file ++ rest) (omega arith) (omega arith), u32_again _ file rest fits) refl

file_again : (end : ℕ) (file : StoredFile) (rest : List ℕ) → StoredFits file → E.file_at end (tt {0}) (S.stored file ++ rest) ≡ Ok (file, rest)
unfolding E.file_at S.stored
file_again end (Tiny file) rest fits = rw (byte_again 1 2 _ end 1 (to_be_bytes w32 file ++ rest) (omega arith) (omega arith), u32_again _ file rest fits) refl
file_again end (DeleteRange r) rest fits = rw (byte_again 1 2 _ end 2 (S.range r ++ rest) (omega arith) (omega arith), range_again end r rest fits) refl

pub all_head : {X : Type 0} (P : X → Type 0) (x : X) (xs : List X) → All P (x ∷ xs) → P x
all_head P x xs all = all 0 x (omega arith)

pub all_tail : {X : Type 0} (P : X → Type 0) (x : X) (xs : List X) → All P (x ∷ xs) → All P xs
all_tail P x xs all = λ k d lt. all (suc k) d (omega (arith, lt))

files_again : (end : ℕ) (files : List StoredFile) (rest : List ℕ) → All StoredFits files → each_at (E.file_at end) (λ _. tt {0}) (length files) (tt {0}) (flat_map S.stored files ++ rest) ≡ Ok (files, rest)
unfolding each_at
files_again end [] rest fits = refl
files_again end (file ∷ files) rest fits =
    let parts : (S.stored file ++ flat_map S.stored files) ++ rest ≡ S.stored file ++ (flat_map S.stored files ++ rest) = append_assoc (S.stored file) (flat_map S.stored files) rest in
    ap (each_at (E.file_at end) (λ _. tt {0}) (suc (length files)) (tt {0})) parts
    ∙ rw (file_again end file (flat_map S.stored files ++ rest) (all_head StoredFits file files fits), files_again end files rest (all_tail StoredFits file files fits)) refl

delta_again : (end : ℕ) (files : List StoredFile) (rest : List ℕ) → length files < 2 ^ 64 → All StoredFits files → E.delta_at end ((to_be_bytes w64 (length files) ++ flat_map S.stored files) ++ rest) ≡ Ok (files, rest)
unfolding E.delta_at E.each_file_at
delta_again end files rest count fits =
    let parts : (to_be_bytes w64 (length files) ++ flat_map S.stored files) ++ rest ≡ to_be_bytes w64 (length files) ++ (flat_map S.stored files ++ rest) = append_assoc (to_be_bytes w64 (length files)) (flat_map S.stored files) rest in
    ap (E.delta_at end) parts ∙ rw (u64_again _ (length files) (flat_map S.stored files ++ rest) count) (files_again end files rest fits)

segment_again : (end : ℕ) (s : StoredSegment) (rest : List ℕ) → SegmentFits s → E.segment_at end (S.segment s ++ rest) ≡ Ok (s, rest)
unfolding E.segment_at S.segment
segment_again end s rest fits =
    let delta = to_be_bytes w64 (length s.delta) ++ flat_map S.stored s.delta in
    let one = append_assoc (to_be_bytes w32 s.id) (S.range s.range ++ (S.stable s.stable ++ delta)) rest in
    let two = append_assoc (S.range s.range) (S.stable s.stable ++ delta) rest in
    let three = append_assoc (S.stable s.stable) delta rest in
    let parts : S.segment s ++ rest ≡ to_be_bytes w32 s.id ++ (S.range s.range ++ (S.stable s.stable ++ (delta ++ rest))) =
    one ∙ ap (λ (xs : List ℕ). to_be_bytes w32 s.id ++ xs) (two ∙ ap (λ (xs : List ℕ). S.range s.range ++ xs) three) in
    ap (E.segment_at end) parts
    ∙ rw (u32_again _ s.id (S.range s.range ++ (S.stable s.stable ++ (delta ++ rest))) fits.id, range_again end s.range (S.stable s.stable ++ (delta ++ rest)) fits.range, stable_again end s.stable (delta ++ rest) fits.stable, delta_again end s.delta rest fits.count fits.delta) refl

-- ---- edits

edit_again : (end : ℕ) (e : Edit) (rest : List ℕ) → EditFits e → E.edit_at end (S.edit e ++ rest) ≡ Ok (e, rest)
unfolding E.edit_at S.edit E.next_at E.put_at E.drop_at E.mark_at E.point_at E.regions_at E.count_at
edit_again end (Next file) rest fits = rw (byte_again 1 7 _ end 1 (to_be_bytes w32 file ++ rest) (omega arith) (omega arith), u32_again _ file rest fits) refl
edit_again end (Segment s) rest fits = rw (byte_again 1 7 _ end 2 (S.segment s ++ rest) (omega arith) (omega arith), segment_again end s rest fits) refl
edit_again end (Drop id) rest fits = rw (byte_again 1 7 _ end 3 (to_be_bytes w32 id ++ rest) (omega arith) (omega arith), u32_again _ id rest fits) refl
edit_again end (High entries chain) rest fits =
    let parts : (to_be_bytes w64 entries ++ chain) ++ rest ≡ to_be_bytes w64 entries ++ (chain ++ rest) = append_assoc (to_be_bytes w64 entries) chain rest in
    ap (λ (xs : List ℕ). E.edit_at end (4 ∷ xs)) parts
    ∙ rw (byte_again 1 7 _ end 4 (to_be_bytes w64 entries ++ (chain ++ rest)) (omega arith) (omega arith), u64_again _ entries (chain ++ rest) fits.0, bytes_again end 32 chain rest fits.1) refl
edit_again end (SafePoint ts) rest fits = rw (byte_again 1 7 _ end 5 (to_be_bytes w64 ts ++ rest) (omega arith) (omega arith), u64_again _ ts rest fits) refl
edit_again end (Regions file) rest fits = rw (byte_again 1 7 _ end 6 (to_be_bytes w32 file ++ rest) (omega arith) (omega arith), u32_again _ file rest fits) refl
edit_again end (Count entries) rest fits = rw (byte_again 1 7 _ end 7 (to_be_bytes w64 entries ++ rest) (omega arith) (omega arith), u64_again _ entries rest fits) refl

edit_is_some : (e : Edit) (rest : List ℕ) → S.edit e ++ rest ≡ [] → ⊥
unfolding S.edit
edit_is_some (Next file) rest e = absurd (cc (e))
edit_is_some (Segment s) rest e = absurd (cc (e))
edit_is_some (Drop id) rest e = absurd (cc (e))
edit_is_some (High entries chain) rest e = absurd (cc (e))
edit_is_some (SafePoint ts) rest e = absurd (cc (e))
edit_is_some (Regions file) rest e = absurd (cc (e))
edit_is_some (Count entries) rest e = absurd (cc (e))

one_read : (most end : ℕ) (bytes : List ℕ) (e : Edit) (rest : List ℕ) (es : List Edit) → (bytes ≡ [] → ⊥) → E.edit_at end bytes ≡ Ok (e, rest) → E.some_edits most end rest ≡ Ok es → E.some_edits (suc most) end bytes ≡ Ok (e ∷ es)
unfolding E.some_edits
one_read most end [] e rest es some one others = absurd (some refl)
one_read most end (b ∷ bytes) e rest es some one others = rw (one, others) refl

some_again : (most end : ℕ) (edits : List Edit) → length edits ≤ most → All EditFits edits → E.some_edits most end (flat_map S.edit edits) ≡ Ok edits
unfolding E.some_edits
some_again zero end [] le fits = refl
some_again (suc most) end [] le fits = refl
some_again zero end (e ∷ edits) le fits = absurd (omega (arith, le))
some_again (suc most) end (e ∷ edits) le fits =
    one_read most end (S.edit e ++ flat_map S.edit edits) e (flat_map S.edit edits) edits (edit_is_some e (flat_map S.edit edits)) (edit_again end e (flat_map S.edit edits) (all_head EditFits e edits fits))
    (some_again most end edits (omega (arith, le)) (all_tail EditFits e edits fits))

no_fewer_bytes : (edits : List Edit) → length edits ≤ length (flat_map S.edit edits)
no_fewer_bytes [] = omega arith
no_fewer_bytes (e ∷ edits) = omega (arith, no_fewer_bytes edits, length-append (S.edit e) (flat_map S.edit edits), some e)
  where
    unfolded : (e : Edit) → S.edit e ≡ [] → ⊥
    unfolded e is = edit_is_some e [] (ap (λ (xs : List ℕ). xs ++ []) is)

    long : (xs : List ℕ) → (xs ≡ [] → ⊥) → 1 ≤ length xs
    long [] none = absurd (none refl)
    long (x ∷ xs) none = omega arith

    some : (e : Edit) → 1 ≤ length (S.edit e)
    some e = long (S.edit e) (unfolded e)

pub edits_again : (end : ℕ) (edits : List Edit) → All EditFits edits → E.edits_of end (flat_map S.edit edits) ≡ Ok edits
unfolding E.edits_of
edits_again end edits fits = some_again (length (flat_map S.edit edits)) end edits (no_fewer_bytes edits) fits
