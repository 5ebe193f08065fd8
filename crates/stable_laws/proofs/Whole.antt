-- A whole stable file that is read is the one spelling of its versions.
use Rattle.std.proofs.Common.{◌≡◌, ◌∙◌, refl, sym, ap, subst, ℕ, suc, ◌+◌, ◌-◌, ◌<◌, ◌≤◌, Bool, true, false, cond, nat_lt, nat_le, List, [], ◌∷◌, ◌++◌, append_assoc, append-nil, length, length-append, length-take, length-drop, take, drop, Ok, Err, arith}
use Rattle.std.specs.Prelude.{◌==◌, ◌&&◌}
use Rattle.std.specs.Int.{w32, w64, to_be_bytes}
use Rattle.std.specs.List.{flat_map}
use Rattle.std.proofs.lemmas.List.{take-append-drop, drop-drop, drop-append-le}
use Rattle.std.proofs.Math.Seq.{drop-append_seam}
use Rattle.flash_list.specs.Steps.{◌>>=◌}
use Rattle.flash_list.specs.Fields.{number_at}
use Rattle.column_block.specs.declared.column.Column.{Column}
use Rattle.column_block.specs.declared.cell.Version.{Version}
use Rattle.column_block.specs.Order.{rise}
use Rattle.column_codec.specs.Laws.{AreBytes}
use Rattle.pack_codec.specs.declared.fault.FormError.TheVariants.{Damaged}
use Rattle.pack_codec.specs.Faults.{here}
use Rattle.pack_codec.specs.Reading.{ended, pack_at}
use Rattle.pack_codec.specs.Spelling.{pack}
use Rattle.pack_codec.proofs.Binds.{bind_ok, if_ok, ok_is}
use Rattle.pack_codec.proofs.SpelledFields.{behind_are, front_bytes, u64_spelled, u32_spelled}
use Rattle.pack_codec.proofs.SpelledPack.{pack_spelled}
use Rattle.stable_file.specs.declared.pack.Pack.{Pack}
use Rattle.stable_file.specs.Packs.{has_room, versions_in}
use Rattle.stable_file.specs.Ranges.{is_as_told, reached, told_at, told_in}
use Rattle.stable_file.specs.Footer.{pack_entry_at, behind, first, entries_at, packs_at, footer_at, end_magic, may_have_size, size_at, tail_at}
use Rattle.stable_file.specs.Steps.{so_many}
use Rattle.stable_file.specs.Building.{entry, entries, footer, ending, magic, file_of}
use Rattle.stable_file.specs.Spelling.{entry_spelled, footer_spelled}
use Rattle.stable_file.specs.Laws.{FootersHaveOneSpelling}
use Rattle.stable_laws.specs.Files.{AreReadAs, FilesHaveOneSpelling, EqualReadsAreOfEqualFiles}
use Rattle.stable_laws.proofs.Entries.{and_left, and_right, Lie, HaveRanges, entries_lie, entry_is}

-- ---- one pack

drop_bytes : (k : ℕ) (bytes : List ℕ) → AreBytes bytes → AreBytes (drop k bytes)
drop_bytes k bytes all = behind_are (take k bytes) (drop k bytes) (subst AreBytes (sym (take-append-drop k bytes)) all)

versions_spelled : (end at : ℕ) (columns : List Column) (bytes : List ℕ) (part : List Version) → AreBytes bytes → versions_in end at columns bytes ≡ Ok part → bytes ≡ pack columns part
unfolding versions_in
versions_spelled end at columns bytes part all e = by (has_room bytes) e
  where
    by : (room : Bool) → cond room (pack_at end columns bytes >>= λ vs. cond (rise vs) (Ok vs) (Err (Damaged at))) (Err (Damaged at)) ≡ Ok part → bytes ≡ pack columns part
    by false h = cc h
    by true h =
        let a = bind_ok (pack_at end columns bytes) _ part h in
        let b = if_ok (rise a.0) a.0 part (Damaged at) a.2 in
        pack_spelled columns end bytes a.0 all a.1 ∙ ap (pack columns) b.1

-- the bytes where a pack stands, and what its entry tells
told_spelled : (columns : List Column) (content : List ℕ) (p : Pack) (part : List Version) → AreBytes content → told_in p columns content ≡ Ok part → (take p.len (drop p.place content) ≡ pack columns part) × (is_as_told p part ≡ true)
unfolding told_at
told_spelled columns content p part all e =
    let bytes = take p.len (drop p.place content) in
    let a = bind_ok (versions_in (reached p.place bytes) p.place columns bytes) _ part e in
    let b = if_ok (is_as_told p a.0) a.0 part (Damaged p.place) a.2 in
    let is = versions_spelled (reached p.place bytes) p.place columns bytes a.0 (front_bytes p.len (drop p.place content) (drop_bytes p.place content all)) a.1 in
    (is ∙ ap (pack columns) b.1, subst (λ vs. is_as_told p vs ≡ true) b.1 b.0)

-- ---- all packs

lie_le : (stop place : ℕ) (packs : List Pack) → Lie stop place packs → place ≤ stop
lie_le stop place [] lie = omega (arith, lie)
lie_le stop place (p ∷ packs) lie = (let rest = lie_le stop (place + p.len) packs lie.1 in omega (arith, rest))

module _ (columns : List Column) (content : List ℕ) (stop : ℕ) (all : AreBytes content) (within : stop ≤ length content) where
  -- the packs' bytes, and what stands behind them
  packs_stand : (place : ℕ) (packs : List Pack) (parts : List (List Version)) → Lie stop place packs → AreReadAs columns content packs parts → drop place content ≡ flat_map (pack columns) parts ++ drop stop content
  packs_stand place [] [] lie read = ap (λ n. drop n content) lie
  packs_stand place [] (part ∷ parts) lie read = absurd read
  packs_stand place (p ∷ packs) [] lie read = absurd read
  packs_stand place (p ∷ packs) (part ∷ parts) lie read =
      let one = (told_spelled columns content p part all read.0).0 in
      let here : take p.len (drop place content) ≡ pack columns part = ap (λ n. take p.len (drop n content)) (sym lie.0) ∙ one in
      let rest : drop p.len (drop place content) ≡ flat_map (pack columns) parts ++ drop stop content = drop-drop p.len place content ∙ packs_stand (place + p.len) packs parts lie.1 read.1 in
      sym (take-append-drop p.len (drop place content)) ∙ (λ i. here i ++ rest i) ∙ sym (append_assoc (pack columns part) (flat_map (pack columns) parts) (drop stop content))

  entries_are : (place : ℕ) (packs : List Pack) (parts : List (List Version)) → Lie stop place packs → HaveRanges columns packs → AreReadAs columns content packs parts → flat_map (entry_spelled columns) packs ≡ entries columns place parts
  entries_are place [] [] lie many read = refl
  entries_are place [] (part ∷ parts) lie many read = absurd read
  entries_are place (p ∷ packs) [] lie many read = absurd read
  entries_are place (p ∷ packs) (part ∷ parts) lie many read =
      let one = told_spelled columns content p part all read.0 in
      let at = lie.0 in
      let reach = lie_le stop (place + p.len) packs lie.1 in
      let long : p.len ≡ length (pack columns part) = full (omega (arith, at, reach, within)) ∙ ap length one.0 in
      let first = entry_is columns place p part at long many.0 one.1 in
      let rest = entries_are (place + p.len) packs parts lie.1 many.1 read.1 in
      (λ i. first i ++ rest i) ∙ ap (λ n. entry_spelled_at n) long
    where
      full : p.place + p.len ≤ length content → p.len ≡ length (take p.len (drop p.place content))
      full h = omega (arith, length-take p.len (drop p.place content), length-drop p.place content, h)

      entry_spelled_at : ℕ → List ℕ
      entry_spelled_at n = entry columns place part ++ entries columns (place + n) parts

  as_many : (packs : List Pack) (parts : List (List Version)) → AreReadAs columns content packs parts → length packs ≡ length parts
  as_many [] [] read = refl
  as_many [] (part ∷ parts) read = absurd read
  as_many (p ∷ packs) [] read = absurd read
  as_many (p ∷ packs) (part ∷ parts) read = ap suc (as_many packs parts read.1)

-- ---- the footer

packs_some : (end : ℕ) (bytes : List ℕ) (n : ℕ) → packs_at end bytes ≡ Ok n → 0 < n
unfolding packs_at
packs_some end bytes n e = (let a = bind_ok (number_at w64 (Damaged end) bytes) _ n e in by a.0.0 (a.0.0 == 0) refl a.2)
  where
    some : (m : ℕ) → (m == 0) ≡ false → 0 < m
    some m h = grind arith

    by : (m : ℕ) (b : Bool) → (m == 0) ≡ b → cond b (Err (here end bytes)) (Ok m) ≡ Ok n → 0 < n
    by m true is h = cc h
    by m false is h = subst (λ k. 0 < k) (ok_is m n h) (some m is)

footer_lies : (end : ℕ) (columns : List Column) (bytes : List ℕ) (packs : List Pack) → 4 ≤ end - length bytes → footer_at end columns bytes ≡ Ok packs → Lie (end - length bytes) 4 packs × HaveRanges columns packs
unfolding footer_at entries_at
footer_lies end columns bytes packs room e =
    let stop = end - length bytes in
    let n = bind_ok (packs_at end (drop (length bytes - 8) bytes)) _ packs e in
    let m = bind_ok (so_many (pack_entry_at (end - 8) stop columns) behind n.0 (first n.0) (take (length bytes - 8) bytes)) _ packs n.2 in
    let d = bind_ok (ended (end - 8) m.0.1) _ packs m.2 in
    let lie = entries_lie (end - 8) stop columns n.0 (first n.0) (take (length bytes - 8) bytes) m.0 (packs_some end (drop (length bytes - 8) bytes) n.0 n.1) refl room m.1 in
    subst (λ (ps : List Pack). Lie stop 4 ps × HaveRanges columns ps) (ok_is _ packs d.2) lie

-- ---- the last twelve bytes

nothing : (xs : List ℕ) → length xs ≡ 0 → xs ≡ []
nothing [] e = refl
nothing (x ∷ xs) e = absurd (omega (arith, e))

record Ends (len front : ℕ) (last : List ℕ) (size : ℕ) : Type 0 where
  is : last ≡ to_be_bytes w64 size ++ to_be_bytes w32 end_magic
  room : size + 16 ≤ len
  within : size ≤ front

last_spelled : (len front : ℕ) (last : List ℕ) (size : ℕ) → AreBytes last → length last ≡ 12 → size_at len front last ≡ Ok size → Ends len front last size
unfolding size_at
last_spelled len front last size all long e =
    let n = bind_ok (number_at w64 (Damaged len) last) _ size e in
    let m = bind_ok (number_at w32 (Damaged len) n.0.1) _ size n.2 in
    let one = u64_spelled (Damaged len) last n.0 n.1 all in
    let two = u32_spelled (Damaged len) n.0.1 m.0 m.1 (behind_are (to_be_bytes w64 n.0.0) n.0.1 (subst AreBytes one all)) in
    let eight : length (to_be_bytes w64 n.0.0) ≡ 8 = refl in
    let four : length (to_be_bytes w32 m.0.0) ≡ 4 = refl in
    let none : m.0.1 ≡ [] = nothing m.0.1 (omega (arith, long, ap length one, ap length two, eight, four, length-append (to_be_bytes w64 n.0.0) n.0.1, length-append (to_be_bytes w32 m.0.0) m.0.1)) in
    let whole : last ≡ to_be_bytes w64 n.0.0 ++ to_be_bytes w32 m.0.0 = one ∙ ap (λ xs. to_be_bytes w64 n.0.0 ++ xs) (two ∙ ap (λ xs. to_be_bytes w32 m.0.0 ++ xs) none ∙ append-nil (to_be_bytes w32 m.0.0)) in
    by n.0.0 m.0.0 whole (may_have_size len front n.0.0) (m.0.0 == end_magic) refl refl m.2
  where
    eq_is : (a b : ℕ) → (a == b) ≡ true → a ≡ b
    eq_is a b h = grind arith

    le_is : (a b : ℕ) → nat_le a b ≡ true → a ≤ b
    le_is a b h = grind arith

    by : (n m : ℕ) → last ≡ to_be_bytes w64 n ++ to_be_bytes w32 m → (may same : Bool) → may_have_size len front n ≡ may → (m == end_magic) ≡ same → cond may (cond same (Ok n) (Err (Damaged (len - 4)))) (Err (Damaged (len - 12))) ≡ Ok size → Ends len front last size
    by n m is false same fits magics h = cc h
    by n m is true false fits magics h = cc h
    by n m is true true fits magics h =
        let both = and_right (nat_le 8 n) (nat_le (n + 16) len && nat_le n front) fits in
        subst (Ends len front last) (ok_is n size h)
        (record {
          is = is ∙ ap (λ k. to_be_bytes w64 n ++ to_be_bytes w32 k) (eq_is m end_magic magics);
          room = le_is (n + 16) len (and_left (nat_le (n + 16) len) (nat_le n front) both);
          within = le_is n front (and_right (nat_le (n + 16) len) (nat_le n front) both);
        })

-- ---- the file

front_is : (columns : List Column) (parts : List (List Version)) → drop 4 (file_of columns parts) ≡ flat_map (pack columns) parts ++ ending (footer columns parts)
unfolding file_of
front_is columns parts = drop-append_seam (to_be_bytes w32 magic) (flat_map (pack columns) parts ++ ending (footer columns parts))

footer_is : (columns : List Column) (packs : List Pack) (parts : List (List Version)) → flat_map (entry_spelled columns) packs ≡ entries columns 4 parts → length packs ≡ length parts → footer_spelled columns packs ≡ footer columns parts
unfolding footer
footer_is columns packs parts same many = (λ i. same i ++ to_be_bytes w64 (many i))

ending_is : (bytes other : List ℕ) (size : ℕ) → bytes ≡ other → length bytes ≡ size → bytes ++ (to_be_bytes w64 size ++ to_be_bytes w32 end_magic) ≡ ending other
unfolding ending
ending_is bytes other size is long = ap (λ n. bytes ++ (to_be_bytes w64 n ++ to_be_bytes w32 end_magic)) (sym long) ∙ ap (λ (xs : List ℕ). xs ++ (to_be_bytes w64 (length xs) ++ to_be_bytes w32 end_magic)) is

module _ (one_footer : FootersHaveOneSpelling) (columns : List Column) (content : List ℕ) (packs : List Pack) (parts : List (List Version)) (all : AreBytes content) (read : AreReadAs columns content packs parts) where
  abbrev len : ℕ
  len = length content

  abbrev front : List ℕ
  front = take (len - 12) content

  abbrev last : List ℕ
  last = drop (len - 12) content

  from_size : (size : ℕ) → 12 ≤ len → Ends len (length front) last size → footer_at (len - 12) columns (drop (length front - size) front) ≡ Ok packs → drop 4 content ≡ drop 4 (file_of columns parts)
  from_size size some ends told =
      let room = ends.room in
      let within = ends.within in
      let bytes = drop (length front - size) front in
      let front_len : length front ≡ len - 12 = omega (arith, length-take (len - 12) content, some) in
      let long : length bytes ≡ size = omega (arith, length-drop (length front - size) front, within) in
      let stop = len - 12 - length bytes in
      let lies = footer_lies (len - 12) columns bytes packs (omega (arith, long, room)) told in
      let reach : stop ≤ len = omega arith in
      let place : length front - size ≡ stop = omega (arith, front_len, long) in
      let whole : front ++ last ≡ content = take-append-drop (len - 12) content in
      let behind_packs : drop stop content ≡ bytes ++ last = ap (drop stop) (sym whole) ∙ drop-append-le stop front last (omega (arith, place)) ∙ ap (λ n. drop n front ++ last) (sym place) in
      let bytes_are : AreBytes bytes = drop_bytes (length front - size) front (front_bytes (len - 12) content all) in
      let spelled : bytes ≡ footer columns parts = one_footer columns (len - 12) bytes packs bytes_are told ∙ footer_is columns packs parts (entries_are columns content stop all reach 4 packs parts lies.0 lies.1 read) (as_many columns content stop all reach packs parts read) in
      let tail : bytes ++ last ≡ ending (footer columns parts) = ap (λ xs. bytes ++ xs) ends.is ∙ ending_is bytes (footer columns parts) size spelled long in
      packs_stand columns content stop all reach 4 packs parts lies.0 read ∙ ap (λ xs. flat_map (pack columns) parts ++ xs) (behind_packs ∙ tail) ∙ sym (front_is columns parts)

  from_tail : tail_at len columns content ≡ Ok packs → drop 4 content ≡ drop 4 (file_of columns parts)
  unfolding tail_at
  from_tail e = by (nat_lt len 12) refl e
    where
      le_is : (n : ℕ) → nat_lt n 12 ≡ false → 12 ≤ n
      le_is n h = grind arith

      by : (b : Bool) → nat_lt len 12 ≡ b → cond b (Err (Damaged len)) (size_at len (length front) last >>= λ size. footer_at (len - 12) columns (drop (length front - size) front)) ≡ Ok packs → drop 4 content ≡ drop 4 (file_of columns parts)
      by true is h = cc h
      by false is h =
          let some = le_is len is in
          let s = bind_ok (size_at len (length front) last) _ packs h in
          let twelve : length last ≡ 12 = omega (arith, length-drop (len - 12) content, some) in
          from_size s.0 some (last_spelled len (length front) last s.0 (drop_bytes (len - 12) content all) twelve s.1) s.2

pub whole_spelled : FootersHaveOneSpelling → FilesHaveOneSpelling
whole_spelled one_footer columns content packs parts is = from_tail one_footer columns content packs parts is.bytes is.read is.footer

pub equal_files : FilesHaveOneSpelling → EqualReadsAreOfEqualFiles
equal_files spelled columns one two packs others parts first second = spelled columns one packs parts first ∙ sym (spelled columns two others parts second)
