-- The last bytes of a file tell the packs that the whole file tells.
use Rattle.std.proofs.Common.{◌≡◌, ◌∙◌, inl, inr, sym, ap, ℕ, ◌+◌, ◌-◌, ◌≤◌, Bool, true, false, cond, ◌&&◌, nat_le, nat_lt, List, length, take, drop, length-take, length-drop, Ok, Err, arith}
use Rattle.std.proofs.lemmas.Bool.{le-ltb}
use Rattle.std.proofs.lemmas.List.{drop-drop, drop-take}
use Rattle.std.specs.Prelude.{◌==◌}
use Rattle.std.specs.Int.{Width, byte_len, w32, w64, from_be_bytes}
use Rattle.flash_list.specs.Steps.{◌>>=◌}
use Rattle.flash_list.specs.Fields.{number_at}
use Rattle.column_block.specs.declared.column.Column.{Column}
use Rattle.pack_codec.specs.declared.fault.FormError.TheVariants.{Damaged}
use Rattle.stable_file.specs.Footer.{end_magic, may_have_size, size_at, footer_at, tail_at}
use Rattle.stable_file.specs.Opened.{IsTailOf, HasEnd, told_size}
use Rattle.pack_codec.proofs.Binds.{bind_ok, bind_same, ok_is}

number_is : {E : Type 0} (width : Width) (fault : E) (bytes : List ℕ) (x : ℕ × List ℕ) → number_at width fault bytes ≡ Ok x → from_be_bytes width (take (byte_len width) bytes) ≡ x.0
unfolding number_at
number_is width fault bytes x e = by (nat_lt (length bytes) (byte_len width)) e
  where
    by : (b : Bool) → cond b (Err fault) (Ok (from_be_bytes width (take (byte_len width) bytes), drop (byte_len width) bytes)) ≡ Ok x → from_be_bytes width (take (byte_len width) bytes) ≡ x.0
    by true h = cc h
    by false h = ap (λ (p : ℕ × List ℕ). p.0) (ok_is _ x h)

le_true : (a b : ℕ) → a ≤ b → nat_le a b ≡ true
le_true a b e = grind arith

-- The size may stand there or not, whatever the number of bytes at hand, if these reach to the footer's first byte.
size_same : (len F H : ℕ) (last : List ℕ) → from_be_bytes w64 (take 8 last) ≤ F → from_be_bytes w64 (take 8 last) ≤ H → size_at len F last ≡ size_at len H last
unfolding size_at
size_same len F H last low high = bind_same (number_at w64 (Damaged len) last) _ _ (λ size is.
    let told : from_be_bytes w64 (take 8 last) ≡ size.0 = number_is w64 (Damaged len) last size is in
    let may : may_have_size len F size.0 ≡ may_have_size len H size.0 = ap (λ b. nat_le 8 size.0 && (nat_le (size.0 + 16) len && b)) (le_true size.0 F (omega (arith, told, low)) ∙ sym (le_true size.0 H (omega (arith, told, high)))) in
    bind_same (number_at w32 (Damaged len) size.1) _ _ (λ magic there. ap (λ b. cond b (cond (magic.0 == end_magic) (Ok size.0) (Err (Damaged (len - 4)))) (Err (Damaged (len - 12)))) may))

size_is : (len F : ℕ) (last : List ℕ) (size : ℕ) → size_at len F last ≡ Ok size → from_be_bytes w64 (take 8 last) ≡ size
unfolding size_at
size_is len F last size e =
    let a = bind_ok (number_at w64 (Damaged len) last) _ size e in
    let b = bind_ok (number_at w32 (Damaged len) a.0.1) _ size a.2 in
    number_is w64 (Damaged len) last a.0 a.1 ∙ by a.0.0 (may_have_size len F a.0.0) (b.0.0 == end_magic) b.2
  where
    by : (n : ℕ) (s t : Bool) → cond s (cond t (Ok n) (Err (Damaged (len - 4)))) (Err (Damaged (len - 12))) ≡ Ok size → n ≡ size
    by n true true h = cc h
    by n true false h = cc h
    by n false t h = cc h

module _ (len : ℕ) (columns : List Column) (tail bytes : List ℕ) (is : IsTailOf len tail bytes) where
  short : length tail ≤ len
  short = (let n : length tail ≡ length bytes - (len - length tail) = ap length (sym is.ends) ∙ length-drop (len - length tail) bytes in let w = is.whole in omega (arith, n, w))

  behind : (i j : ℕ) → i ≤ length tail → j ≡ len - length tail + i → drop i tail ≡ drop j bytes
  behind i j le sum = ap (drop i) (sym is.ends) ∙ drop-drop i (len - length tail) bytes ∙ ap (λ n. drop n bytes) (sym sum)

  module _ (some : 12 ≤ length tail) (end : told_size tail + 12 ≤ length tail) where
    last : drop (length tail - 12) tail ≡ drop (length bytes - 12) bytes
    last = (let w = is.whole in let s = short in behind (length tail - 12) (length bytes - 12) (omega arith) (omega (arith, w, s, some)))

    front : (xs : List ℕ) → length (take (length xs - 12) xs) ≡ length xs - 12
    front xs = length-take (length xs - 12) xs ∙ omega arith

    footer_same : (size : ℕ) → size + 12 ≤ length tail → drop (length (take (length tail - 12) tail) - size) (take (length tail - 12) tail) ≡ drop (length (take (length bytes - 12) bytes) - size) (take (length bytes - 12) bytes)
    footer_same size fits =
        let w = is.whole in
        let s = short in
        part tail size fits
        ∙ ap (take size) (behind (length tail - 12 - size) (length bytes - 12 - size) (omega arith) (omega (arith, w, s, fits)))
        ∙ sym (part bytes size (omega (arith, w, s, fits)))
      where
        part : (xs : List ℕ) (size : ℕ) → size + 12 ≤ length xs → drop (length (take (length xs - 12) xs) - size) (take (length xs - 12) xs) ≡ take size (drop (length xs - 12 - size) xs)
        part xs size fits =
            let f = front xs in
            let a : length (take (length xs - 12) xs) - size ≡ length xs - 12 - size = omega (arith, f) in
            let b : length xs - 12 ≡ length xs - 12 - size + size = omega (arith, fits) in
            (λ i. drop (a i) (take (b i) xs)) ∙ drop-take (length xs - 12 - size) size xs

    long : tail_at len columns tail ≡ tail_at len columns bytes
    unfolding tail_at
    long =
        let w = is.whole in
        let s = short in
        let ft = front tail in
        let fb = front bytes in
        let told : from_be_bytes w64 (take 8 (drop (length bytes - 12) bytes)) ≡ told_size tail = ap (λ xs. from_be_bytes w64 (take 8 xs)) (sym last) in
        ap (λ b. cond b (Err (Damaged len)) (size_at len (length (take (length tail - 12) tail)) (drop (length tail - 12) tail) >>= λ size. footer_at (len - 12) columns (drop (length (take (length tail - 12) tail) - size) (take (length tail - 12) tail)))) (le-ltb (length tail) 12 some)
        ∙ ap (λ xs. size_at len (length (take (length tail - 12) tail)) xs >>= λ size. footer_at (len - 12) columns (drop (length (take (length tail - 12) tail) - size) (take (length tail - 12) tail))) last
        ∙ ap (λ r. r >>= λ size. footer_at (len - 12) columns (drop (length (take (length tail - 12) tail) - size) (take (length tail - 12) tail))) (size_same len (length (take (length tail - 12) tail)) (length (take (length bytes - 12) bytes)) (drop (length bytes - 12) bytes) (omega (arith, told, end, ft)) (omega (arith, told, end, fb, w, s)))
        ∙ bind_same (size_at len (length (take (length bytes - 12) bytes)) (drop (length bytes - 12) bytes)) _ _ (λ size there. ap (footer_at (len - 12) columns) (let n = size_is len (length (take (length bytes - 12) bytes)) (drop (length bytes - 12) bytes) size there in footer_same size (omega (arith, n, told, end))))
        ∙ sym (ap (λ b. cond b (Err (Damaged len)) (size_at len (length (take (length bytes - 12) bytes)) (drop (length bytes - 12) bytes) >>= λ size. footer_at (len - 12) columns (drop (length (take (length bytes - 12) bytes) - size) (take (length bytes - 12) bytes)))) (le-ltb (length bytes) 12 (omega (arith, w, s, some))))

  whole : length tail ≡ len → tail ≡ bytes
  whole same = sym is.ends ∙ ap (λ n. drop n bytes) (let n : len - length tail ≡ 0 = omega (arith, same) in n)

  -- A file's last bytes tell the packs that the whole file tells, whatever the bytes.
  pub tail_same : HasEnd len tail → tail_at len columns tail ≡ tail_at len columns bytes
  tail_same (inl all) = ap (tail_at len columns) (whole all)
  tail_same (inr end) = long end.0 end.1
