-- The last bytes of a stable file, put together of its footer and what stands behind it.
use Rattle.std.proofs.Common.{◌≡◌, ◌∙◌, inr, ℕ, ◌+◌, ◌-◌, ◌<◌, ◌≤◌, Bool, true, false, cond, ◌&&◌, nat_le, nat_lt, List, [], ◌∷◌, ◌++◌, length, take, drop, Result, Ok, Err, refl, sym, ap, subst, length-append, length-take, length-drop, arith}
use Rattle.std.proofs.lemmas.List.{drop-drop, take-append-drop, take_all}
use Rattle.std.proofs.Math.Seq.{drop-append_seam}
use Rattle.std.specs.Int.{Width, byte_len, w32, w64, from_be_bytes}
use Rattle.std.specs.Prelude.{◌==◌}
use Rattle.flash_io.specs.Image.{Image, Holds}
use Rattle.flash_list.specs.Steps.{◌>>=◌}
use Rattle.flash_list.specs.Fields.{number_at}
use Rattle.column_block.specs.declared.column.Column.{Column}
use Rattle.pack_codec.specs.declared.fault.FormError.{FormError}
use Rattle.pack_codec.specs.declared.fault.FormError.TheVariants as form
use Rattle.pack_codec.proofs.Binds.{bind_ok, ok_is}
use Rattle.stable_file.specs.declared.pack.Pack.{Pack}
use Rattle.stable_file.specs.Footer.{end_magic, footer_at, may_have_size, size_at, tail_at}
use Rattle.stable_file.specs.Opened.{HasEnd, IsTailOf, told_size}
use Rattle.opened_segments.specs.Faults.{IsFaultOf, IsFirst, reading_faults}
use Rattle.opened_segments.specs.Tails.{HasSlice, IsSizeFault, IsTail, IsTailFault, OfContent}
use Rattle.opened_segments.specs.declared.fault.OpenFault.{OpenFault}
use Rattle.opened_segments.specs.declared.fault.OpenFault.TheVariants.{Damaged, Device, Memory}

-- ---- the length that the last twelve bytes tell

enough : {E : Type 0} (width : Width) (fault : E) (bytes : List ℕ) (x : ℕ × List ℕ) → number_at width fault bytes ≡ Ok x → (byte_len width ≤ length bytes) × (from_be_bytes width (take (byte_len width) bytes) ≡ x.0) × (drop (byte_len width) bytes ≡ x.1)
unfolding number_at
enough width fault bytes x e = by (nat_lt (length bytes) (byte_len width)) refl e
  where
    by : (b : Bool) → nat_lt (length bytes) (byte_len width) ≡ b → cond b (Err fault) (Ok (from_be_bytes width (take (byte_len width) bytes), drop (byte_len width) bytes)) ≡ Ok x → (byte_len width ≤ length bytes) × (from_be_bytes width (take (byte_len width) bytes) ≡ x.0) × (drop (byte_len width) bytes ≡ x.1)
    by true is h = absurd (cc h)
    by false is h = (let same = ok_is _ x h in (grind (arith, is), ap (λ (p : ℕ × List ℕ). p.0) same, ap (λ (p : ℕ × List ℕ). p.1) same))

-- a length that was told was told in twelve bytes, and stands in the first eight
pub size_told : (len F : ℕ) (last : List ℕ) (size : ℕ) → size_at len F last ≡ Ok size → (12 ≤ length last) × (from_be_bytes w64 (take 8 last) ≡ size)
unfolding size_at
size_told len F last size e =
    let a = bind_ok (number_at w64 (form.Damaged len) last) _ size e in
    let b = bind_ok (number_at w32 (form.Damaged len) a.0.1) _ size a.2 in
    let first = enough w64 (form.Damaged len) last a.0 a.1 in
    let second = enough w32 (form.Damaged len) a.0.1 b.0 b.1 in
    let behind : length last - 8 ≡ length a.0.1 = sym (length-drop 8 last) ∙ ap length first.2 in
    let four = second.0 in
    (omega (arith, behind, four), first.1 ∙ by a.0.0 (may_have_size len F a.0.0) (b.0.0 == end_magic) b.2)
  where
    by : (n : ℕ) (s t : Bool) → cond s (cond t (Ok n) (Err (form.Damaged (len - 4)))) (Err (form.Damaged (len - 12))) ≡ Ok size → n ≡ size
    by n true true h = cc h
    by n true false h = absurd (cc h)
    by n false t h = absurd (cc h)

-- ---- what the whole file is then

-- a fault of the length is one of the file
pub size_refused : (columns : List Column) (content : List ℕ) (e : FormError) → 12 ≤ length content → size_at (length content) (length content - 12) (drop (length content - 12) content) ≡ Err e → tail_at (length content) columns content ≡ Err e
unfolding tail_at
size_refused columns content e long refused =
    let front : length (take (length content - 12) content) ≡ length content - 12 = length-take (length content - 12) content ∙ omega arith in
    by (nat_lt (length content) 12) (grind (arith, long)) (ap (λ (n : ℕ). size_at (length content) n (drop (length content - 12) content)) front ∙ refused)
  where
    by : (b : Bool) → b ≡ false → size_at (length content) (length (take (length content - 12) content)) (drop (length content - 12) content) ≡ Err e
        → cond b (Err (form.Damaged (length content))) (size_at (length content) (length (take (length content - 12) content)) (drop (length content - 12) content) >>= λ size. footer_at (length content - 12) columns (drop (length (take (length content - 12) content) - size) (take (length content - 12) content))) ≡ Err e
    by true is h = absurd (cc is)
    by false is h = ap (λ (r : Result ℕ FormError). r >>= λ size. footer_at (length content - 12) columns (drop (length (take (length content - 12) content) - size) (take (length content - 12) content))) h

pub short_refused : (columns : List Column) (content : List ℕ) → length content < 12 → tail_at (length content) columns content ≡ Err (form.Damaged (length content))
unfolding tail_at
short_refused columns content short = by (nat_lt (length content) 12) (grind (arith, short)) _
  where
    by : (b : Bool) → b ≡ true → (r : Result (List Pack) FormError) → cond b (Err (form.Damaged (length content))) r ≡ Err (form.Damaged (length content))
    by true is r = refl
    by false is r = absurd (cc is)

-- ---- as faults of a file

-- where one reading fails as the other does, a fault of the one is a fault of the other
pub same_fault : {X Y : Type 0} (file : ℕ) (r : Result X FormError) (q : Result Y FormError) (e : OpenFault) → ((f : FormError) → r ≡ Err f → q ≡ Err f) → IsFaultOf (reading_faults file r) e → IsFaultOf (reading_faults file q) e
same_fault file r q Device fails h = tt
same_fault file r q Memory fails h = tt
same_fault file (Ok x) q (Damaged f at) fails h = absurd (cc h.1)
same_fault file (Err (form.Damaged place)) q (Damaged f at) fails h = subst (λ (s : Result _ FormError). IsFirst (Damaged f at) (reading_faults file s)) (sym (fails (form.Damaged place) refl)) h
same_fault file (Err form.Memory) q (Damaged f at) fails h = absurd (cc h.1)

module _ (c : Image) (file len : ℕ) where
  one_content : (content other : List ℕ) → Holds c file content → Holds c file other → content ≡ other
  one_content content other here there = cc (sym here ∙ there)

  -- the fault of the length is one of the file
  pub sized_refused : (last : List ℕ) (e : OpenFault) → 12 ≤ len → HasSlice c file (len - 12) 12 last → IsSizeFault file len last e → IsTailFault c file len e
  sized_refused last e some (other, there, is) fault columns content here whole =
      let same : other ≡ content = one_content other content there here in
      let long : 12 ≤ length content = omega (arith, some, whole) in
      let all : last ≡ drop (len - 12) content =
      is ∙ ap (λ (b : List ℕ). take 12 (drop (len - 12) b)) same ∙ take_all 12 (drop (len - 12) content) (let n = length-drop (len - 12) content in omega (arith, n, whole)) in
      same_fault file (size_at len (len - 12) last) (tail_at len columns content) e
      (λ f failed. ap (λ (n : ℕ). tail_at n columns content) (sym whole) ∙ size_refused columns content f long
      (ap (λ (n : ℕ). size_at n (n - 12) (drop (n - 12) content)) whole ∙ ap (size_at len (len - 12)) (sym all) ∙ failed)) fault

  -- so few bytes have no footer
  pub too_short : len < 12 → IsTailFault c file len (Damaged file len)
  too_short short columns content here whole =
      let few : length content < 12 = omega (arith, short, whole) in
      ([], ap (reading_faults file) (ap (λ (n : ℕ). tail_at n columns content) (sym whole) ∙ short_refused columns content few ∙ ap (λ (n : ℕ). Err (form.Damaged n)) whole))

  -- a footer isn't shorter than it is told
  pub never_cut : (size : ℕ) (footer : List ℕ) (e : OpenFault) → size ≤ len - 12 → 12 ≤ len → HasSlice c file (len - 12 - size) size footer → length footer < size → IsTailFault c file len e
  never_cut size footer e fits some (other, there, is) cut columns content here whole =
      let same : other ≡ content = one_content other content there here in
      let n : length footer ≡ size =
      ap length (is ∙ ap (λ (b : List ℕ). take size (drop (len - 12 - size) b)) same) ∙ length-take size (drop (len - 12 - size) content)
      ∙ (let rest = length-drop (len - 12 - size) content in omega (arith, rest, whole, fits, some)) in
      absurd (omega (arith, n, cut))

  -- the footer and the last bytes are the end of the file
  pub ends_so : (size : ℕ) (footer last tail : List ℕ) → size ≤ len - 12 → 12 ≤ len → HasSlice c file (len - 12 - size) size footer → HasSlice c file (len - 12) 12 last → tail ≡ footer ++ last → OfContent c file len (IsTailOf len tail)
  ends_so size footer last tail fits some (one, in_one, front) (two, in_two, back) is content here whole =
      let whole_front : footer ≡ take size (drop (len - 12 - size) content) = front ∙ ap (λ (b : List ℕ). take size (drop (len - 12 - size) b)) (one_content one content in_one here) in
      let whole_back : last ≡ drop (len - 12) content =
      back ∙ ap (λ (b : List ℕ). take 12 (drop (len - 12) b)) (one_content two content in_two here) ∙ take_all 12 (drop (len - 12) content) (let n = length-drop (len - 12) content in omega (arith, n, whole)) in
      let behind : drop (len - 12) content ≡ drop size (drop (len - 12 - size) content) = ap (λ (n : ℕ). drop n content) (omega (arith, fits, some)) ∙ sym (drop-drop size (len - 12 - size) content) in
      let all : tail ≡ drop (len - 12 - size) content = is ∙ (λ i. whole_front i ++ (whole_back ∙ behind) i) ∙ take-append-drop size (drop (len - 12 - size) content) in
      let n : length tail ≡ size + 12 = ap length all ∙ length-drop (len - 12 - size) content ∙ omega (arith, whole, fits, some) in
      record { whole = whole; ends = ap (λ (k : ℕ). drop k content) (let at : len - length tail ≡ len - 12 - size = omega (arith, n, fits, some) in at) ∙ sym all }

-- From so many bytes a footer may be read, whatever they are.
pub tail_may_be_read : (len size : ℕ) (footer last tail : List ℕ) → size ≤ len - 12 → 12 ≤ len → length footer ≤ size → size ≤ length footer → length last ≤ 12 → size_at len (len - 12) last ≡ Ok size → tail ≡ footer ++ last → IsTail len tail
tail_may_be_read len size footer last tail fits some most least few told is =
    let size_is = size_told len (len - 12) last size told in
    let twelve = size_is.0 in
    let n : length tail ≡ length footer + length last = ap length is ∙ length-append footer last in
    let at : length tail - 12 ≡ length footer = omega (arith, n, twelve, few) in
    let last_is : drop (length tail - 12) tail ≡ last = (λ i. drop (at i) (is i)) ∙ drop-append_seam footer last in
    let tells : told_size tail ≡ size = ap (λ (xs : List ℕ). from_be_bytes w64 (take 8 xs)) last_is ∙ size_is.1 in
    record { shorter = omega (arith, n, most, few, fits, some); footer = inr (omega (arith, n, twelve), omega (arith, n, twelve, least, tells)) }
