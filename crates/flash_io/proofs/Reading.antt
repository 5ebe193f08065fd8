-- A source that was read in part.
use Rattle.std.proofs.Common.{◌≡◌, ℕ, ◌≤◌, ◌<◌, ◌+◌, List, [], ◌++◌, length, Option, refl, sym, ◌∙◌, ap, append_assoc, length-append, arith}
use Rattle.std.specs.Io.KnownBytes.{Consumes, IsAtEnd}
use Rattle.std.proofs.KnownBytes.{Consumes-nil, Consumes-trans}
use Rattle.std.proofs.lemmas.List.{append-nil}
use Rattle.flash_io.specs.Streams.{ReadsAll, ReadsPast, ReadsWithin}

-- so many bytes were read, and stand at the end of the buffer
pub record ReadSoFar (taken : ℕ) (left left' : Option (List ℕ)) (old new : List ℕ) : Type 0 where
  pub bytes : List ℕ
  pub appended : new ≡ old ++ bytes
  pub consumed : Consumes left left' bytes
  pub len : length bytes ≡ taken

pub nothing_read : (left : Option (List ℕ)) (old : List ℕ) → ReadSoFar 0 left left old old
nothing_read left old = record { bytes = []; appended = sym (append-nil old); consumed = Consumes-nil left; len = refl }

pub read_on : (taken count : ℕ) (left left' left'' : Option (List ℕ)) (old mid new piece : List ℕ) → ReadSoFar taken left left' old mid → Consumes left' left'' piece → length piece ≡ count → new ≡ mid ++ piece → ReadSoFar (taken + count) left left'' old new
read_on taken count left left' left'' old mid new piece so_far consumed len grown = record {
  bytes = so_far.bytes ++ piece;
  appended = grown ∙ ap (λ (xs : List ℕ). xs ++ piece) so_far.appended ∙ append_assoc old so_far.bytes piece;
  consumed = Consumes-trans left left' left'' so_far.bytes piece so_far.consumed consumed;
  len = omega (arith, length-append so_far.bytes piece, so_far.len);
}

pub read_past : (taken count limit : ℕ) (left left' left'' : Option (List ℕ)) (old mid piece : List ℕ) → ReadSoFar taken left left' old mid → Consumes left' left'' piece → length piece ≡ count → limit < taken + count → ReadsPast limit left left''
read_past taken count limit left left' left'' old mid piece so_far consumed len past = record {
  bytes = so_far.bytes ++ piece;
  consumed = Consumes-trans left left' left'' so_far.bytes piece so_far.consumed consumed;
  past = omega (arith, length-append so_far.bytes piece, so_far.len);
}

pub read_all : (taken limit : ℕ) (left left' left'' : Option (List ℕ)) (old new : List ℕ) → ReadSoFar taken left left' old new → Consumes left' left'' [] → IsAtEnd left'' → taken ≤ limit → ReadsAll limit left left'' old new
read_all taken limit left left' left'' old new so_far consumed ended within = record {
  bytes = so_far.bytes ++ [];
  appended = so_far.appended ∙ ap (λ (xs : List ℕ). old ++ xs) (sym (append-nil so_far.bytes));
  consumed = Consumes-trans left left' left'' so_far.bytes [] so_far.consumed consumed;
  within = omega (arith, length-append {A = ℕ} so_far.bytes [], so_far.len);
  ended = ended;
}

pub read_on_within : (taken count limit : ℕ) (left left' left'' : Option (List ℕ)) (old mid piece : List ℕ) → ReadSoFar taken left left' old mid → Consumes left' left'' piece → length piece ≡ count → taken + count ≤ limit → ReadsWithin limit left left''
read_on_within taken count limit left left' left'' old mid piece so_far consumed len within = record {
  bytes = so_far.bytes ++ piece;
  consumed = Consumes-trans left left' left'' so_far.bytes piece so_far.consumed consumed;
  within = omega (arith, length-append so_far.bytes piece, so_far.len);
}
