-- What a crash leaves of a gated file in each step of a commit.
use Rattle.std.proofs.Common.{◌≡◌, inl, inr, ℕ, ◌+◌, List, [], ◌∷◌, ◌++◌, length, get_or, take, drop, Option, Some, refl, sym, ◌∙◌, ap, subst, arith, append_assoc, length-append, take-append-drop}
use Rattle.std.proofs.lemmas.List.{take_at, drop_at, drop_more, drop-drop}
use Rattle.std.proofs.lemmas.Bool.{cases_eq}
use Rattle.flash_io.specs.Crash.{TornFile}
use Rattle.manifest_form.specs.Takes.{ClosedAt}
use Rattle.manifest.specs.Gated.{record_of, overwritten, with_record, IsCommitted, IsBeforeOrAfter}

some_same : {a b : List ℕ} → Some a ≡ Some b → a ≡ b
some_same e = cc

module _ (part bytes : List ℕ) (gate : ℕ) (rest : List ℕ) where
  -- the record behind the closed gate
  abbrev pub staged : List ℕ
  staged = part ++ gate ∷ record_of bytes ++ drop (length (record_of bytes)) rest

  front : length (part ++ gate ∷ []) ≡ length part + 1
  front = length-append part (gate ∷ [])

  split : part ++ gate ∷ rest ≡ part ++ gate ∷ [] ++ rest
  split = sym (append_assoc part (gate ∷ []) rest)

  -- what a read gives after the first write
  pub staged_is : overwritten (part ++ gate ∷ rest) (length part + 1) (record_of bytes) ≡ staged
  staged_is =
      let n = length (record_of bytes) in
      let head : take (length part + 1) (part ++ gate ∷ rest) ≡ part ++ gate ∷ [] = ap (take (length part + 1)) split ∙ take_at (part ++ gate ∷ []) rest (length part + 1) front in
      let tail : drop (length part + 1 + n) (part ++ gate ∷ rest) ≡ drop n rest =
      sym (drop-drop n (length part + 1) (part ++ gate ∷ rest)) ∙ ap (drop n) (ap (drop (length part + 1)) split ∙ drop_at (part ++ gate ∷ []) rest (length part + 1) front) in
      ap (λ (l : List ℕ). l ++ record_of bytes ++ drop (length part + 1 + n) (part ++ gate ∷ rest)) head
      ∙ ap (λ (l : List ℕ). part ++ gate ∷ [] ++ record_of bytes ++ l) tail
      ∙ (simp append_assoc)

-- the closed gate stands in each outcome of the first write
pub torn_behind : (part : List ℕ) (n : ℕ) (content : List ℕ) (file : Option (List ℕ)) → ClosedAt part content → TornFile (length part + 1) n (Some content) file → IsCommitted part file
torn_behind part n content file shut (inl same) = (content, same, shut)
torn_behind part n content file shut (inr (before, after, was, is, torn)) =
    let split : before ≡ part ++ shut.gate ∷ [] ++ shut.rest = sym (some_same was) ∙ shut.is ∙ sym (append_assoc part (shut.gate ∷ []) shut.rest) in
    let head : take (length part + 1) after ≡ part ++ shut.gate ∷ [] =
    torn.before ∙ ap (take (length part + 1)) split ∙ take_at (part ++ shut.gate ∷ []) shut.rest (length part + 1) (length-append part (shut.gate ∷ [])) in
    let whole : after ≡ part ++ shut.gate ∷ drop (length part + 1) after =
    sym (take-append-drop (length part + 1) after) ∙ ap (λ (l : List ℕ). l ++ drop (length part + 1) after) head ∙ append_assoc part (shut.gate ∷ []) (drop (length part + 1) after) in
    (after, is, record { gate = shut.gate; rest = drop (length part + 1) after; is = whole; closed = shut.closed })

-- all but the gate stands in each outcome of the second write
torn_gate : (part : List ℕ) (old : ℕ) (tail : List ℕ) (file : Option (List ℕ)) → TornFile (length part) 1 (Some (part ++ old ∷ tail)) file → (gate : ℕ) × (file ≡ Some (part ++ gate ∷ tail))
torn_gate part old tail file (inl same) = (old, same)
torn_gate part old tail file (inr (before, after, was, is, torn)) =
    let first : before ≡ part ++ old ∷ tail = sym (some_same was) in
    let gate = get_or after (length part) 0 in
    let size : length before ≡ length part + length (old ∷ tail) = ap length first ∙ length-append part (old ∷ tail) in
    let head : take (length part) after ≡ part = torn.before ∙ ap (take (length part)) first ∙ take_at part (old ∷ tail) (length part) refl in
    let behind : drop (length part + 1) after ≡ tail =
    torn.after ∙ ap (drop (length part + 1)) (first ∙ sym (append_assoc part (old ∷ []) tail)) ∙ drop_at (part ++ old ∷ []) tail (length part + 1) (length-append part (old ∷ [])) in
    let rest : drop (length part) after ≡ gate ∷ tail = drop_more after (length part) 0 (omega (arith, torn.no_shorter)) ∙ ap (λ (l : List ℕ). gate ∷ l) behind in
    (gate, is ∙ ap Some (sym (take-append-drop (length part) after) ∙ ap (λ (l : List ℕ). l ++ drop (length part) after) head ∙ ap (λ (l : List ℕ). part ++ l) rest))

-- behind an open gate the record is whole
pub opened : (part bytes more : List ℕ) → ClosedAt (with_record part bytes) (part ++ 1 ∷ record_of bytes ++ more)
opened part bytes more = record { gate = 0; rest = more; is = simp append_assoc; closed = λ e. cc }

pub torn_open : (part bytes more : List ℕ) (old : ℕ) (file : Option (List ℕ)) → TornFile (length part) 1 (Some (part ++ old ∷ record_of bytes ++ more)) file → IsBeforeOrAfter part bytes file
torn_open part bytes more old file torn =
    let found = torn_gate part old (record_of bytes ++ more) file (subst (λ (l : List ℕ). TornFile (length part) 1 (Some l) file) (append_assoc part (old ∷ record_of bytes) more) torn) in
    elim (cases_eq found.0 1) [
      | inl is_open ↦ inr (part ++ 1 ∷ record_of bytes ++ more, found.1 ∙ ap (λ (g : ℕ). Some (part ++ g ∷ (record_of bytes ++ more))) is_open ∙ ap Some (sym (append_assoc part (1 ∷ record_of bytes) more)), opened part bytes more)
      | inr shut ↦ inl (part ++ found.0 ∷ (record_of bytes ++ more), found.1, record { gate = found.0; rest = record_of bytes ++ more; is = refl; closed = shut })
    ]

-- what a read gives after the second write
pub opened_is : (part tail : List ℕ) (old : ℕ) → overwritten (part ++ old ∷ tail) (length part) (1 ∷ []) ≡ part ++ 1 ∷ tail
opened_is part tail old =
    ap (λ (l : List ℕ). l ++ 1 ∷ [] ++ drop (length part + 1) (part ++ old ∷ tail)) (take_at part (old ∷ tail) (length part) refl)
    ∙ ap (λ (l : List ℕ). part ++ 1 ∷ [] ++ l) (ap (drop (length part + 1)) (sym (append_assoc part (old ∷ []) tail)) ∙ drop_at (part ++ old ∷ []) tail (length part + 1) (length-append part (old ∷ [])))
    ∙ append_assoc part (1 ∷ []) tail
