-- A walk over records whose fronts are known.
use Rattle.std.proofs.Common.{◌≡◌, ◌≢◌, ℕ, suc, ◌+◌, ◌-◌, ◌≤◌, true, false, ltb, eqb, List, [], ◌∷◌, ◌++◌, length, Option, Some, None, Result, Ok, refl, sym, ap, ◌∙◌, subst, append_assoc, arith, length-append}
use Rattle.std.proofs.lemmas.Bool.{ne_eqb, le-ltb}
use Rattle.flash_list.specs.Steps.{◌>>=◌}
use Rattle.manifest_form.specs.declared.fault.Fault.{Fault}
use Rattle.manifest_form.specs.declared.recover.Recovered.{Recovered}
use Rattle.manifest_form.specs.Header.{header_at}
use Rattle.manifest_form.specs.Walk.{sized_at, record_at, walk, root_step, root_of, manifest_step, state_of, manifest_of}
use Rattle.manifest_form.specs.Takes.{ClosedAt, IsRecord, Takes, IsRoot, IsManifest, Closes}
use Rattle.std.specs.Option.{option_map}
use Rattle.manifest_form.specs.declared.root.RootEnd.{RootEnd}
use Rattle.manifest_form.specs.declared.header.Header.{Header}
use Rattle.manifest_form.specs.declared.state.State.{State}
use Rattle.manifest_form.specs.Roots.{file_named, NamesAt}
use Rattle.manifest_form.proofs.Fronts.{bind_ok, record_front, header_front}

module _ {S : Type 0} (step : ℕ → ℕ → S → List ℕ → Result S Fault) (wanted : Option ℕ) (from : ℕ) where
  pub none : (s : S) → Takes step wanted from s [] s
  none s = record {
    count = 0;
    within = omega arith;
    walks = λ most more. let k : 0 + most ≡ most = omega arith in ap (λ n. walk step wanted (from + 0 + length more) n s more) k;
  }

  one_step : (end most : ℕ) (s s' : S) (bytes r rest : List ℕ) → record_at wanted end bytes ≡ Ok (Some (r, rest)) → step (end - length bytes) (end - length rest) s r ≡ Ok s' → walk step wanted end (suc most) s bytes ≡ walk step wanted end most s' rest
  unfolding walk
  one_step end most s s' bytes r rest read good = rw (read, good) refl

  -- one record more
  pub more : (before mid after : S) (part front r : List ℕ) → Takes step wanted from before part mid → IsRecord wanted front r → step (from + length part) (from + length part + length front) mid r ≡ Ok after → Takes step wanted from before (part ++ front) after
  more before mid after part front r so_far is_record good = record {
    count = so_far.count + 1;
    within = omega (arith, so_far.within, is_record.size, length-append part front);
    walks = λ most rest.
        let e = from + length (part ++ front) + length rest in
        let same : e ≡ from + length part + length (front ++ rest) = omega (arith, length-append part front, length-append front rest) in
        let fuel : so_far.count + 1 + most ≡ so_far.count + suc most = omega arith in
        let gate : e - length (front ++ rest) ≡ from + length part = omega (arith, same) in
        let stop : e - length rest ≡ from + length part + length front = omega (arith, length-append part front) in
        let good' : step (e - length (front ++ rest)) (e - length rest) mid r ≡ Ok after = ap (λ n. step n (e - length rest) mid r) gate ∙ ap (λ n. step (from + length part) n mid r) stop ∙ good in
        ap (λ n. walk step wanted e n before (part ++ front ++ rest)) fuel
        ∙ ap (walk step wanted e (so_far.count + suc most) before) (append_assoc part front rest)
        ∙ subst (λ n. walk step wanted n (so_far.count + suc most) before (part ++ (front ++ rest)) ≡ walk step wanted n (suc most) mid (front ++ rest)) (sym same) (so_far.walks (suc most) (front ++ rest))
        ∙ one_step e most mid after (front ++ rest) r rest (is_record.reads e rest) good';
  }

  is_shut : (end gate : ℕ) (rest : List ℕ) → gate ≢ 1 → record_at wanted end (gate ∷ rest) ≡ Ok None
  unfolding record_at
  is_shut end gate rest closed = let shut : eqb gate 1 ≡ false = ne_eqb gate 1 closed in rw shut refl

  ended : (end most : ℕ) (s : S) (bytes : List ℕ) → record_at wanted end bytes ≡ Ok None → walk step wanted end (suc most) s bytes ≡ Ok s
  unfolding walk
  ended end most s bytes shut = rw shut refl

  -- at a closed gate the walk ends
  pub ends : (before after : S) (part content : List ℕ) (end : ℕ) → Takes step wanted from before part after → ClosedAt part content → from + length content ≡ end → walk step wanted end (length content) before content ≡ Ok after
  ends before after part content end takes shut size =
      let tail = shut.gate ∷ shut.rest in
      let whole : length content ≡ length part + length tail = ap length shut.is ∙ length-append part tail in
      let some : length tail ≡ suc (length shut.rest) = refl in
      let fuel : length content ≡ takes.count + suc (length content - takes.count - 1) = omega (arith, whole, some, takes.within) in
      let same : from + length part + length tail ≡ end = omega (arith, whole, size) in
      let k = length content - takes.count - 1 in
      ap (λ n. walk step wanted end n before content) fuel
      ∙ ap (walk step wanted end (takes.count + suc k) before) shut.is
      ∙ subst (λ n. walk step wanted n (takes.count + suc k) before (part ++ tail) ≡ walk step wanted n (suc k) after tail) same (takes.walks (suc k) tail)
      ∙ ended end k after tail (is_shut end shut.gate shut.rest shut.closed)

-- a root with this committed part names the file
pub names : (file : ℕ) (part content : List ℕ) → 2 ≤ length content → IsRoot file part → ClosedAt part content → root_of content ≡ Ok (Some file)
unfolding root_of
names file part content long takes shut =
    let short : ltb (length content) 2 ≡ false = le-ltb _ _ long in
    rw short (ends root_step (Some 4) 0 None (Some file) part content (length content) takes shut (omega arith))

-- a manifest with this committed part has this
pub reads : (file : ℕ) (has : Recovered) (part content : List ℕ) → IsManifest file has part → ClosedAt part content → manifest_of file content ≡ Ok has
unfolding manifest_of state_of
reads file has part content is shut =
    let tail = is.records ++ shut.gate ∷ shut.rest in
    let whole : content ≡ is.front ++ tail = shut.is ∙ ap (λ (l : List ℕ). l ++ shut.gate ∷ shut.rest) is.is ∙ append_assoc is.front is.records (shut.gate ∷ shut.rest) in
    let size : length is.front + length tail ≡ length content = sym (ap length whole ∙ length-append is.front tail) in
    let inner : ClosedAt is.records tail = record { gate = shut.gate; rest = shut.rest; is = refl; closed = shut.closed } in
    let state = ends (manifest_step file) None (length is.front) None (Some has.state) is.records tail (length content) is.takes inner size in
    let header : header_at (length content) content ≡ Ok (has.header, tail) = ap (header_at (length content)) whole ∙ is.header (length content) tail in
    rw (header, state) refl

-- what a loop has taken, with one record more
pub take_more : {S : Type 0} (step : ℕ → ℕ → S → List ℕ → Result S Fault) (wanted : Option ℕ) (end : ℕ) (bytes rest after r : List ℕ) (first s s' : S) → length bytes ≤ end → record_at wanted end rest ≡ Ok (Some (r, after))
    → step (end - length rest) (end - length after) s r ≡ Ok s' → (part : List ℕ) × (bytes ≡ part ++ rest) × Takes step wanted (end - length bytes) first part s → (part : List ℕ) × (bytes ≡ part ++ after) × Takes step wanted (end - length bytes) first part s'
take_more step wanted end bytes rest after r first s s' within read good taken =
    let part = taken.0 in
    let from = end - length bytes in
    let one = record_front wanted end rest r after read in
    let all : length bytes ≡ length part + length rest = ap length taken.1 ∙ length-append part rest in
    let behind : length rest ≡ length one.0 + length after = ap length one.1 ∙ length-append one.0 after in
    let gate : end - length rest ≡ from + length part = omega (arith, all, within) in
    let stop : end - length after ≡ from + length part + length one.0 = omega (arith, all, behind, within) in
    let good' : step (from + length part) (from + length part + length one.0) s r ≡ Ok s' = ap (λ n. step n (from + length part + length one.0) s r) (sym gate) ∙ ap (λ n. step (end - length rest) n s r) (sym stop) ∙ good in
    (part ++ one.0, taken.1 ∙ ap (λ (l : List ℕ). part ++ l) one.1 ∙ sym (append_assoc part one.0 after), more step wanted from first s s' part one.0 r taken.2 one.2 good')

closed_gate : (wanted : Option ℕ) (end : ℕ) (bytes : List ℕ) → record_at wanted end bytes ≡ Ok None → (gate : ℕ) × (rest : List ℕ) × (bytes ≡ gate ∷ rest) × (gate ≢ 1)
unfolding record_at
closed_gate wanted end [] h = absurd (cc h)
closed_gate wanted end (gate ∷ rest) h = (gate, rest, refl, shut)
  where
    shut : gate ≢ 1
    shut is =
        let test : eqb gate 1 ≡ true = ap (λ n. eqb n 1) is in
        let opens : (sized_at wanted end rest >>= λ found. Ok (Some found)) ≡ Ok None = rw test at h in
        let found = bind_ok (sized_at wanted end rest) (λ found. Ok (Some found)) None opens in
        absurd (cc found.2)

-- and at a closed gate
pub at_closed : {S : Type 0} (step : ℕ → ℕ → S → List ℕ → Result S Fault) (wanted : Option ℕ) (end : ℕ) (bytes rest : List ℕ) (first s : S) → length bytes ≤ end → record_at wanted end rest ≡ Ok None
    → (part : List ℕ) × (bytes ≡ part ++ rest) × Takes step wanted (end - length bytes) first part s → (part : List ℕ) × ClosedAt part bytes × (end - length bytes + length part ≡ end - length rest) × Takes step wanted (end - length bytes) first part s
at_closed step wanted end bytes rest first s within read taken =
    let part = taken.0 in
    let gate = closed_gate wanted end rest read in
    let all : length bytes ≡ length part + length rest = ap length taken.1 ∙ length-append part rest in
    (part, record { gate = gate.0; rest = gate.1; is = taken.1 ∙ ap (λ (l : List ℕ). part ++ l) gate.2; closed = gate.3 }, omega (arith, all, within), taken.2)

from_start : (n : ℕ) → n - n ≡ 0
from_start n = omega arith

-- of a file without a front
pub take_from_start : {S : Type 0} (step : ℕ → ℕ → S → List ℕ → Result S Fault) (wanted : Option ℕ) (bytes rest after r : List ℕ) (first s s' : S) → record_at wanted (length bytes) rest ≡ Ok (Some (r, after))
    → step (length bytes - length rest) (length bytes - length after) s r ≡ Ok s' → (part : List ℕ) × (bytes ≡ part ++ rest) × Takes step wanted 0 first part s → (part : List ℕ) × (bytes ≡ part ++ after) × Takes step wanted 0 first part s'
take_from_start step wanted bytes rest after r first s s' read good taken =
    let zero = from_start (length bytes) in
    let next = take_more step wanted (length bytes) bytes rest after r first s s' (omega arith) read good (taken.0, taken.1, subst (λ n. Takes step wanted n first taken.0 s) (sym zero) taken.2) in
    (next.0, next.1, subst (λ n. Takes step wanted n first next.0 s') zero next.2)

pub closed_from_start : {S : Type 0} (step : ℕ → ℕ → S → List ℕ → Result S Fault) (wanted : Option ℕ) (bytes rest : List ℕ) (first s : S) → record_at wanted (length bytes) rest ≡ Ok None
    → (part : List ℕ) × (bytes ≡ part ++ rest) × Takes step wanted 0 first part s → (part : List ℕ) × ClosedAt part bytes × (length part ≡ length bytes - length rest) × Takes step wanted 0 first part s
closed_from_start step wanted bytes rest first s read taken =
    let zero = from_start (length bytes) in
    let last = at_closed step wanted (length bytes) bytes rest first s (omega arith) read (taken.0, taken.1, subst (λ n. Takes step wanted n first taken.0 s) (sym zero) taken.2) in
    let size : length last.0 ≡ length bytes - length rest = omega (arith, last.2, zero) in
    (last.0, last.1, size, subst (λ n. Takes step wanted n first last.0 s) zero last.3)

-- what was found behind a header
pub found : (file : ℕ) (bytes rest : List ℕ) (h : Header) (s : State) (at : ℕ) → header_at (length bytes) bytes ≡ Ok (h, rest)
    → (part : List ℕ) × ClosedAt part rest × (length bytes - length rest + length part ≡ at) × Takes (manifest_step file) None (length bytes - length rest) None part (Some s) → Closes (IsManifest file (record { header = h; state = s })) at bytes
found file bytes rest h s at read inner =
    let one = header_front (length bytes) bytes h rest read in
    let size : length bytes ≡ length one.0 + length rest = ap length one.1 ∙ length-append one.0 rest in
    let from : length bytes - length rest ≡ length one.0 = omega (arith, size) in
    let shut = inner.1 in
    record {
      part = one.0 ++ inner.0;
      size = omega (arith, length-append one.0 inner.0, inner.2, from);
      shut = record { gate = shut.gate; rest = shut.rest; is = one.1 ∙ ap (λ (l : List ℕ). one.0 ++ l) shut.is ∙ sym (append_assoc one.0 inner.0 (shut.gate ∷ shut.rest)); closed = shut.closed };
      holds = record { front = one.0; records = inner.0; is = refl; header = one.2; takes = subst (λ n. Takes (manifest_step file) None n None inner.0 (Some s)) from inner.3 };
    }

pub no_longer : (bytes rest : List ℕ) (h : Header) → header_at (length bytes) bytes ≡ Ok (h, rest) → length rest ≤ length bytes
no_longer bytes rest h read =
    let one = header_front (length bytes) bytes h rest read in
    omega (arith, ap length one.1, length-append one.0 rest)

-- a name and its place
pub named_back : (at : ℕ) (name : Option ℕ) → file_named (option_map (λ file. record { file = file; at = at }) name) ≡ name
named_back at None = refl
named_back at (Some file) = refl

pub names_at : (bytes : List ℕ) (at : ℕ) (name : Option ℕ) (result : Option RootEnd) → result ≡ option_map (λ file. record { file = file; at = at }) name
    → (part : List ℕ) × ClosedAt part bytes × (length part ≡ at) × Takes root_step (Some 4) 0 None part name → NamesAt bytes (Ok result)
names_at bytes at None None is taken = tt
names_at bytes at None (Some x) is taken = absurd (cc is)
names_at bytes at (Some file) None is taken = absurd (cc is)
names_at bytes at (Some file) (Some x) is taken =
    let same : record { file = file; at = at } ≡ x = cc is in
    subst (λ (y : RootEnd). Closes (IsRoot y.file) y.at bytes) same (record { part = taken.0; size = taken.2; shut = taken.1; holds = taken.3 })
