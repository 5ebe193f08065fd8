-- Default values and locks that are written are read again, whatever follows.
use Rattle.std.proofs.Common.{◌≡◌, ℕ, ℤ, suc, ◌^◌, ◌<◌, true, false, ltb, List, [], ◌∷◌, ◌++◌, length, Option, None, Ok, refl, ap, ◌∙◌, append_assoc, length-append, arith}
use Rattle.std.specs.Prelude.{FitsSigned}
use Rattle.std.specs.Int.{w64, to_be_bytes}
use Rattle.std.specs.List.{All, flat_map}
use Rattle.std.specs.List.Sorted.{IsStrictlySortedBy}
use Rattle.std.specs.Map.{keys_of}
use Rattle.std.specs.Ordering.{int_cmp}
use Rattle.std.proofs.lemmas.Bool.{le-ltb}
use Rattle.std.proofs.lemmas.List.{take_at}
use Rattle.std.proofs.Math.Seq.{drop-append_seam}
use Rattle.flash_list.specs.Steps.{each_at}
use Rattle.flash_types.specs.Ranges.{holds}
use Rattle.flash_types.specs.declared.range.HandleRange.{HandleRange}
use Rattle.kv_codec.specs.Spelling.{lock_kind_byte}
use Rattle.kv_codec.specs.declared.records.LockKind.{LockKind}
use Rattle.kv_codec.specs.declared.records.LockKind.TheVariants as kind
use Rattle.log_codec.proofs.Again.{u64_again}
use Rattle.committed_log.specs.Store.{value_cmp}
use Rattle.committed_log.specs.declared.store.Lock.{Lock}
use Rattle.region_state.specs.State.{values_in, locks_in}
use Rattle.region_file.specs.Families.{may_follow, may_start, value_handle_at, start_at, text_at, value_at, key_of, each_value_at, values_at, is_above, lock_handle_at, kind_at, lock_at, each_lock_at, locks_at}
use Rattle.region_file.specs.Spelling as S
use Rattle.region_file.specs.Spelling.{ValueFits, LockFits}
use Rattle.region_file.proofs.FieldsAgain.{u8_again, handle_again}
use Rattle.region_file.proofs.Going.{all_head, all_tail}
use Rattle.region_file.proofs.KeysRise.{IsAbove, RiseFrom, rise, handle_is_above, key_may_follow, key_may_start, all_passed}

-- ---- default values

value_handle_again : (end : ℕ) (range : HandleRange) (last : Option (ℤ × ℕ)) (h : ℤ) (rest : List ℕ) → FitsSigned w64 h → holds range h ≡ true → may_follow last h ≡ true → value_handle_at end range last (S.handle h ++ rest) ≡ Ok (h, rest)
unfolding value_handle_at
value_handle_again end range last h rest fits inside follows = rw (handle_again end h rest fits, inside, follows) refl

start_again : (end : ℕ) (last : Option (ℤ × ℕ)) (h : ℤ) (start : ℕ) (rest : List ℕ) → start < 2 ^ 64 → may_start last h start ≡ true → start_at end last h (to_be_bytes w64 start ++ rest) ≡ Ok (start, rest)
unfolding start_at
start_again end last h start rest fits starts = rw (u64_again _ start rest fits, starts) refl

text_again : (end : ℕ) (text rest : List ℕ) → length text < 2 ^ 64 → text_at end (to_be_bytes w64 (length text) ++ (text ++ rest)) ≡ Ok (text, rest)
unfolding text_at
text_again end text rest fits =
    let long : ltb (length (text ++ rest)) (length text) ≡ false = le-ltb _ _ (omega (arith, length-append text rest)) in
    rw (u64_again _ (length text) (text ++ rest) fits, long, take_at text rest (length text) refl, drop-append_seam text rest) refl

value_again : (end : ℕ) (range : HandleRange) (last : Option (ℤ × ℕ)) (e : (ℤ × ℕ) × List ℕ) (rest : List ℕ) → ValueFits e → holds range e.0.0 ≡ true → IsAbove value_cmp last e.0 → value_at end range last (S.value e ++ rest) ≡ Ok (e, rest)
unfolding value_at S.value
value_again end range last e rest fits inside above =
    let handle : List ℕ = S.handle e.0.0 in
    let start : List ℕ = to_be_bytes w64 e.0.1 in
    let size : List ℕ = to_be_bytes w64 (length e.1) in
    let parts : S.value e ++ rest ≡ handle ++ (start ++ (size ++ (e.1 ++ rest))) =
    append_assoc handle (start ++ (size ++ e.1)) rest ∙ ap (λ (l : List ℕ). handle ++ l) (append_assoc start (size ++ e.1) rest ∙ ap (λ (l : List ℕ). start ++ l) (append_assoc size e.1 rest)) in
    ap (value_at end range last) parts
    ∙ rw (value_handle_again end range last e.0.0 (start ++ (size ++ (e.1 ++ rest))) fits.handle inside (key_may_follow last e.0 above), start_again end last e.0.0 e.0.1 (size ++ (e.1 ++ rest)) fits.start (key_may_start last e.0 above), text_again end e.1 rest fits.size) refl

each_value_again : (end : ℕ) (range : HandleRange) (last : Option (ℤ × ℕ)) (es : List ((ℤ × ℕ) × List ℕ)) (rest : List ℕ) → All ValueFits es → All (λ e. holds range e.0.0 ≡ true) es → RiseFrom value_cmp last es
    → each_at (value_at end range) key_of (length es) last (flat_map S.value es ++ rest) ≡ Ok (es, rest)
unfolding each_at
each_value_again end range last [] rest fits inside up = refl
each_value_again end range last (e ∷ es) rest fits inside up =
    let others = flat_map S.value es ++ rest in
    let first = value_again end range last e others (all_head ValueFits e es fits) (all_head (λ e. holds range e.0.0 ≡ true) e es inside) up.0 in
    ap (each_at (value_at end range) key_of (suc (length es)) last) (append_assoc (S.value e) (flat_map S.value es) rest)
    ∙ rw (first, each_value_again end range (key_of e) es rest (all_tail ValueFits e es fits) (all_tail (λ e. holds range e.0.0 ≡ true) e es inside) up.1) refl

pub values_again : (end : ℕ) (range : HandleRange) (es : List ((ℤ × ℕ) × List ℕ)) (rest : List ℕ) → length es < 2 ^ 64 → All ValueFits es → IsStrictlySortedBy value_cmp (keys_of es) → values_in range es ≡ es → values_at end range (S.values es ++ rest) ≡ Ok (es, rest)
unfolding values_at each_value_at
values_again end range es rest few fits sorted within =
    let count : List ℕ = to_be_bytes w64 (length es) in
    ap (values_at end range) (append_assoc count (flat_map S.value es) rest)
    ∙ rw (u64_again _ (length es) (flat_map S.value es ++ rest) few) (each_value_again end range None es rest fits (all_passed (λ e. holds range e.0.0) es within) (rise value_cmp es sorted))

-- ---- locks

lock_handle_again : (end : ℕ) (range : HandleRange) (last : Option ℤ) (h : ℤ) (rest : List ℕ) → FitsSigned w64 h → holds range h ≡ true → is_above last h ≡ true → lock_handle_at end range last (S.handle h ++ rest) ≡ Ok (h, rest)
unfolding lock_handle_at
lock_handle_again end range last h rest fits inside above = rw (handle_again end h rest fits, inside, above) refl

kind_again : (end : ℕ) (k : LockKind) (rest : List ℕ) → kind_at end (lock_kind_byte k ∷ rest) ≡ Ok (k, rest)
unfolding kind_at
kind_again end kind.Put rest = rw (u8_again _ (lock_kind_byte kind.Put) rest) refl
kind_again end kind.Delete rest = rw (u8_again _ (lock_kind_byte kind.Delete) rest) refl
kind_again end kind.Lock rest = rw (u8_again _ (lock_kind_byte kind.Lock) rest) refl
kind_again end kind.Pessimistic rest = rw (u8_again _ (lock_kind_byte kind.Pessimistic) rest) refl

lock_again : (end : ℕ) (range : HandleRange) (last : Option ℤ) (e : ℤ × Lock) (rest : List ℕ) → LockFits e → holds range e.0 ≡ true → IsAbove int_cmp last e.0 → lock_at end range last (S.lock e ++ rest) ≡ Ok (e, rest)
unfolding lock_at S.lock
lock_again end range last e rest fits inside above =
    let start : List ℕ = to_be_bytes w64 e.1.start in
    let tail : List ℕ = lock_kind_byte e.1.kind ∷ (start ++ rest) in
    ap (lock_at end range last) (append_assoc (S.handle e.0) (lock_kind_byte e.1.kind ∷ start) rest)
    ∙ rw (lock_handle_again end range last e.0 tail fits.handle inside (handle_is_above last e.0 above), kind_again end e.1.kind (start ++ rest), u64_again _ e.1.start rest fits.start) refl

each_lock_again : (end : ℕ) (range : HandleRange) (last : Option ℤ) (es : List (ℤ × Lock)) (rest : List ℕ) → All LockFits es → All (λ e. holds range e.0 ≡ true) es → RiseFrom int_cmp last es
    → each_at (lock_at end range) key_of (length es) last (flat_map S.lock es ++ rest) ≡ Ok (es, rest)
unfolding each_at
each_lock_again end range last [] rest fits inside up = refl
each_lock_again end range last (e ∷ es) rest fits inside up =
    let others = flat_map S.lock es ++ rest in
    let first = lock_again end range last e others (all_head LockFits e es fits) (all_head (λ e. holds range e.0 ≡ true) e es inside) up.0 in
    ap (each_at (lock_at end range) key_of (suc (length es)) last) (append_assoc (S.lock e) (flat_map S.lock es) rest)
    ∙ rw (first, each_lock_again end range (key_of e) es rest (all_tail LockFits e es fits) (all_tail (λ e. holds range e.0 ≡ true) e es inside) up.1) refl

pub locks_again : (end : ℕ) (range : HandleRange) (es : List (ℤ × Lock)) (rest : List ℕ) → length es < 2 ^ 64 → All LockFits es → IsStrictlySortedBy int_cmp (keys_of es) → locks_in range es ≡ es → locks_at end range (S.locks es ++ rest) ≡ Ok (es, rest)
unfolding locks_at each_lock_at
locks_again end range es rest few fits sorted within =
    let count : List ℕ = to_be_bytes w64 (length es) in
    ap (locks_at end range) (append_assoc count (flat_map S.lock es) rest)
    ∙ rw (u64_again _ (length es) (flat_map S.lock es ++ rest) few) (each_lock_again end range None es rest fits (all_passed (λ e. holds range e.0) es within) (rise int_cmp es sorted))
