-- What is read as a script is within the limits.
use Rattle.std.proofs.Common.{◌≡◌, refl, ap, subst, ℕ, suc, ◌≤◌, ◌&&◌, Bool, true, false, cond, List, [], ◌∷◌, length, min, Option, Some, None, Result, Ok, Err, nat_le, arith}
use Rattle.std.specs.Prelude.{codes, IfSome}
use Rattle.std.specs.List.{AllByRecursion}
use Rattle.flash_list.specs.Steps.{◌>>=◌}
use Rattle.serde_json.specs.Data.{Data, Items}
use Rattle.serde_json.specs.Find.{get, as_number, as_u64, as_array}
use Rattle.std.specs.Fmt.{decimal}
use Rattle.std.specs.Prelude.{option_and_then}
use Rattle.flash_types.specs.Settings.{AreSettings, IsSize}
use Rattle.flash_types.specs.declared.settings.Settings.{Settings}
use Rattle.tool_text.specs.Reading.{below, fits, in_range, number, whole, needed, given_or, maybe, field, object_of, listed, each, at_most, list_of}
use Rattle.tool_text.specs.Scripts.{names_of, is_safe_point, kind_of, action_in, event_in, region_in, ask_in, read_in, workers_in, join_rows_in, settings_in, script_in, IsScript}
use Rattle.tool_text.specs.Limits.{most_workers, most_entries, IsWithinLimits}
use Rattle.tool_text.specs.declared.script.Script.{Script}
use Rattle.tool_text.specs.declared.script.Event.{Event}
use Rattle.tool_text.specs.declared.script.ScriptRead.{ScriptRead}
use Rattle.tool_text.specs.declared.names.Object.TheVariants as object
use Rattle.tool_text.specs.declared.reader.Workers.{Workers}

bind_ok : {A B E : Type 0} (r : Result A E) (f : A → Result B E) (y : B) → (r >>= f) ≡ Ok y → (x : A) × (r ≡ Ok x) × (f x ≡ Ok y)
bind_ok (Ok x) f y e = (x, refl, e)
bind_ok (Err d) f y e = absurd cc

ok_is : {A E : Type 0} (x y : A) → ◌≡◌ {A = Result A E} (Ok x) (Ok y) → x ≡ y
ok_is x y e = cc e

some_is : {A : Type 0} (x y : A) → ◌≡◌ {A = Option A} (Some x) (Some y) → x ≡ y
some_is x y e = cc e

below_ok : {A : Type 0} (name : List ℕ) (r : Result A (List ℕ)) (x : A) → below name r ≡ Ok x → r ≡ Ok x
below_ok name (Ok y) x e = e
below_ok name (Err path) x e = absurd cc

fits_ok : {A : Type 0} (o : Option A) (x : A) → fits o ≡ Ok x → o ≡ Some x
fits_ok None x e = absurd cc
fits_ok (Some y) x e = cc e

-- ---- numbers

pub record IsFrom (least most n : ℕ) : Type 0 where
  pub above : least ≤ n
  pub under : n ≤ most

from_tests : (least most m n : ℕ) (low high : Bool) → nat_le least m ≡ low → nat_le m most ≡ high → cond (low && high) (Some m) None ≡ Some n → IsFrom least most n
from_tests least most m n true true low high e =
    let is : m ≡ n = some_is m n e in
    record { above = grind (arith, low, is); under = grind (arith, high, is) }
from_tests least most m n true false low high e = absurd cc
from_tests least most m n false high low is e = absurd cc

from_range : (least most : ℕ) (o : Option ℕ) (n : ℕ) → in_range least most o ≡ Some n → IsFrom least most n
from_range least most None n e = absurd cc
from_range least most (Some m) n e = from_tests least most m n (nat_le least m) (nat_le m most) refl refl e

number_from : (least most : ℕ) (value : Data) (n : ℕ) → number least most value ≡ Ok n → IsFrom least most n
unfolding number
number_from least most value n e = from_range least most (option_and_then as_u64 (as_number value)) n (fits_ok (in_range least most (option_and_then as_u64 (as_number value))) n e)

given_from : (default least most : ℕ) → IsFrom least most default → (o : Option Data) (n : ℕ) → given_or default (number least most) o ≡ Ok n → IsFrom least most n
given_from default least most is None n e = subst (IsFrom least most) (ok_is default n e) is
given_from default least most is (Some value) n e = number_from least most value n e

-- a number that may be missing
field_from : (name : List ℕ) (default least most : ℕ) → IsFrom least most default → (value : Data) (n : ℕ) → field name (given_or default (number least most)) value ≡ Ok n → IsFrom least most n
unfolding field
field_from name default least most is value n e = given_from default least most is (get name value) n (below_ok name (given_or default (number least most) (get name value)) n e)

needed_from : (least most : ℕ) (o : Option Data) (n : ℕ) → needed (number least most) o ≡ Ok n → IsFrom least most n
needed_from least most None n e = absurd cc
needed_from least most (Some value) n e = number_from least most value n e

-- a number that must be there
needed_field_from : (name : List ℕ) (least most : ℕ) (value : Data) (n : ℕ) → field name (needed (number least most)) value ≡ Ok n → IsFrom least most n
unfolding field
needed_field_from name least most value n e = needed_from least most (get name value) n (below_ok name (needed (number least most) (get name value)) n e)

maybe_from : (most : ℕ) (o : Option Data) (found : Option ℕ) → maybe (number 0 most) o ≡ Ok found → IfSome found (λ n. n ≤ most)
maybe_from most None found e = subst (λ (f : Option ℕ). IfSome f (λ n. n ≤ most)) (ok_is None found e) (tt {0})
maybe_from most (Some value) found e =
    let a = bind_ok (number 0 most value) (λ n. Ok (Some n)) found e in
    subst (λ (f : Option ℕ). IfSome f (λ n. n ≤ most)) (ok_is (Some a.0) found a.2) (number_from 0 most value a.0 a.1).under

maybe_field_from : (name : List ℕ) (most : ℕ) (value : Data) (found : Option ℕ) → field name (maybe (number 0 most)) value ≡ Ok found → IfSome found (λ n. n ≤ most)
unfolding field
maybe_field_from name most value found e = maybe_from most (get name value) found (below_ok name (maybe (number 0 most) (get name value)) found e)

-- ---- lists

module _ {A : Type 0} (P : A → Type 0) (reading : Data → Result A (List ℕ)) (each_is : (value : Data) (x : A) → reading value ≡ Ok x → P x) where
  each_all : (place : ℕ) (values : List Data) (xs : List A) → each reading place values ≡ Ok xs → (length xs ≡ length values) × AllByRecursion P xs
  unfolding each
  each_all place [] xs e = subst (λ ys. (length ys ≡ 0) × AllByRecursion P ys) (ok_is [] xs e) (refl, tt)
  each_all place (value ∷ values) xs e =
      let a = bind_ok (below (decimal place) (reading value)) _ xs e in
      let b = bind_ok (each reading (suc place) values) (λ others. Ok (a.0 ∷ others)) xs a.2 in
      let rest = each_all (suc place) values b.0 b.1 in
      subst (λ ys. (length ys ≡ suc (length values)) × AllByRecursion P ys) (ok_is (a.0 ∷ b.0) xs b.2)
      (ap suc rest.0, (each_is value a.0 (below_ok (decimal place) (reading value) a.0 a.1), rest.1))

  few_of : (most : ℕ) (values : List Data) (xs : List A) (few : Bool) → nat_le (length values) most ≡ few → cond few (each reading 0 values) (Err []) ≡ Ok xs → (length xs ≤ most) × AllByRecursion P xs
  few_of most values xs true few e =
      let all = each_all 0 values xs e in
      let len = all.0 in
      (grind (arith, few, len), all.1)
  few_of most values xs false few e = absurd cc

  items_all : (most : ℕ) (o : Option Items) (xs : List A) → at_most most reading o ≡ Ok xs → (length xs ≤ most) × AllByRecursion P xs
  items_all most None xs e = absurd cc
  items_all most (Some items) xs e = few_of most (listed items) xs (nat_le (length (listed items)) most) refl e

  list_all : (most : ℕ) (value : Data) (xs : List A) → list_of most reading value ≡ Ok xs → (length xs ≤ most) × AllByRecursion P xs
  unfolding list_of
  list_all most value xs e = items_all most (as_array value) xs e

  given_all : (most : ℕ) → 0 ≤ most → (o : Option Data) (xs : List A) → given_or [] (list_of most reading) o ≡ Ok xs → (length xs ≤ most) × AllByRecursion P xs
  given_all most some None xs e = subst (λ ys. (length ys ≤ most) × AllByRecursion P ys) (ok_is [] xs e) (some, tt)
  given_all most some (Some value) xs e = list_all most value xs e

  -- a list that may be missing
  field_all : (name : List ℕ) (most : ℕ) → 0 ≤ most → (value : Data) (xs : List A) → field name (given_or [] (list_of most reading)) value ≡ Ok xs → (length xs ≤ most) × AllByRecursion P xs
  unfolding field
  field_all name most some value xs e = given_all most some (get name value) xs (below_ok name (given_or [] (list_of most reading) (get name value)) xs e)

-- ---- events and reads

event_within : (value : Data) (x : Event) → event_in value ≡ Ok x → x.at ≤ most_entries
unfolding event_in
event_within value x e =
    let a = bind_ok (object_of (names_of (kind_of (is_safe_point value))) value) _ x e in
    let b = bind_ok (field (codes "at") (needed (number 0 1048576)) value) _ x a.2 in
    let c = bind_ok (action_in (is_safe_point value) value) _ x b.2 in
    let is : record { at = b.0; action = c.0 } ≡ x = ok_is (record { at = b.0; action = c.0 }) x c.2 in
    subst (λ (y : Event). y.at ≤ most_entries) is (needed_field_from (codes "at") 0 1048576 value b.0 b.1).under

read_within : (value : Data) (x : ScriptRead) → read_in value ≡ Ok x → x.after ≤ most_entries
unfolding read_in
read_within value x e =
    let a = bind_ok (object_of (names_of object.Read) value) _ x e in
    let b = bind_ok (field (codes "ts") (needed whole) value) _ x a.2 in
    let c = bind_ok (field (codes "regions") (needed (list_of 64 region_in)) value) _ x b.2 in
    let d = bind_ok (ask_in b.0 c.0 value) _ x c.2 in
    let f = bind_ok (field (codes "after") (given_or 0 (number 0 1048576)) value) _ x d.2 in
    let is : record { ask = d.0; after = f.0 } ≡ x = ok_is (record { ask = d.0; after = f.0 }) x f.2 in
    subst (λ (y : ScriptRead). y.after ≤ most_entries) is (field_from (codes "after") 0 0 1048576 (record { above = omega arith; under = omega arith }) value f.0 f.1).under

-- ---- workers and settings

pub record FewWorkers (w : Workers) : Type 0 where
  pub appliers : w.appliers ≤ most_workers
  pub background : w.background ≤ most_workers
  pub scanners : w.scanners ≤ most_workers

workers_within : (value : Data) (w : Workers) → workers_in value ≡ Ok w → FewWorkers w
unfolding workers_in
workers_within value w e =
    let a = bind_ok (field (codes "appliers") (given_or 3 (number 0 5)) value) _ w e in
    let b = bind_ok (field (codes "background") (given_or 2 (number 0 5)) value) _ w a.2 in
    let c = bind_ok (field (codes "scanners") (given_or 3 (number 0 5)) value) _ w b.2 in
    let made : Workers = record { appliers = a.0; background = b.0; scanners = c.0 } in
    subst FewWorkers (ok_is made w c.2) (record {
      appliers = (field_from (codes "appliers") 3 0 5 (record { above = omega arith; under = omega arith }) value a.0 a.1).under;
      background = (field_from (codes "background") 2 0 5 (record { above = omega arith; under = omega arith }) value b.0 b.1).under;
      scanners = (field_from (codes "scanners") 3 0 5 (record { above = omega arith; under = omega arith }) value c.0 c.1).under;
    })

size_of : (most n : ℕ) → IsFrom 1 most n → IsSize most n
size_of most n is = record { some = is.above; few = is.under }

lesser_from : (split : ℕ) → 1 ≤ split → IsFrom 1 split (min 1024 split)
lesser_from split some = record { above = omega (arith, some); under = omega arith }

join_within : (split : ℕ) (value : Data) (n : ℕ) → 1 ≤ split → join_rows_in split value ≡ Ok n → IsSize split n
unfolding join_rows_in
join_within split value n some e = size_of split n (field_from (codes "join_rows") (min 1024 split) 1 split (lesser_from split some) value n e)

settings_within : (value : Data) (s : Settings) → settings_in value ≡ Ok s → AreSettings s
unfolding settings_in
settings_within value s e =
    let a = bind_ok (field (codes "mem_rows") (given_or 512 (number 1 1048576)) value) _ s e in
    let b = bind_ok (field (codes "tiny_files") (given_or 8 (number 1 1048576)) value) _ s a.2 in
    let c = bind_ok (field (codes "delta_rows") (given_or 4096 (number 1 1048576)) value) _ s b.2 in
    let d = bind_ok (field (codes "split_rows") (given_or 8192 (number 1 1048576)) value) _ s c.2 in
    let f = bind_ok (join_rows_in d.0 value) _ s d.2 in
    let g = bind_ok (field (codes "pack_rows") (given_or 1024 (number 1 65536)) value) _ s f.2 in
    let split = field_from (codes "split_rows") 8192 1 1048576 (record { above = omega arith; under = omega arith }) value d.0 d.1 in
    let made : Settings = record { mem_rows = a.0; tiny_files = b.0; delta_rows = c.0; split_rows = d.0; join_rows = f.0; pack_rows = g.0 } in
    subst AreSettings (ok_is made s g.2) (record {
      mem = size_of 1048576 a.0 (field_from (codes "mem_rows") 512 1 1048576 (record { above = omega arith; under = omega arith }) value a.0 a.1);
      tiny = size_of 1048576 b.0 (field_from (codes "tiny_files") 8 1 1048576 (record { above = omega arith; under = omega arith }) value b.0 b.1);
      delta = size_of 1048576 c.0 (field_from (codes "delta_rows") 4096 1 1048576 (record { above = omega arith; under = omega arith }) value c.0 c.1);
      split = size_of 1048576 d.0 split;
      join = join_within d.0 value f.0 split.above f.1;
      pack = size_of 65536 g.0 (field_from (codes "pack_rows") 1024 1 65536 (record { above = omega arith; under = omega arith }) value g.0 g.1);
    })

-- ---- scripts

value_within : (value : Data) (s : Script) → script_in value ≡ Ok s → IsWithinLimits s
unfolding script_in
value_within value s e =
    let a = bind_ok (object_of (names_of object.Script) value) _ s e in
    let b = bind_ok (workers_in value) _ s a.2 in
    let c = bind_ok (settings_in value) _ s b.2 in
    let d = bind_ok (field (codes "stop_after") (maybe (number 0 1048576)) value) _ s c.2 in
    let f = bind_ok (field (codes "events") (given_or [] (list_of 10000 event_in)) value) _ s d.2 in
    let g = bind_ok (field (codes "reads") (given_or [] (list_of 10000 read_in)) value) _ s f.2 in
    let few = workers_within value b.0 b.1 in
    let events = field_all (λ (x : Event). x.at ≤ most_entries) event_in event_within (codes "events") 10000 (omega arith) value f.0 f.1 in
    let reads = field_all (λ (x : ScriptRead). x.after ≤ most_entries) read_in read_within (codes "reads") 10000 (omega arith) value g.0 g.1 in
    let made : Script = record { appliers = b.0.appliers; background = b.0.background; scanners = b.0.scanners; settings = c.0; stop_after = d.0; events = f.0; reads = g.0 } in
    subst IsWithinLimits (ok_is made s g.2) (record {
      appliers = few.appliers;
      background = few.background;
      scanners = few.scanners;
      settings = settings_within value c.0 c.1;
      stop_after = maybe_field_from (codes "stop_after") 1048576 value d.0 d.1;
      events = events.0;
      reads = reads.0;
      places = events.1;
      places_of_reads = reads.1;
    })

pub within_limits : (bytes : List ℕ) (s : Script) → IsScript bytes s → IsWithinLimits s
within_limits bytes s is = value_within is.value s is.says
