-- Log files, frame by frame.
use Rattle.std.proofs.Common.{◌≡◌, inl, inr, ◌∙◌, refl, sym, ap, subst, ℕ, suc, ◌+◌, ◌<◌, ◌≤◌, List, [], ◌∷◌, ◌++◌, length, take, slice_get, nat_lt, true, Some, None, Result, Ok, arith, cond}
use Rattle.column_block.specs.Rising.{first_fall, fall_after}
use Rattle.column_block.specs.Schemas.{IsSchema, ids}
use Rattle.column_block.specs.declared.column.Column.{Column}
use Rattle.log_codec.specs.declared.entry.Entry.{Entry}
use Rattle.log_codec.specs.declared.entry.Frame.{Frame}
use Rattle.log_codec.specs.declared.header.Header.{Header}
use Rattle.log_codec.specs.declared.header.ColumnSpec.{ColumnSpec}
use Rattle.log_codec.specs.declared.fault.FrameError.{FrameError}
use Rattle.log_codec.specs.Header.{headed, above}
use Rattle.log_codec.specs.Frames.{framed}
use Rattle.log_codec.specs.Writable.{HeaderCanBeWritten, Rising}
use Rattle.committed_log.specs.Lawful.{IsLawful, fault, pushed}
use Rattle.committed_log.specs.Log.{Log}
use Rattle.committed_log.specs.Store.{store_of}
use Rattle.committed_log.specs.Admission.{fault_at}
use Rattle.committed_log.proofs.Entries.{fault_next}
use Rattle.log_file.specs.Values.{columns_of}
use Rattle.log_file.specs.Logs.{FramesTo, IsReadTo, IsLogFile, IsRefused, IsCause}
use Rattle.log_file.specs.declared.cause.Refusal.{Refusal}

-- ---- the columns of a header make a schema

rising : (least : ℕ) (cs : List ColumnSpec) (before place : ℕ) → before < least → Rising least cs → fall_after before place (ids (columns_of cs)) ≡ None
rising least [] before place below h = refl
rising least (c ∷ cs) before place below h =
    let above_before : nat_lt before c.id ≡ true = grind (arith, below, h.0) in
    ap (λ b. cond b (fall_after c.id (place + 1) (ids (columns_of cs))) (Some place)) above_before ∙ rising (above c) cs c.id (place + 1) (omega arith) h.1

first_rises : (least : ℕ) (cs : List ColumnSpec) → Rising least cs → first_fall (ids (columns_of cs)) ≡ None
first_rises least [] h = refl
first_rises least (c ∷ cs) h = rising (above c) cs c.id 1 (omega arith) h.1

as_many : (cs : List ColumnSpec) → length (columns_of cs) ≡ length cs
as_many [] = refl
as_many (c ∷ cs) = ap suc (as_many cs)

pub is_schema : (h : Header) → HeaderCanBeWritten h → IsSchema (columns_of h.columns)
is_schema h can = record { rises = first_rises 0 h.columns can.ids; few = subst (λ n. n ≤ 64) (sym (as_many h.columns)) can.count }

-- ---- one more frame

frames_push : (bytes : List ℕ) (from : ℕ) (entries : List Entry) (to : ℕ) (frame : Frame) → FramesTo bytes from entries to → to < length bytes → framed bytes to ≡ Ok frame → FramesTo bytes from (entries ++ frame.entry ∷ []) frame.end
frames_push bytes from [] to frame here within read = (subst (λ n. n < length bytes) (sym here) within, (frame.end, ap (framed bytes) here ∙ read, refl))
frames_push bytes from (e ∷ es) to frame so_far within read = (so_far.0, (so_far.1.0, so_far.1.1, frames_push bytes so_far.1.0 es to frame so_far.1.2 within read))

pub read_push : (bytes : List ℕ) (log new : Log) (to : ℕ) (frame : Frame) → IsReadTo bytes log to → to < length bytes → framed bytes to ≡ Ok frame → new ≡ pushed log frame.entry → IsLawful new → IsReadTo bytes new frame.end
read_push bytes log new to frame before within read is lawful = record {
  header = before.header;
  from = before.from;
  read = before.read;
  table = ap (λ (l : Log). l.table) is ∙ before.table;
  schema = ap (λ (l : Log). l.schema) is ∙ before.schema;
  frames = subst (λ (l : Log). FramesTo bytes before.from l.entries frame.end) (sym is) (frames_push bytes before.from log.entries to frame before.frames within read);
  lawful = lawful;
}

-- ---- a file that is refused is no lawful log's

-- the frames go on from where fewer of them end
record Rest (bytes : List ℕ) (some all : List Entry) (at to : ℕ) : Type 0 where
  pub rest : List Entry
  pub is : all ≡ some ++ rest
  pub frames : FramesTo bytes at rest to

same_frame : (x y : Frame) → ◌≡◌ {A = Result Frame FrameError} (Ok x) (Ok y) → x ≡ y
same_frame x y is = cc is

goes_on : (bytes : List ℕ) (from : ℕ) (some all : List Entry) (at : ℕ) → FramesTo bytes from some at → FramesTo bytes from all (length bytes) → Rest bytes some all at (length bytes)
goes_on bytes from [] all at here whole = record { rest = all; is = refl; frames = subst (λ n. FramesTo bytes n all (length bytes)) here whole }
goes_on bytes from (e ∷ some) [] at so_far whole = let within = so_far.0 in absurd (omega (arith, within, whole))
goes_on bytes from (e ∷ some) (f ∷ all) at so_far whole =
    let same = same_frame (record { entry = f; end = whole.1.0 }) (record { entry = e; end = so_far.1.0 }) (sym whole.1.1 ∙ so_far.1.1) in
    let same_entry = ap (λ (x : Frame). x.entry) same in
    let same_end = ap (λ (x : Frame). x.end) same in
    let later = goes_on bytes so_far.1.0 some all at so_far.1.2 (subst (λ n. FramesTo bytes n all (length bytes)) same_end whole.1.2) in
    record { rest = later.rest; is = ap (λ x. x ∷ all) same_entry ∙ ap (λ xs. e ∷ xs) later.is; frames = later.frames }

take_front : (some rest : List Entry) → take (length some) (some ++ rest) ≡ some
take_front [] rest = refl
take_front (e ∷ some) rest = ap (λ xs. e ∷ xs) (take_front some rest)

get_front : (some : List Entry) (e : Entry) (rest : List Entry) → slice_get (some ++ e ∷ rest) (length some) ≡ Some e
get_front [] e rest = refl
get_front (x ∷ some) e rest = get_front some e rest

-- the entry behind those of a part of a lawful log has no fault
no_fault : (log part : Log) (e : Entry) (rest : List Entry) → IsLawful log → log.table ≡ part.table → log.schema ≡ part.schema → log.entries ≡ part.entries ++ e ∷ rest → fault part e ≡ None
no_fault log part e rest lawful table schema is =
    let n = length part.entries in
    let there : slice_get log.entries n ≡ Some e = ap (λ es. slice_get es n) is ∙ get_front part.entries e rest in
    let none = fault_next log n e there lawful in
    let same : take n log.entries ≡ part.entries = ap (take n) is ∙ take_front part.entries (e ∷ rest) in
    sym (λ i. fault_at (table i) (schema i) n (store_of (table i) (same i)) e) ∙ none

refused_by : (bytes : List ℕ) (log part : Log) (at : ℕ) (r : Refusal) (rest : List Entry) → IsLawful log → log.table ≡ part.table → log.schema ≡ part.schema → log.entries ≡ part.entries ++ rest → at < length bytes → FramesTo bytes at rest (length bytes) → IsCause part (framed bytes at) r.cause → ⊥
refused_by bytes log part at r [] lawful table schema is within frames cause = absurd (omega (arith, within, frames))
refused_by bytes log part at r (e ∷ rest) lawful table schema is within frames cause =
    let read = frames.1.1 in
    let why = subst (λ o. IsCause part o r.cause) read cause in
    absurd (cc (why.1, no_fault log part e rest lawful table schema is))

same_read : (x y : Header × ℕ) → ◌≡◌ {A = Result (Header × ℕ) FrameError} (Ok x) (Ok y) → x ≡ y
same_read x y is = cc is

pub refused_is_no_file : (bytes : List ℕ) (r : Refusal) (log : Log) → IsRefused bytes r → IsLogFile bytes log → ⊥
refused_is_no_file bytes r log (inl refused) file = absurd (cc (refused.read, file.read))
refused_is_no_file bytes r log (inr refused) file =
    let before = refused.before in
    let same = same_read (file.header, file.from) (before.header, before.from) (sym file.read ∙ before.read) in
    let header = ap (λ (x : Header × ℕ). x.0) same in
    let from = ap (λ (x : Header × ℕ). x.1) same in
    let part = refused.log in
    let all = goes_on bytes before.from part.entries log.entries refused.at before.frames (subst (λ n. FramesTo bytes n log.entries (length bytes)) from file.frames) in
    refused_by bytes log part refused.at r all.rest file.lawful
    (file.table ∙ ap (λ (h : Header). h.table) header ∙ sym before.table)
    (file.schema ∙ ap (λ (h : Header). columns_of h.columns) header ∙ sym before.schema)
    all.is refused.within all.frames refused.cause

-- ---- the empty log behind a header

pub nothing_read : (bytes : List ℕ) (read : Header × ℕ) (log : Log) (schema : List Column) → headed bytes ≡ Ok read → log ≡ record { table = read.0.table; schema = schema; entries = [] } → schema ≡ columns_of read.0.columns → IsLawful log → IsReadTo bytes log read.1
nothing_read bytes read log schema is empty columns lawful = record {
  header = read.0;
  from = read.1;
  read = is;
  table = ap (λ (l : Log). l.table) empty;
  schema = ap (λ (l : Log). l.schema) empty ∙ columns;
  frames = subst (λ (l : Log). FramesTo bytes read.1 l.entries read.1) (sym empty) refl;
  lawful = lawful;
}
