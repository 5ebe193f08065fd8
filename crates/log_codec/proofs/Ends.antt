-- A frame takes at least its length, so reading frames ends.
use Rattle.std.proofs.Common.{◌≡◌, ℕ, ◌+◌, ◌-◌, ◌<◌, ◌≤◌, Bool, true, false, cond, ltb, List, length, take, drop, Result, Ok, Err, refl, arith, length-drop}
use Rattle.std.specs.Prelude.{◌||◌}
use Rattle.std.specs.Int.{w32, from_be_bytes}
use Rattle.std.proofs.lemmas.Bool.{ltb-false}
use Rattle.flash_list.specs.Steps.{◌>>=◌}
use Rattle.log_codec.specs.declared.fault.FrameError.{FrameError}
use Rattle.log_codec.specs.declared.fault.FrameError.TheVariants.{Short, Bad}
use Rattle.log_codec.specs.declared.entry.Entry.{Entry}
use Rattle.log_codec.specs.declared.entry.Frame.{Frame}
use Rattle.flash_list.specs.Fields.{number_at}
use Rattle.log_codec.specs.Fields.{passes, number_in}
use Rattle.log_codec.specs.Frames.{payload_of, sized_at, frame_at, framed}

pub bind_ok : {A B E : Type 0} (r : Result A E) (f : A → Result B E) (y : B) → (r >>= f) ≡ Ok y → (x : A) × (r ≡ Ok x) × (f x ≡ Ok y)
bind_ok (Ok x) f y e = (x, refl, e)
bind_ok (Err d) f y e = absurd cc

guard_ok : {A E : Type 0} (b : Bool) (d : E) (x : Result A E) (y : A) → cond b (Err d) x ≡ Ok y → (b ≡ false) × (x ≡ Ok y)
guard_ok true d x y e = absurd cc
guard_ok false d x y e = (refl, e)

-- a number takes four bytes
number_takes : (fault : FrameError) (bytes : List ℕ) (x : ℕ × List ℕ) → number_at w32 fault bytes ≡ Ok x → length x.1 + 4 ≡ length bytes
unfolding number_at
number_takes fault bytes x e =
    let g = guard_ok (ltb (length bytes) 4) fault (Ok (from_be_bytes w32 (take 4 bytes), drop 4 bytes)) x e in
    let long : 4 ≤ length bytes = ltb-false _ _ g.0 in
    let same : length (drop 4 bytes) ≡ length x.1 = cc (g.1) in
    omega (arith, length-drop 4 bytes)

number_in_takes : (least greatest : ℕ) (fault : FrameError) (end : ℕ) (bytes : List ℕ) (x : ℕ × List ℕ) → number_in w32 least greatest fault end bytes ≡ Ok x → length x.1 + 4 ≡ length bytes
unfolding number_in
number_in_takes least greatest fault end bytes x e =
    let a = bind_ok (number_at w32 fault bytes) (λ n. cond (ltb n.0 least || ltb greatest n.0) (Err (Bad (end - length bytes))) (Ok n)) x e in
    let g = guard_ok (ltb a.0.0 least || ltb greatest a.0.0) (Bad (end - length bytes)) (Ok a.0) x a.2 in
    let same : length a.0.1 ≡ length x.1 = cc (g.1) in
    omega (arith, number_takes fault bytes a.0 a.1)

pub frame_takes : (end : ℕ) (bytes : List ℕ) (x : Entry × List ℕ) → frame_at end bytes ≡ Ok x → length x.1 + 4 ≤ length bytes
unfolding frame_at sized_at
frame_takes end bytes x e =
    let a = bind_ok (number_in w32 0 16777216 (Short end) end bytes) (λ len. cond (ltb (length len.1) len.0) (Err (Short end)) (payload_of (end - length len.1 + len.0) (take len.0 len.1) >>= λ entry. Ok (entry, drop len.0 len.1))) x e in
    let g = guard_ok (ltb (length a.0.1) a.0.0) (Short end) (payload_of (end - length a.0.1 + a.0.0) (take a.0.0 a.0.1) >>= λ entry. Ok (entry, drop a.0.0 a.0.1)) x a.2 in
    let b = bind_ok (payload_of (end - length a.0.1 + a.0.0) (take a.0.0 a.0.1)) (λ entry. Ok (entry, drop a.0.0 a.0.1)) x g.1 in
    let same : length (drop a.0.0 a.0.1) ≡ length x.1 = cc (b.2) in
    omega (arith, number_in_takes 0 16777216 (Short end) end bytes a.0 a.1, length-drop a.0.0 a.0.1)

-- the place behind a frame is above its own, and no further than the file's end
pub frame_rises : (bytes : List ℕ) (at : ℕ) (frame : Frame) → framed bytes at ≡ Ok frame → at < length bytes → (at < frame.end) × (frame.end ≤ length bytes)
unfolding framed
frame_rises bytes at frame e within =
    let a = bind_ok (frame_at (length bytes) (drop at bytes)) (λ found. Ok (record { entry = found.0; end = length bytes - length found.1 })) frame e in
    let place : length bytes - length a.0.1 ≡ frame.end = cc (a.2) in
    let takes = frame_takes (length bytes) (drop at bytes) a.0 a.1 in
    (omega (arith, takes, length-drop at bytes), omega arith)
