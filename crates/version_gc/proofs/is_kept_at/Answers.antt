use Rattle.std.proofs.Common.{◌≡◌, ◌∙◌, ◌<◌, ◌≤◌, ℕ, ◌+◌, true, false, not, drop, nat_lt, sym, arith}
use Rattle.version_gc.proofs.Collections.{kept_here, kept_above, kept_beside, kept_alone, kept_last}
use Rattle.version_gc.proofs.is_kept_at.Goals as goal
use Rattle.version_gc.proofs.is_kept_at.Goals.{then-i-len+else-have_one_handle, else-i-len}

is_above : (a b : ℕ) → a < b → nat_lt a b ≡ true
is_above a b e = grind arith

is_low : (a b : ℕ) → b ≤ a → nat_lt a b ≡ false
is_low a b e = grind arith

pub returns-then-safe_point-version : goal.returns-then-safe_point-version
returns-then-safe_point-version c =
    kept_here c.args.safe_point c.args.block.now c.args.i c.at-version.result.now true c.at-version.ensures (kept_above c.args.safe_point c.at-version.result.now (drop (c.args.i + 1) c.args.block.now) (is_above c.args.safe_point c.at-version.result.now.ts c.if-safe_point-version.true))

pub returns-then-have_one_handle : goal.returns-then-have_one_handle
returns-then-have_one_handle c =
    kept_here c.args.safe_point c.args.block.now c.args.i c.at-version.result.now (nat_lt c.args.safe_point c.at-next.result.now.ts) c.at-version.ensures
    (kept_beside c.args.safe_point c.args.block.now c.args.i c.at-version.result.now c.at-next.result.now c.at-next.ensures (is_low c.args.safe_point c.at-version.result.now.ts c.if-safe_point-version.false) (sym c.have_one_handle.ensures ∙ c.if-have_one_handle.true))

pub returns : goal.returns
returns c =
    let low : nat_lt c.args.safe_point c.at-version.result.now.ts ≡ false = is_low c.args.safe_point c.at-version.result.now.ts c.if-safe_point-version.false in
    kept_here c.args.safe_point c.args.block.now c.args.i c.at-version.result.now (not c.at-version.result.now.gone) c.at-version.ensures
    (elim c.if-i-len.branch [
      | then-i-len+else-have_one_handle w ↦ kept_alone c.args.safe_point c.args.block.now c.args.i c.at-version.result.now w.at-next.result.now w.at-next.ensures low (sym w.have_one_handle.ensures ∙ w.if-have_one_handle.false)
      | else-i-len w ↦ kept_last c.args.safe_point c.args.block.now c.args.i c.at-version.result.now (omega (arith, w.if-i-len.false)) low
    ])
