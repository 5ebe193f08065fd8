use Rattle.std.proofs.Common.{◌≡◌, ◌≤◌, ℕ, take, length}
use Rattle.flash_mem.specs.Files.{image_of}
use Rattle.flash_mem.specs.History.{seen_at_last}
use Rattle.flash_mem.specs.Laws.{MayLeave}
use Rattle.flash_mem.proofs.crash.image_after.Given as goal

abbrev pub invariant-loop-call : goal.invariant-loop-call
invariant-loop-call l = record {
  left : MayLeave (image_of l.fn.base) (take l.call-index l.fn.calls) (image_of l.image);
  reads : (f : ℕ) → image_of l.seen f ≡ seen_at_last (image_of l.fn.base) (take l.call-index l.fn.calls) f;
}
