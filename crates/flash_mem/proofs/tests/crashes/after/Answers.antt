use Rattle.std.proofs.Common.{◌≡◌, ℕ, List, length, ◌≤◌, subst, sym, arith}
use Rattle.flash_io.specs.Image.{Image, Holds}
use Rattle.flash_mem.specs.Files.{image_of}
use Rattle.flash_mem.proofs.tests.crashes.after.Goals as goal

-- a sync changes nothing that is read
still_there : (new now : Image) (bytes : List ℕ) → Holds new 1 bytes → now ≡ new → (x : List ℕ) × Holds now 1 x × (0 ≤ length x)
still_there new now bytes holds same = (bytes, subst (λ (files : Image). Holds files 1 bytes) (sym same) holds, omega arith)

pub write_at-requires-3 : goal.write_at-requires-3
write_at-requires-3 c = record {
  there = λ _.
      let w = c.in_ok-write_at-2.ensures.written tt in
      still_there (image_of c.write_at-2.new.self.files) (image_of c.sync-2.new.self.files) _ w.2 c.in_ok-sync-2.ensures.files;
}
