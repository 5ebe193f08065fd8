use Rattle.std.proofs.Common.{rules, ◌≤◌, length}
use Rattle.flash_mem.specs.Files.{image_of}
use Rattle.flash_mem.proofs.Outcome.{part_torn}
use Rattle.flash_mem.proofs.crash.write_outcome.Goals as goal

pub returns-in_ok-change_file-in_default : goal.returns-in_ok-change_file-in_default
returns-in_ok-change_file-in_default c =
    let fewer : length c.deref.result.now ≤ length c.args.bytes.now = search rules in
    part_torn c.args.file c.args.at (length c.args.bytes.now) c.deref.result.now (image_of c.args.image.now) (image_of c.change_file-in_default.new.files) fewer (c.in_ok-change_file-in_default.ensures.ok)
