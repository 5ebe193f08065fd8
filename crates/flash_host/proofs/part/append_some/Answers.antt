use Rattle.std.proofs.Common.{rules, ◌≡◌, ◌+◌, ◌≤◌, ◌∙◌, length, take, arith, length-take}
use Rattle.flash_host.proofs.Tails.{tail_read, resized_front}
use Rattle.flash_host.proofs.part.append_some.Goals as goal

pub returns-in-Ok-clause-appended : goal.returns-in-Ok-clause-appended
returns-in-Ok-clause-appended c =
    let old = c.args.into.now.items in
    let whole = c.deref_mut.result.now in
    let at : c.len-start.result ≡ length old = search rules in
    let later : c.len-start.result ≤ c.in-Some.end = search rules in
    let front : take c.len-start.result whole ≡ old = resized_front old _ whole c.len-start.result c.in-Some.end at later (c.deref_mut.ensures.value ∙ c.in_ok-resize.ensures.items) in
    let few : c.in-Ok.count ≤ length c.read_once.new.into = search rules in
    let fewer : c.in-Ok.count ≤ c.args.room = search rules in
    let within : c.len-start.result + c.in-Ok.count ≤ c.resize.new.self.len = search (rules, fewer) in (
      take c.in-Ok.count c.read_once.new.into,
      c.truncate.ensures.items ∙ tail_read old c.read_once.new.into _ _ whole c.len-start.result c.in-Ok.count c.resize.new.self.len at front few within,
      omega (arith, length-take c.in-Ok.count c.read_once.new.into, few),
      fewer,
    )
