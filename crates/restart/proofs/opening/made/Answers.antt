use Rattle.std.proofs.Common.{rules, ◌≡◌, ◌∙◌, [], ap, subst}
use Rattle.std.specs.Arc.{arc_value}
use Rattle.committed_log.specs.Lawful.{IsLawful}
use Rattle.replica_state.specs.Opening.{IsOpened}
use Rattle.replica_state.specs.declared.numbers.Numbers.{Numbers}
use Rattle.restart.specs.Restart.{numbers_of}
use Rattle.restart.proofs.Named.{core_is}
use Rattle.restart.proofs.Sounding.{opened_set_of, opened_sound_of}
use Rattle.restart.proofs.opening.made.Goals as goal

pub returns-clause-sound : goal.returns-clause-sound
returns-clause-sound g c = λ tells sound.
    let log = arc_value c.args.logs in
    let m = c.args.manifest in
    let t = c.args.parts.table in
    let slots = c.args.parts.segments in
    let s = c.opened-state.result in
    let lawful : IsLawful log = search rules in
    let numbers : c.numbers_of-numbers.result ≡ numbers_of m.state = search rules in
    let o = subst (λ (n : Numbers). IsOpened log slots t n c.args.settings s) numbers c.opened-state.ensures in
    opened_sound_of g.D.Disk g.D.Reader.Grip.Gripped.bytes log lawful c.args.disk m t slots s.count s.highest (g.D.Disk.fault_count c.args.disk) c.args.settings c.requires.ready.parts (c.requires.ready.read tells) c.requires.ready.kept (g.met.D.Disk.leaves_files c.args.disk tells)
    c.made-2.result (c.made-2.ensures ∙ (λ i. record { store = c.made.ensures i; core = core_is log m t slots c.args.settings s o i; retired = [] })) sound

pub returns-clause-set : goal.returns-clause-set
returns-clause-set g c = λ tells.
    let log = arc_value c.args.logs in
    let m = c.args.manifest in
    let t = c.args.parts.table in
    let slots = c.args.parts.segments in
    let s = c.opened-state.result in
    let lawful : IsLawful log = search rules in
    let numbers : c.numbers_of-numbers.result ≡ numbers_of m.state = search rules in
    let o = subst (λ (n : Numbers). IsOpened log slots t n c.args.settings s) numbers c.opened-state.ensures in
    opened_set_of g.D.Disk g.D.Reader.Grip.Gripped.bytes log lawful c.args.disk m t slots s.count s.highest (g.D.Disk.fault_count c.args.disk) c.args.settings c.requires.ready.parts (c.requires.ready.read tells) c.requires.ready.kept (g.met.D.Disk.leaves_files c.args.disk tells)
    c.made-2.result.core ((λ i. (c.made-2.ensures i).core) ∙ core_is log m t slots c.args.settings s o)
