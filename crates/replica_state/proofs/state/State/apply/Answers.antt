use Rattle.std.proofs.Common.{rules, ◌≡◌, ◌∙◌, ◌+◌, max, true, [], ◌∷◌, ◌++◌, length, map, sym, subst}
use Rattle.std.specs.Arc.{arc_value}
use Rattle.committed_log.specs.Applied.{is_ready, with_position}
use Rattle.committed_log.specs.Lawful.{IsLawful}
use Rattle.committed_log.specs.Log.{Log}
use Rattle.good_replica.specs.Effect.{added, clearing}
use Rattle.region_table.specs.Counting.{applied_in}
use Rattle.region_table.specs.Table.{IsTableAt, size_of}
use Rattle.segment_list.specs.Slots.{absorbed}
use Rattle.replica_state.specs.Core.{Core}
use Rattle.replica_state.specs.Applying.{HasApplied}
use Rattle.replica_state.proofs.Applies.{parts_applied, parts_in_order}
use Rattle.replica_state.proofs.state.State.apply.Goals as goal

pub invariant_of-self-2 : goal.invariant_of-self-2
invariant_of-self-2 g c =
    let log = arc_value c.self.inside.logs in
    let p = c.args.parsed.now.position in
    let table = c.self.inside.table in
    let A = applied_in log table.regions in
    let lawful : IsLawful log = search rules in
    let effects : c.deref-3.result.now ≡ log = search rules in
    let here : c.deref-4.result.now ≡ log = search rules in
    let counts : c.deref-5.result.now ≡ log = search rules in
    let ready : is_ready log A p ≡ true = subst (λ (l : Log). is_ready l A p ≡ true) effects (c.in_ok-effect.ensures.ready A (subst (λ (l : Log). IsTableAt l A table) (sym effects) c.self.invariant.sets.table)) in
    let at : IsTableAt log (with_position A p) c.advance.new.table = subst (λ (l : Log). IsTableAt l (with_position A p) c.advance.new.table) here (c.in_ok-advance.ensures.table A (subst (λ (l : Log). IsTableAt l A table) (sym here) c.self.invariant.sets.table)) in
    let sized : c.count-self-inside.result ≡ size_of log (with_position A p) = subst (λ (l : Log). c.count-self-inside.result ≡ size_of l (with_position A p)) counts (c.count-self-inside.ensures (with_position A p) (subst (λ (l : Log). IsTableAt l (with_position A p) c.advance.new.table) (sym counts) at)) in
    let clears : c.in_ok-effect.effect.clears ≡ clearing log p = subst (λ (l : Log). c.in_ok-effect.effect.clears ≡ clearing l p) effects c.in_ok-effect.ensures.effect.clears in
    let adds : c.in_ok-effect.effect.adds ≡ added log p = subst (λ (l : Log). c.in_ok-effect.effect.adds ≡ added l p) effects c.in_ok-effect.ensures.effect.adds in
    let tag : c.len.result + 1 ≡ length c.self.inside.listed.items + 1 = search rules in
    let slots : c.advance.new.segments ≡ map (absorbed (length c.self.inside.listed.items + 1) (clearing log p) (added log p)) c.self.inside.segments = c.in_ok-advance.ensures.segments ∙ (λ i. map (absorbed (tag i) (clears i) (adds i)) c.self.inside.segments) in
    let listed : c.push_reserved.new.self.items ≡ c.self.inside.listed.items ++ p ∷ [] = search rules in
    let highest : c.raised-self-inside.result ≡ max c.self.inside.highest (p + 1) = search rules in
    let s : Core _ = record { log = log; slots = c.self.inside.segments; table = table; listed = c.self.inside.listed.items; committed = c.self.inside.committed; count = c.self.inside.count; highest = c.self.inside.highest; numbers = c.self.inside.numbers; settings = c.self.inside.settings } in
    parts_in_order s lawful c.self.invariant p ready c.advance.new.table at c.advance.new.segments c.push_reserved.new.self.items c.count-self-inside.result c.raised-self-inside.result slots listed sized highest

pub returns-clause-state : goal.returns-clause-state
returns-clause-state g c =
    let log = arc_value c.self.inside.logs in
    let p = c.args.parsed.now.position in
    let table = c.self.inside.table in
    let A = applied_in log table.regions in
    let lawful : IsLawful log = search rules in
    let effects : c.deref-3.result.now ≡ log = search rules in
    let here : c.deref-4.result.now ≡ log = search rules in
    let counts : c.deref-5.result.now ≡ log = search rules in
    let ready : is_ready log A p ≡ true = subst (λ (l : Log). is_ready l A p ≡ true) effects (c.in_ok-effect.ensures.ready A (subst (λ (l : Log). IsTableAt l A table) (sym effects) c.self.invariant.sets.table)) in
    let at : IsTableAt log (with_position A p) c.advance.new.table = subst (λ (l : Log). IsTableAt l (with_position A p) c.advance.new.table) here (c.in_ok-advance.ensures.table A (subst (λ (l : Log). IsTableAt l A table) (sym here) c.self.invariant.sets.table)) in
    let sized : c.count-self-inside.result ≡ size_of log (with_position A p) = subst (λ (l : Log). c.count-self-inside.result ≡ size_of l (with_position A p)) counts (c.count-self-inside.ensures (with_position A p) (subst (λ (l : Log). IsTableAt l (with_position A p) c.advance.new.table) (sym counts) at)) in
    let clears : c.in_ok-effect.effect.clears ≡ clearing log p = subst (λ (l : Log). c.in_ok-effect.effect.clears ≡ clearing l p) effects c.in_ok-effect.ensures.effect.clears in
    let adds : c.in_ok-effect.effect.adds ≡ added log p = subst (λ (l : Log). c.in_ok-effect.effect.adds ≡ added l p) effects c.in_ok-effect.ensures.effect.adds in
    let tag : c.len.result + 1 ≡ length c.self.inside.listed.items + 1 = search rules in
    let slots : c.advance.new.segments ≡ map (absorbed (length c.self.inside.listed.items + 1) (clearing log p) (added log p)) c.self.inside.segments = c.in_ok-advance.ensures.segments ∙ (λ i. map (absorbed (tag i) (clears i) (adds i)) c.self.inside.segments) in
    let listed : c.push_reserved.new.self.items ≡ c.self.inside.listed.items ++ p ∷ [] = search rules in
    let highest : c.raised-self-inside.result ≡ max c.self.inside.highest (p + 1) = search rules in
    let s : Core _ = record { log = log; slots = c.self.inside.segments; table = table; listed = c.self.inside.listed.items; committed = c.self.inside.committed; count = c.self.inside.count; highest = c.self.inside.highest; numbers = c.self.inside.numbers; settings = c.self.inside.settings } in
    subst (λ (old : Core _). HasApplied old p (record { log = log; slots = c.advance.new.segments; table = c.advance.new.table; listed = c.push_reserved.new.self.items; committed = c.self.inside.committed; count = c.count-self-inside.result; highest = c.raised-self-inside.result; numbers = c.self.inside.numbers; settings = c.self.inside.settings })) c.self.view_is
    (parts_applied s lawful c.self.invariant p ready c.advance.new.table at c.advance.new.segments c.push_reserved.new.self.items c.count-self-inside.result c.raised-self-inside.result slots listed sized highest)
