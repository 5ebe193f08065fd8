use Rattle.std.proofs.Common.{◌≡◌, ◌∙◌, refl, sym, ℕ, Option, Some, None, IfSome}
use Rattle.region_table.proofs.Nexts.{next_is_ready, none_is_left, all_are_left}
use Rattle.region_table.proofs.table.RegionTable.next_ready.Goals as goal

if_some : (o : Option ℕ) (P : ℕ → Type 0) → ((m : ℕ) → o ≡ Some m → P m) → IfSome o P
if_some None P each = tt
if_some (Some m) P each = each m refl

pub returns-clause-ready : goal.returns-clause-ready
returns-clause-ready c = λ A is. if_some c.find_next.result _ (λ m some. next_is_ready c.args.logs.now c.told_lawful.ensures A c.args.self.now is c.args.part c.args.parts c.args.below m (sym (c.find_next.ensures A is) ∙ some))

pub returns-clause-none : goal.returns-clause-none
returns-clause-none c = λ A is none. none_is_left c.args.logs.now c.told_lawful.ensures A c.args.self.now is c.args.part c.args.parts c.args.below (sym (c.find_next.ensures A is) ∙ none)

pub returns-clause-left : goal.returns-clause-left
returns-clause-left c = λ A is all. c.find_next.ensures A is ∙ sym (all_are_left c.args.logs.now c.told_lawful.ensures A c.args.self.now is c.args.part c.args.parts c.args.below all)
