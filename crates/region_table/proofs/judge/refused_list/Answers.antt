use Rattle.std.proofs.Common.{◌∙◌, sym, None, Option, get_or, arith, ◌<◌, length}
use Rattle.std.specs.Option.{option_or}
use Rattle.std.proofs.lemmas.List.Sums.{fold_more}
use Rattle.flash_types.specs.declared.ask.AskRegion.{AskRegion}
use Rattle.flash_types.specs.declared.refusal.Refusal.{Refusal}
use Rattle.region_table.specs.Judging.{refused_kept}
use Rattle.region_table.specs.Table.{kept_in}
use Rattle.region_table.proofs.judge.refused_list.Goals as goal

pub loop-one-preserved : goal.loop-one-preserved
loop-one-preserved c =
    let none : AskRegion = record { region = 0; epoch = record { conf_ver = 0; version = 0 }; index = 0 } in
    let here : AskRegion = get_or c.args.asked.now c.loop-one.one-index none in
    let inside : c.loop-one.one-index < length c.args.asked.now = omega arith in
    c.first_refused-why.ensures ∙ (λ i. option_or (c.loop-one.invariant i) (refused_kept c.args.logs.now c.args.ts here c.args.mark (kept_in c.args.regions.now.entries here.region)))
    ∙ sym (fold_more (λ (why : Option Refusal) (one : AskRegion). option_or why (refused_kept c.args.logs.now c.args.ts one c.args.mark (kept_in c.args.regions.now.entries one.region))) None c.args.asked.now c.loop-one.one-index none inside)
