use Rattle.std.proofs.Common.{◌≡◌, ◌∷◌, [], sym, ◌∙◌, fold}
use Rattle.std.specs.declared.cmp.Ordering.TheVariants.{Less, Equal, Greater}
use Rattle.delta_index.specs.Indexes.{put}
use Rattle.column_block.specs.Order.{key_cmp}
use Rattle.delta_index.proofs.Merges.{keeps, replaces, adds, adds_rest, rising_rest, no_items}
use Rattle.delta_index.proofs.merge.merged.Goals as goal

pub loop-next-preserved-in-None : goal.loop-next-preserved-in-None
loop-next-preserved-in-None c =
    let b : c.loop-next.news.now ≡ c.in-Some.next.now ∷ c.in-Some.more.now = c.in-Some.ensures.cases.0 in
    record {
      made = adds_rest (fold put c.args.old.now c.args.new.now) c.loop-next.all.items c.add.new.all.items c.loop-next.olds.now [] c.loop-next.news.now c.in-Some.more.now c.loop-next.invariant.made c.loop-next.invariant.rising c.in-Some.next.now (no_items c.loop-next.olds.now c.in-None.ensures.cases) b c.in_ok-add-in-None.ensures;
      rising = rising_rest c.loop-next.news.now c.in-Some.more.now c.in-Some.next.now c.loop-next.invariant.rising b;
    }

pub loop-next-preserved-in-Less : goal.loop-next-preserved-in-Less
loop-next-preserved-in-Less c =
    let a : c.loop-next.olds.now ≡ c.in-Some-split_first.first.now ∷ c.in-Some-split_first.others.now = c.in-Some-split_first.ensures.cases.0 in
    let b : c.loop-next.news.now ≡ c.in-Some.next.now ∷ c.in-Some.more.now = c.in-Some.ensures.cases.0 in
    let told : key_cmp c.in-Some-split_first.first.now.0 c.in-Some.next.now.0 ≡ Less = sym c.cmp.ensures ∙ c.in-Less.is in
    record {
      made = keeps (fold put c.args.old.now c.args.new.now) c.loop-next.all.items c.add-in-Less.new.all.items c.loop-next.olds.now c.in-Some-split_first.others.now c.loop-next.news.now c.in-Some.more.now c.loop-next.invariant.made c.loop-next.invariant.rising c.in-Some-split_first.first.now c.in-Some.next.now a b told c.in_ok-add-in-Less.ensures;
      rising = c.loop-next.invariant.rising;
    }

pub loop-next-preserved-in-Equal : goal.loop-next-preserved-in-Equal
loop-next-preserved-in-Equal c =
    let a : c.loop-next.olds.now ≡ c.in-Some-split_first.first.now ∷ c.in-Some-split_first.others.now = c.in-Some-split_first.ensures.cases.0 in
    let b : c.loop-next.news.now ≡ c.in-Some.next.now ∷ c.in-Some.more.now = c.in-Some.ensures.cases.0 in
    let told : key_cmp c.in-Some-split_first.first.now.0 c.in-Some.next.now.0 ≡ Equal = sym c.cmp.ensures ∙ c.in-Equal.is in
    record {
      made = replaces (fold put c.args.old.now c.args.new.now) c.loop-next.all.items c.add-in-Equal.new.all.items c.loop-next.olds.now c.in-Some-split_first.others.now c.loop-next.news.now c.in-Some.more.now c.loop-next.invariant.made c.loop-next.invariant.rising c.in-Some-split_first.first.now c.in-Some.next.now a b told c.in_ok-add-in-Equal.ensures;
      rising = rising_rest c.loop-next.news.now c.in-Some.more.now c.in-Some.next.now c.loop-next.invariant.rising b;
    }

pub loop-next-preserved : goal.loop-next-preserved
loop-next-preserved c =
    let a : c.loop-next.olds.now ≡ c.in-Some-split_first.first.now ∷ c.in-Some-split_first.others.now = c.in-Some-split_first.ensures.cases.0 in
    let b : c.loop-next.news.now ≡ c.in-Some.next.now ∷ c.in-Some.more.now = c.in-Some.ensures.cases.0 in
    let told : key_cmp c.in-Some-split_first.first.now.0 c.in-Some.next.now.0 ≡ Greater = sym c.cmp.ensures ∙ c.in-Greater.is in
    record {
      made = adds (fold put c.args.old.now c.args.new.now) c.loop-next.all.items c.add-in-Greater.new.all.items c.loop-next.olds.now c.in-Some-split_first.others.now c.loop-next.news.now c.in-Some.more.now c.loop-next.invariant.made c.loop-next.invariant.rising c.in-Some-split_first.first.now c.in-Some.next.now a b told c.in_ok-add-in-Greater.ensures;
      rising = rising_rest c.loop-next.news.now c.in-Some.more.now c.in-Some.next.now c.loop-next.invariant.rising b;
    }
