use Rattle.std.proofs.Common.{◌≡◌, ◌∙◌, ◌++◌, ℕ, suc, List, [], ◌∷◌, drop, reverse, take, sym, ap, arith}
use Rattle.segment_list.proofs.Replacing.{one_less, one_moved}
use Rattle.segment_list.proofs.moving.move_back.Goals as goal

pub loop-to-preserved : goal.loop-to-preserved
loop-to-preserved g c =
    let n : ℕ = c.take_last.new.self.len in
    let one : c.loop-to.from.len ≡ suc n = omega (arith, c.take_last.ensures.len) in
    let is : take (suc n) c.args.from.now.items ≡ c.take_last.new.self.items ++ c.take_last.result ∷ [] = ap (λ (k : ℕ). take k c.args.from.now.items) (sym one) ∙ sym c.loop-to.invariant.left ∙ c.take_last.ensures.items in
    let less = one_less c.args.from.now.items c.take_last.new.self.items c.take_last.result n (sym c.take_last.new.self.ok.0) is in
    record {
      least = omega (arith, c.loop-to-test.true, c.len.ensures, one);
      most = omega (arith, c.loop-to.invariant.most, one);
      left = less.0;
      moved =
          c.push_reserved.ensures.items
          ∙ ap (λ (r : List g.row.T.Denot). r ++ c.take_last.result ∷ []) (c.loop-to.invariant.moved ∙ ap (λ (k : ℕ). c.args.to.now.items ++ reverse (drop k c.args.from.now.items)) one)
          ∙ one_moved c.args.to.now.items c.args.from.now.items c.take_last.result n less.1;
      count = omega (arith, c.push_reserved.ensures.len, c.loop-to.invariant.count, one);
      room = c.push_reserved.ensures.capacity ∙ c.loop-to.invariant.room;
    }
