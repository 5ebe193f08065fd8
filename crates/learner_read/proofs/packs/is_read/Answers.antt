use Rattle.std.proofs.Common.{◌≡◌, ◌∙◌, ◌+◌, ◌&&◌, ◌||◌, true, false, sym, slice_get, rules, SFits, w64}
use Rattle.std.proofs.lemmas.Int.{to_z-of_z}
use Rattle.stable_file.specs.Opened.{packs_of}
use Rattle.stable_file.specs.declared.pack.Pack.{Pack}
use Rattle.learner_read.specs.Packs.{before_of, delta_has, goes_on_from, goes_on_in, is_wanted, may_hold}
use Rattle.learner_read.proofs.Testing.{field_at}
use Rattle.learner_read.proofs.packs.is_read.Goals as goal

pub returns-then-not-is_wanted : goal.returns-then-not-is_wanted
returns-then-not-is_wanted g c = λ pack at.
    let packs = packs_of c.args.file.now in
    let low = field_at (λ (p : Pack). p.low) (packs_of c.args.file.now) c.args.k pack c.low-least.result at c.low-least.ensures in
    let high = field_at (λ (p : Pack). p.high) (packs_of c.args.file.now) c.args.k pack c.high-greatest.result at c.high-greatest.ensures in
    let low_fits : SFits w64 c.low-least.result = search rules in
    let high_fits : SFits w64 c.high-greatest.result = search rules in
    let lowest = low ∙ sym (to_z-of_z w64 c.low-least.result low_fits) in
    let highest = high ∙ sym (to_z-of_z w64 c.high-greatest.result high_fits) in
    let wanted : is_wanted c.args.snapshot.now.clip c.args.snapshot.now.cuts c.args.piece.now.range pack.low pack.high ≡ false = (λ i. is_wanted (sym c.clip.ensures i) (sym c.cuts.ensures.order i) c.args.piece.now.range (lowest i) (highest i)) ∙ sym c.is_wanted.ensures ∙ c.if-not-is_wanted.true in
    sym (λ i. wanted i && (may_hold c.args.sieve.now.bound pack || (delta_has c.args.piece.now.delta pack.low pack.high || (goes_on_from (before_of (packs_of c.args.file.now) c.args.k) pack || goes_on_in pack (slice_get (packs_of c.args.file.now) (c.args.k + 1))))))

pub returns-then-may_hold : goal.returns-then-may_hold
returns-then-may_hold g c = λ pack at.
    let packs = packs_of c.args.file.now in
    let low = field_at (λ (p : Pack). p.low) (packs_of c.args.file.now) c.args.k pack c.low-least.result at c.low-least.ensures in
    let high = field_at (λ (p : Pack). p.high) (packs_of c.args.file.now) c.args.k pack c.high-greatest.result at c.high-greatest.ensures in
    let low_fits : SFits w64 c.low-least.result = search rules in
    let high_fits : SFits w64 c.high-greatest.result = search rules in
    let lowest = low ∙ sym (to_z-of_z w64 c.low-least.result low_fits) in
    let highest = high ∙ sym (to_z-of_z w64 c.high-greatest.result high_fits) in
    let wanted : is_wanted c.args.snapshot.now.clip c.args.snapshot.now.cuts c.args.piece.now.range pack.low pack.high ≡ true = (λ i. is_wanted (sym c.clip.ensures i) (sym c.cuts.ensures.order i) c.args.piece.now.range (lowest i) (highest i)) ∙ sym c.is_wanted.ensures ∙ c.if-not-is_wanted.false in
    let may : may_hold c.args.sieve.now.bound pack ≡ true = sym (c.may_hold.ensures pack at) ∙ c.if-may_hold.true in
    sym (λ i. wanted i && (may i || (delta_has c.args.piece.now.delta pack.low pack.high || (goes_on_from (before_of (packs_of c.args.file.now) c.args.k) pack || goes_on_in pack (slice_get (packs_of c.args.file.now) (c.args.k + 1))))))

pub returns-then-delta_has : goal.returns-then-delta_has
returns-then-delta_has g c = λ pack at.
    let packs = packs_of c.args.file.now in
    let low = field_at (λ (p : Pack). p.low) (packs_of c.args.file.now) c.args.k pack c.low-least.result at c.low-least.ensures in
    let high = field_at (λ (p : Pack). p.high) (packs_of c.args.file.now) c.args.k pack c.high-greatest.result at c.high-greatest.ensures in
    let low_fits : SFits w64 c.low-least.result = search rules in
    let high_fits : SFits w64 c.high-greatest.result = search rules in
    let lowest = low ∙ sym (to_z-of_z w64 c.low-least.result low_fits) in
    let highest = high ∙ sym (to_z-of_z w64 c.high-greatest.result high_fits) in
    let wanted : is_wanted c.args.snapshot.now.clip c.args.snapshot.now.cuts c.args.piece.now.range pack.low pack.high ≡ true = (λ i. is_wanted (sym c.clip.ensures i) (sym c.cuts.ensures.order i) c.args.piece.now.range (lowest i) (highest i)) ∙ sym c.is_wanted.ensures ∙ c.if-not-is_wanted.false in
    let may : may_hold c.args.sieve.now.bound pack ≡ false = sym (c.may_hold.ensures pack at) ∙ c.if-may_hold.false in
    let has : delta_has c.args.piece.now.delta pack.low pack.high ≡ true = (λ i. delta_has c.args.piece.now.delta (lowest i) (highest i)) ∙ sym c.delta_has.ensures ∙ c.if-delta_has.true in
    sym (λ i. wanted i && (may i || (has i || (goes_on_from (before_of (packs_of c.args.file.now) c.args.k) pack || goes_on_in pack (slice_get (packs_of c.args.file.now) (c.args.k + 1))))))

pub returns-then-goes_on_from : goal.returns-then-goes_on_from
returns-then-goes_on_from g c = λ pack at.
    let packs = packs_of c.args.file.now in
    let low = field_at (λ (p : Pack). p.low) (packs_of c.args.file.now) c.args.k pack c.low-least.result at c.low-least.ensures in
    let high = field_at (λ (p : Pack). p.high) (packs_of c.args.file.now) c.args.k pack c.high-greatest.result at c.high-greatest.ensures in
    let low_fits : SFits w64 c.low-least.result = search rules in
    let high_fits : SFits w64 c.high-greatest.result = search rules in
    let lowest = low ∙ sym (to_z-of_z w64 c.low-least.result low_fits) in
    let highest = high ∙ sym (to_z-of_z w64 c.high-greatest.result high_fits) in
    let wanted : is_wanted c.args.snapshot.now.clip c.args.snapshot.now.cuts c.args.piece.now.range pack.low pack.high ≡ true = (λ i. is_wanted (sym c.clip.ensures i) (sym c.cuts.ensures.order i) c.args.piece.now.range (lowest i) (highest i)) ∙ sym c.is_wanted.ensures ∙ c.if-not-is_wanted.false in
    let may : may_hold c.args.sieve.now.bound pack ≡ false = sym (c.may_hold.ensures pack at) ∙ c.if-may_hold.false in
    let has : delta_has c.args.piece.now.delta pack.low pack.high ≡ false = (λ i. delta_has c.args.piece.now.delta (lowest i) (highest i)) ∙ sym c.delta_has.ensures ∙ c.if-delta_has.false in
    let from : goes_on_from (before_of (packs_of c.args.file.now) c.args.k) pack ≡ true = sym (c.goes_on_from.ensures pack at) ∙ c.if-goes_on_from.true in
    sym (λ i. wanted i && (may i || (has i || (from i || goes_on_in pack (slice_get (packs_of c.args.file.now) (c.args.k + 1))))))

pub returns : goal.returns
returns g c = λ pack at.
    let packs = packs_of c.args.file.now in
    let low = field_at (λ (p : Pack). p.low) (packs_of c.args.file.now) c.args.k pack c.low-least.result at c.low-least.ensures in
    let high = field_at (λ (p : Pack). p.high) (packs_of c.args.file.now) c.args.k pack c.high-greatest.result at c.high-greatest.ensures in
    let low_fits : SFits w64 c.low-least.result = search rules in
    let high_fits : SFits w64 c.high-greatest.result = search rules in
    let lowest = low ∙ sym (to_z-of_z w64 c.low-least.result low_fits) in
    let highest = high ∙ sym (to_z-of_z w64 c.high-greatest.result high_fits) in
    let wanted : is_wanted c.args.snapshot.now.clip c.args.snapshot.now.cuts c.args.piece.now.range pack.low pack.high ≡ true = (λ i. is_wanted (sym c.clip.ensures i) (sym c.cuts.ensures.order i) c.args.piece.now.range (lowest i) (highest i)) ∙ sym c.is_wanted.ensures ∙ c.if-not-is_wanted.false in
    let may : may_hold c.args.sieve.now.bound pack ≡ false = sym (c.may_hold.ensures pack at) ∙ c.if-may_hold.false in
    let has : delta_has c.args.piece.now.delta pack.low pack.high ≡ false = (λ i. delta_has c.args.piece.now.delta (lowest i) (highest i)) ∙ sym c.delta_has.ensures ∙ c.if-delta_has.false in
    let from : goes_on_from (before_of (packs_of c.args.file.now) c.args.k) pack ≡ false = sym (c.goes_on_from.ensures pack at) ∙ c.if-goes_on_from.false in
    c.goes_on_in.ensures pack at ∙ sym (λ i. wanted i && (may i || (has i || (from i || goes_on_in pack (slice_get (packs_of c.args.file.now) (c.args.k + 1))))))
