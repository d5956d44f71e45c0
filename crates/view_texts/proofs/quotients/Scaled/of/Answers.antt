use Rattle.std.proofs.Common.{◌≡◌, ◌+◌, ◌-◌, suc, ◌∙◌, ap, arith}
use Rattle.view_texts.specs.Quotients.{decimals}
use Rattle.view_texts.proofs.Places.{decimal_more, no_decimal_more, decimals-zero, tenfold}
use Rattle.view_texts.proofs.quotients.Scaled.of.Goals as goal

pub loop-scaled-preserved : goal.loop-scaled-preserved
loop-scaled-preserved c =
    let scaled = c.loop-scaled.scaled in
    let left : 20 - scaled.places ≡ suc (20 - (scaled.places + 1)) = omega arith in
    let more = decimal_more (20 - scaled.places) (20 - (scaled.places + 1)) scaled.part c.args.whole left (omega arith) in
    record {
      few = omega arith;
      places = omega (arith, more, c.loop-scaled.invariant.places);
      part = tenfold scaled.places c.args.part scaled.part c.loop-scaled.invariant.part;
      fits = omega arith;
    }

pub returns-else-scaled-hundred-clause-places : goal.returns-else-scaled-hundred-clause-places
returns-else-scaled-hundred-clause-places c =
    let scaled = c.loop-scaled.scaled in
    let none = no_decimal_more (20 - scaled.places) scaled.part c.args.whole (omega arith) in
    omega (arith, none, c.loop-scaled.invariant.places)

pub returns-after-loop-scaled-clause-places : goal.returns-after-loop-scaled-clause-places
returns-after-loop-scaled-clause-places c =
    let scaled = c.loop-scaled.scaled in
    let none : 20 - scaled.places ≡ 0 = omega arith in
    let last = ap (λ n. decimals n scaled.part c.args.whole) none ∙ decimals-zero scaled.part c.args.whole in
    omega (arith, last, c.loop-scaled.invariant.places)
