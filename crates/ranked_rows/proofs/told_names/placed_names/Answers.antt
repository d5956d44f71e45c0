use Rattle.std.proofs.Common.{arith, ap, length}
use Rattle.std.proofs.lemmas.List.{length_push}
use Rattle.ranked_rows.specs.checked.Names.{NameAt}
use Rattle.ranked_rows.proofs.RankedNames.{told_more}
use Rattle.ranked_rows.proofs.told_names.placed_names.Goals as goal

pub loop-number-preserved : goal.loop-number-preserved
loop-number-preserved g c =
    let kept = c.loop-number.kept.items in
    let number = c.loop-number.number in
    let name : NameAt = (c.name_of.result, number) in
    let grown = c.in_ok-push.ensures.items in
    record {
      count = omega (arith, ap length grown, length_push kept name, c.loop-number.invariant.count);
      placed = λ names named. told_more kept c.push.new.self.items name names number (omega (arith, named.0)) grown (omega (arith, c.loop-number.invariant.count))
          (named.1 number c.name_of.result (omega arith) c.name_of.ensures) (c.loop-number.invariant.placed names named);
    }
