use Rattle.std.proofs.Common.{arith}
use Rattle.merging.proofs.taken_rows.NumberedSample.set.Goals as goal

pub returns-clause-row : goal.returns-clause-row
returns-clause-row c =
    let numbers = c.in_ok-number_names.ensures.numbers in
    record {
      numbered = record { known = numbers.known; weight = omega arith };
      pair_is = λ i. (c.args.source, record { stack = numbers.named_as i; weight = c.args.weight });
    }
