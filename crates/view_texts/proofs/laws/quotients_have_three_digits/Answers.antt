use Rattle.std.proofs.Common.{arith}
use Rattle.view_texts.proofs.ThreeDigits.{enough, fewest}
use Rattle.view_texts.proofs.laws.quotients_have_three_digits.Goals as goal

pub returns-clause-enough : goal.returns-clause-enough
returns-clause-enough c part whole not_small = enough 20 part whole (omega arith)

pub returns-clause-fewest : goal.returns-clause-fewest
returns-clause-fewest c = fewest 20
