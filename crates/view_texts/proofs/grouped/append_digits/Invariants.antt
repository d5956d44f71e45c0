-- the digits so far with their commas
use Rattle.std.proofs.Common.{drop}
use Rattle.view_texts.specs.Quotients.{with_commas}
use Rattle.view_texts.proofs.Progress.{Progress}
use Rattle.view_texts.proofs.grouped.append_digits.Given as goal

abbrev pub invariant-loop-at : goal.invariant-loop-at
invariant-loop-at l = Progress l.fn.out.items l.out.items (with_commas (drop l.at l.digits)) (with_commas l.digits)
