use Rattle.std.proofs.Common.{arith, sym, ◌∙◌}
use Rattle.folded_lines.proofs.EndNumbers.{number-longer}
use Rattle.folded_lines.proofs.columns.number_start.Goals as goal

pub loop-start-preserved : goal.loop-start-preserved
loop-start-preserved c = (
  omega (arith, c.loop-start.invariant.0),
  number-longer c.args.text.now c.loop-start.start c.loop-start-test.true c.loop-start.invariant.0 (sym c.is_digit_or_point.ensures ∙ c.if-is_digit_or_point.true) c.loop-start.invariant.1,
)
