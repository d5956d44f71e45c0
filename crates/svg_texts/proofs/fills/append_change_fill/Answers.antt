use Rattle.std.proofs.Common.{arith}
use Rattle.std.proofs.lemmas.Grind.{common_steps}
use Rattle.svg_texts.specs.Fills.{change_fill}
use Rattle.svg_texts.proofs.fills.append_change_fill.Goals as goal
use Rattle.svg_texts.proofs.fills.append_change_fill.Goals.{then-before-after-2, else-before-after-2}

pub returns-then-before-after-clause-ok : goal.returns-then-before-after-clause-ok
unfolding change_fill
returns-then-before-after-clause-ok c = grind (arith, common_steps)

pub returns-clause-ok : goal.returns-clause-ok
unfolding change_fill
returns-clause-ok c =
    elim c.if-before-after-2.branch [ then-before-after-2 w ↦ grind (arith, common_steps) | else-before-after-2 w ↦ grind (arith, common_steps) ]
