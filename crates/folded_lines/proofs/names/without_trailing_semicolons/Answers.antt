use Rattle.std.proofs.Common.{◌∙◌, arith, sym}
use Rattle.folded_lines.proofs.SplitLemmas.{trimmed_step, trimmed_stop}
use Rattle.folded_lines.proofs.names.without_trailing_semicolons.Goals as goal
use Rattle.folded_lines.proofs.names.without_trailing_semicolons.Goals.{then-loop-end-test+else-head-end-eq59, else-loop-end-test}

pub loop-end-preserved : goal.loop-end-preserved
loop-end-preserved c = (
  omega arith,
  trimmed_step c.args.head.now c.loop-end.end c.loop-end-test.true c.loop-end.invariant.0 c.if-head-end-eq59.true ∙ c.loop-end.invariant.1,
)

pub returns : goal.returns
returns c =
    sym (trimmed_stop c.args.head.now c.loop-end.end c.loop-end.invariant.0 (λ some. elim c.loop-end-test.branch [
      | then-loop-end-test+else-head-end-eq59 w ↦ w.if-head-end-eq59.false
      | else-loop-end-test w ↦ absurd (omega arith)
    ]))
    ∙ c.loop-end.invariant.1
