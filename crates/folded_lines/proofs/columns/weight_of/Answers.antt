use Rattle.std.proofs.Common.{◌∙◌, ap, ◌+◌, ◌*◌, min}
use Rattle.sample_tables.specs.declared.samples.TheConstants.{WEIGHT_LIMIT}
use Rattle.folded_lines.proofs.NumberLemmas.{weight_step}
use Rattle.folded_lines.proofs.columns.weight_of.Goals as goal

pub loop-b-preserved : goal.loop-b-preserved
loop-b-preserved c =
    c.min-weight.ensures ∙ ap (λ d. min (c.loop-b.weight * 10 + d) (WEIGHT_LIMIT + 1)) c.from.ensures
    ∙ weight_step c.args.digits.now c.loop-b.b-index c.loop-b.weight c.requires c.loop-b-test.true c.loop-b.invariant
