use Rattle.std.proofs.Common.{◌∙◌, refl, sym, ap, subst, arith}
use Rattle.std.specs.ControlFlow.{continue_value}
use Rattle.profile_tables.specs.checked.RowSteps.{IsKnownBy}
use Rattle.profile_tables.proofs.row_steps.known_row.Goals as goal

pub returns-clause-known : goal.returns-clause-known
returns-clause-known c =
    subst (λ front. IsKnownBy c.args.file.now c.args.teller.now front c.args.total (record { row = c.in_ok-row.row; weight = c.in_ok-run.field-0.weight }))
    (sym (c.branch-run.ensures ∙ ap continue_value c.in_ok-run.is))
    (record { weight_is = refl; total_limit = omega (arith, c.if-weight-total.false, c.requires.total); spells = c.in_ok-row.ensures.row })
