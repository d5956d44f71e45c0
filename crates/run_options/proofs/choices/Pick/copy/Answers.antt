use Rattle.std.proofs.Common.{ap, sym, ◌∙◌}
use Rattle.run_options.specs.declared.choices.Pick.TheVariants.{Named}
use Rattle.run_options.proofs.choices.Pick.copy.Goals as goal

pub returns-in_ok-name-in-Named : goal.returns-in_ok-name-in-Named
returns-in_ok-name-in-Named c =
    ap Named (c.of.ensures ∙ c.in_ok-name-in-Named.ensures.ok ∙ c.get.ensures) ∙ sym c.in-Named.is
