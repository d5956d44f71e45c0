use Rattle.std.proofs.Common.{◌∙◌, ◌≡◌, ap, arith, codes, rules, sym}
use Rattle.std.specs.Prelude.{unwrap_or}
use Rattle.command_line.specs.declared.arguments.TheConstants.{MOST_ROWS}
use Rattle.command_line.proofs.ReadEntries.{number_given}
use Rattle.command_line.proofs.views.rows.Goals as goal

pub returns-in-Some : goal.returns-in-Some
returns-in-Some c =
    let given = number_given c.args.entries.now (codes "number") MOST_ROWS c.get_one.result (omega arith) c.requires c.get_one.ensures.none c.get_one.ensures.value in
    let same : c.from.result ≡ c.in-Some.rows = search rules in
    same ∙ ap (λ o. unwrap_or o 10) (sym c.in-Some.is ∙ given.0)

pub returns-in-None : goal.returns-in-None
returns-in-None c =
    let given = number_given c.args.entries.now (codes "number") MOST_ROWS c.get_one.result (omega arith) c.requires c.get_one.ensures.none c.get_one.ensures.value in
    ap (λ o. unwrap_or o 10) (sym c.in-None.is ∙ given.0)
