use Rattle.std.proofs.Common.{◌∙◌, ◌≡◌, arith, codes, rules}
use Rattle.command_line.proofs.ReadEntries.{number_given}
use Rattle.command_line.specs.declared.arguments.TheConstants.{MOST_BETWEEN_SNAPSHOTS}
use Rattle.command_line.proofs.entries.every.Goals as goal

pub returns : goal.returns
returns c =
    let given = number_given c.args.entries.now (codes "every") MOST_BETWEEN_SNAPSHOTS c.get_one.result (omega arith) c.requires c.get_one.ensures.none c.get_one.ensures.value in
    let same : c.map.result ≡ c.get_one.result = search rules in
    same ∙ given.0
