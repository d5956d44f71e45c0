-- before the place nothing is refused, and no help is asked for
use Rattle.std.proofs.Common.{◌≡◌, drop, map, string_bytes}
use Rattle.command_line.specs.EarlyValues.{refuses_before_help}
use Rattle.command_line.proofs.early_values.refused_before_help.Given as goal

abbrev pub invariant-loop-at : goal.invariant-loop-at
invariant-loop-at l = refuses_before_help (map string_bytes l.words) ≡ refuses_before_help (map string_bytes (drop l.at l.words))
