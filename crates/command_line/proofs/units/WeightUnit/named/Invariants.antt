use Rattle.std.proofs.Common.{◌≡◌, drop}
use Rattle.std.specs.Prelude.{find}
use Rattle.std.specs.Str.{bytes_eq}
use Rattle.command_line.specs.Units.{named_unit, unit_name}
use Rattle.command_line.proofs.units.WeightUnit.named.Given as goal

abbrev pub invariant-loop-unit : goal.invariant-loop-unit
invariant-loop-unit l = find (λ unit. bytes_eq l.name (unit_name unit)) (drop l.unit-index l.unit-items) ≡ named_unit l.name
