-- The units that the words give to weights, by their names.
use Rattle.std.specs.Prelude.{ℕ, List, [], ◌∷◌, Option, codes, find}
use Rattle.std.specs.Str.{bytes_eq}
use Rattle.command_line.specs.declared.units.WeightUnit.{WeightUnit}
use Rattle.command_line.specs.declared.units.WeightUnit.TheVariants.{Nanoseconds, Microseconds, Milliseconds, Seconds, Bytes, Samples}

abbrev pub unit_name : WeightUnit → List ℕ
unit_name Nanoseconds = codes "nanoseconds"
unit_name Microseconds = codes "microseconds"
unit_name Milliseconds = codes "milliseconds"
unit_name Seconds = codes "seconds"
unit_name Bytes = codes "bytes"
unit_name Samples = codes "samples"

abbrev pub units : List WeightUnit
units = Nanoseconds ∷ Microseconds ∷ Milliseconds ∷ Seconds ∷ Bytes ∷ Samples ∷ []

abbrev pub named_unit : List ℕ → Option WeightUnit
named_unit name = find (λ unit. bytes_eq name (unit_name unit)) units
