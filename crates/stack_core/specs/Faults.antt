-- What is written of a fault.
use Rattle.std.specs.Prelude.{ℕ, List, ◌++◌, codes}
use Rattle.std.specs.Fmt.{decimal}
use Rattle.stack_core.specs.declared.endings.ReadFault.{ReadFault}
use Rattle.stack_core.specs.declared.endings.ReadKind.{ReadKind}
use Rattle.stack_core.specs.declared.endings.ReadKind.TheVariants as kinds

-- the name of what is wrong
abbrev pub kind_text : ReadKind → List ℕ
kind_text kinds.Compressed = codes "Compressed"
kind_text kinds.Truncated = codes "Truncated"
kind_text kinds.BadVarint = codes "BadVarint"
kind_text kinds.BadFieldNumber = codes "BadFieldNumber"
kind_text kinds.BadWireType = codes "BadWireType"
kind_text kinds.WrongKind = codes "WrongKind"
kind_text kinds.BadStringZero = codes "BadStringZero"
kind_text kinds.BadString = codes "BadString"
kind_text kinds.ZeroId = codes "ZeroId"
kind_text kinds.DuplicateId = codes "DuplicateId"
kind_text kinds.UnknownFunction = codes "UnknownFunction"
kind_text kinds.UnknownSampleType = codes "UnknownSampleType"
kind_text kinds.NoSampleType = codes "NoSampleType"
kind_text kinds.ValueCount = codes "ValueCount"
kind_text kinds.UnknownLocation = codes "UnknownLocation"
kind_text kinds.NegativeWeight = codes "NegativeWeight"
kind_text kinds.TooDeep = codes "TooDeep"
kind_text kinds.TotalTooLarge = codes "TotalTooLarge"
kind_text kinds.DecimalWeight = codes "DecimalWeight"
kind_text kinds.TwoColumns = codes "TwoColumns"

-- the kind, and where it stands
abbrev pub fault_text : ReadFault → List ℕ
fault_text fault = kind_text fault.kind ++ codes " at " ++ decimal fault.at
