-- How faults are written.
use Rattle.std.specs.Prelude.{ℕ, List, ◌++◌, codes, decimal}
use Rattle.wire_fields.specs.declared.fault.WireFault.{WireFault}
use Rattle.wire_fields.specs.declared.fault.WireKind.{WireKind}
use Rattle.wire_fields.specs.declared.fault.WireKind.TheVariants as kinds

-- the name of what is wrong
abbrev pub kind_text : WireKind → List ℕ
kind_text kinds.Truncated = codes "Truncated"
kind_text kinds.BadVarint = codes "BadVarint"
kind_text kinds.BadFieldNumber = codes "BadFieldNumber"
kind_text kinds.BadWireType = codes "BadWireType"

-- the kind, and where it lies
abbrev pub fault_text : WireFault → List ℕ
fault_text fault = kind_text fault.kind ++ codes " at " ++ decimal fault.at
