-- The texts of faults, as messages have them.
use Rattle.std.specs.Prelude.{ℕ, List, codes}
use Rattle.byte_io.specs.declared.whole_input.LoadFault.{LoadFault}
use Rattle.byte_io.specs.declared.whole_input.LoadFault.TheVariants as load
use Rattle.byte_io.specs.declared.piece_output.PieceFault.{PieceFault}
use Rattle.byte_io.specs.declared.piece_output.PieceFault.TheVariants as piece
use Rattle.byte_io.specs.declared.whole_output.SendFault.{SendFault}

abbrev pub load_fault_text : LoadFault → List ℕ
load_fault_text load.Io = codes "cannot be read"
load_fault_text load.TooLarge = codes "too large"
load_fault_text load.OutOfMemory = codes "out of memory"

abbrev pub send_fault_text : SendFault → List ℕ
send_fault_text fault = codes "output failed"

abbrev pub piece_fault_text : PieceFault → List ℕ
piece_fault_text piece.OutOfMemory = codes "out of memory"
piece_fault_text piece.Output = codes "output failed"
