-- What was not sent for want of memory.
use Rattle.std.proofs.Common.{◌≡◌}
use Rattle.std.specs.Prelude.{Result, Ok, Err, IsErrAnd, IsErrOf}
use Rattle.byte_io.specs.declared.piece_output.PieceFault.{PieceFault}
use Rattle.byte_io.specs.declared.piece_output.PieceFault.TheVariants.{OutOfMemory, Output}

-- no call of the output failed
pub not_of_output : {T P : Type 0} (result : Result T PieceFault) → IsErrAnd result (λ fault. fault ≡ OutOfMemory) → IsErrOf result Output → P
not_of_output (Ok value) memory output = absurd memory
not_of_output (Err fault) memory output = cc
