use Rattle.std.proofs.Common.{List, ℕ, refl, length-append, arith}
use Rattle.byte_io.proofs.pieces.ChainPieces.count.Goals as goal

pub count-requires : goal.count-requires
count-requires g c = omega (arith, c.requires, length-append {A = List ℕ})

pub count-requires-2 : goal.count-requires-2
count-requires-2 g c = omega (arith, c.requires, length-append {A = List ℕ})

pub overflow_add-result : goal.overflow_add-result
overflow_add-result g c = omega (arith, c.requires, c.count.ensures, c.count-2.ensures, length-append {A = List ℕ})

pub returns : goal.returns
returns g c = rw (length-append, c.count.ensures, c.count-2.ensures) refl
