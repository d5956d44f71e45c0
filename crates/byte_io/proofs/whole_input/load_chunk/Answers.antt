use Rattle.std.proofs.Common.{arith}
use Rattle.std.proofs.lemmas.Grind.{common_steps}
use Rattle.byte_io.proofs.whole_input.load_chunk.Goals as goal

pub returns-then-limit-len-clause-too_large : goal.returns-then-limit-len-clause-too_large
returns-then-limit-len-clause-too_large g c = grind (arith, common_steps)
