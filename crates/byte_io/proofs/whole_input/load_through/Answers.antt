use Rattle.std.proofs.Common.{arith}
use Rattle.std.proofs.lemmas.Grind.{common_steps}
use Rattle.byte_io.proofs.whole_input.load_through.Goals as goal

pub returns-in_err-load_chunk-clause-too_large : goal.returns-in_err-load_chunk-clause-too_large
returns-in_err-load_chunk-clause-too_large g c = grind (arith, common_steps)

pub chunks-preserved : goal.chunks-preserved
chunks-preserved g c = grind (arith, common_steps)
