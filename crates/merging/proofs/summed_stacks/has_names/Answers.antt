use Rattle.std.proofs.Common.{arith}
use Rattle.sample_tables.specs.Rows.{name_at}
use Rattle.merging.proofs.SummedLemmas.{named-agree}
use Rattle.merging.proofs.summed_stacks.has_names.Goals as goal

pub returns : goal.returns
returns c _ = named-agree (name_at c.args.table.now.names) (name_at c.args.ledger.now.told) c.args.numbers.now c.args.frames.now (omega arith) (λ k lt. c.loop-at.invariant.same k (omega (arith, lt)))
