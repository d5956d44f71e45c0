-- What a sink of shared stacks took.
use Rattle.std.specs.Prelude.{ℕ, List, map}
use Rattle.sample_tables.specs.declared.samples.Sample.{Sample as TakenSample}
use Rattle.bench_rings.specs.declared.shared_stacks.SharedStacks.{SharedStacks}

-- the source and the sample of each row
abbrev pub taken_rows : SharedStacks → List (ℕ × TakenSample)
taken_rows sink = map (λ row. (row.source, record { stack = row.stack.value; weight = row.weight })) sink.rows.items
