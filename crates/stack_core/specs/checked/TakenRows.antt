-- What a sink without memory took, which contracts alone read.
use Rattle.std.specs.Prelude.{ℕ, List, [], ◌∷◌, ◌++◌}
use Rattle.sample_tables.specs.Rows.{named, row_by}
use Rattle.sample_tables.specs.declared.samples.Sample.{Sample}
use Rattle.stack_core.specs.declared.sinks.TakenRow.{TakenRow}
use Rattle.stack_core.specs.declared.sinks.TakenRows.{TakenRows, Nothing, More'}

-- the pair of a source and a sample for which a row stands
abbrev pub pair_of : TakenRow → ℕ × Sample
pair_of taken =
    let ledger = taken.ledger.value in
    (taken.source, named ledger.told (row_by ledger.stacks (record { stack = taken.row; weight = taken.weight })))

abbrev pub pairs_of : TakenRows → List (ℕ × Sample)
pairs_of Nothing = []
pairs_of (More' _ before last) = pairs_of before ++ pair_of last.value ∷ []
