use Rattle.std.proofs.Common.{◌∷◌, [], ◌++◌, ◌∙◌, List, ap, length, rules}
use Rattle.std.specs.Prelude.{map}
use Rattle.std.specs.List.{range_with_len}
use Rattle.sample_tables.specs.Rows.{Row, named}
use Rattle.sample_tables.proofs.EntryLemmas.{rows_by-push}
use Rattle.sample_tables.proofs.Naming.{samples-fresh}
use Rattle.stack_core.proofs.ledgers.Ledger.take.Goals as goal

pub returns-clause-ok : goal.returns-clause-ok
returns-clause-ok c =
    let table = c.self.inside.table in
    let numbers = range_with_len (length table.names) (length c.args.sample.stack) in
    let rows = rows_by-push table.stacks table.entries numbers c.args.sample.weight (c.recall_rows.ensures.same (numbers ∷ [])) in
    let samples = ap (λ (rows : List Row). map (named (table.names ++ c.args.sample.stack)) rows) rows ∙ samples-fresh _ _ c.args.sample c.recall_rows.ensures.rows in
    search (rules, rows, samples)
