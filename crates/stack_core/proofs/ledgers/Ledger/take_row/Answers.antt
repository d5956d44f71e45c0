use Rattle.std.proofs.Common.{[], ◌∷◌, ◌++◌, List, length, map, ap, ◌∙◌}
use Rattle.std.proofs.lemmas.List.{map_push}
use Rattle.std.proofs.lemmas.Result.{on_ok_weaker}
use Rattle.sample_tables.specs.declared.samples.Sample.{Sample}
use Rattle.sample_tables.specs.Rows.{Row, named, rows_by}
use Rattle.sample_tables.proofs.EntryLemmas.{rows_by-push}
use Rattle.stack_core.specs.Ledgers.{LedgerState, with_row}
use Rattle.stack_core.proofs.ledgers.Ledger.take_row.Goals as goal

pub returns-clause-ok : goal.returns-clause-ok
returns-clause-ok c =
    let table = c.self.inside.table in
    let row : Row = record { frames = c.args.frames; weight = c.args.weight } in
    let rows = rows_by-push table.stacks table.entries c.args.frames c.args.weight (c.recall_rows.ensures.same (c.args.frames ∷ [])) in
    let samples = ap (map (named table.names)) rows ∙ map_push (named table.names) (rows_by table.stacks table.entries) row in
    let whole : List Sample → List Row → LedgerState = λ samples rows. record {
      samples = samples;
      close = c.self.inside.close;
      told = table.names;
      rows = rows;
      stacks = table.stacks ++ c.args.frames ∷ [];
      entries = table.entries ++ record { stack = length table.stacks; weight = c.args.weight } ∷ [];
    } in
    let ok = rw c.get.ensures at c.take_row.ensures.ok in
    on_ok_weaker c.take_row.result (λ taken. rw taken ((λ i. whole (samples i) (rows i)) ∙ ap (λ (s : LedgerState). with_row s row) c.self.view_is)) ok
