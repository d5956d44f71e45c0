use Rattle.std.proofs.Common.{List, ◌∷◌, [], ◌++◌, ap, ◌∙◌}
use Rattle.std.proofs.lemmas.Result.{on_ok_weaker}
use Rattle.sample_tables.specs.declared.samples.Sample.{Sample}
use Rattle.sample_tables.specs.Rows.{rows_by}
use Rattle.sample_tables.proofs.Naming.{samples-append}
use Rattle.stack_core.specs.Ledgers.{LedgerState}
use Rattle.stack_core.proofs.ledgers.Ledger.tell.Goals as goal

pub returns-clause-ok : goal.returns-clause-ok
returns-clause-ok c =
    let table = c.self.inside.table in
    let told = table.names ++ c.args.name ∷ [] in
    let same = samples-append table.names (c.args.name ∷ []) (rows_by table.stacks table.entries) c.recall_rows.ensures.rows in
    let whole : List Sample → LedgerState = λ samples. record { samples = samples; close = c.self.inside.close; told = told; rows = rows_by table.stacks table.entries; stacks = table.stacks; entries = table.entries } in
    on_ok_weaker c.add_name.result (λ added. rw added (ap whole same ∙ ap (λ (s : LedgerState). record s { told = s.told ++ c.args.name ∷ [] }) c.self.view_is)) c.add_name.ensures.ok
