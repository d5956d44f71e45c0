use Rattle.std.proofs.Common.{◌≡◌, List, [], ◌∷◌, ◌++◌, map, ap, ◌∙◌}
use Rattle.std.proofs.lemmas.Result.{on_ok_weaker}
use Rattle.sample_tables.specs.Rows.{Row, named, rows_by}
use Rattle.stack_core.specs.Ledgers.{LedgerState, keeping}
use Rattle.stack_core.proofs.ledgers.Ledger.keep.Goals as goal

pub returns-clause-ok : goal.returns-clause-ok
returns-clause-ok c =
    let table = c.self.inside.table in
    let stacks = table.stacks ++ c.args.frames.now ∷ [] in
    let same : rows_by stacks table.entries ≡ rows_by table.stacks table.entries = c.recall_rows.ensures.same _ in
    let whole : List Row → LedgerState = λ rows. record { samples = map (named table.names) rows; close = c.self.inside.close; told = table.names; rows = rows; stacks = stacks; entries = table.entries } in
    on_ok_weaker c.keep.result (λ kept. rw kept (ap whole same ∙ ap (λ (s : LedgerState). keeping s c.args.frames.now) c.self.view_is)) c.keep.ensures.ok
