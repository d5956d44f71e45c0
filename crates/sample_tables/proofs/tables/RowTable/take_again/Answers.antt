use Rattle.std.proofs.Common.{[], ◌∷◌, ◌++◌, ap}
use Rattle.std.proofs.lemmas.Result.{on_ok_weaker}
use Rattle.sample_tables.specs.Tables.{Table}
use Rattle.sample_tables.proofs.tables.RowTable.take_again.Goals as goal

pub returns-clause-ok : goal.returns-clause-ok
returns-clause-ok c =
    let more = ap (λ (t : Table). record t { entries = t.entries ++ record { stack = c.args.stack; weight = c.args.weight } ∷ [] }) c.self.view_is in
    on_ok_weaker c.push.result (λ pushed. rw pushed more) c.push.ensures.ok
