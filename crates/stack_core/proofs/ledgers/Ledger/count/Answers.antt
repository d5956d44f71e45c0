use Rattle.std.proofs.lemmas.List.{length-map}
use Rattle.stack_core.proofs.ledgers.Ledger.count.Goals as goal

pub returns-clause-count : goal.returns-clause-count
returns-clause-count c = rw (← c.self.view_is, length-map, length-map) c.len.ensures
