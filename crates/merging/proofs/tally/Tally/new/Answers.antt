use Rattle.std.proofs.Common.{refl}
use Rattle.merging.proofs.CountLemmas.{none_counted}
use Rattle.merging.proofs.tally.Tally.new.Goals as goal

pub returns-clause-every : goal.returns-clause-every
returns-clause-every c = refl

pub returns-clause-tallied : goal.returns-clause-tallied
returns-clause-tallied c = record { at_is = refl; counts_are = none_counted c.args.every _ c.new.ensures.items }
