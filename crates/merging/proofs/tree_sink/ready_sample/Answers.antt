use Rattle.std.proofs.Common.{refl}
use Rattle.merging.proofs.SinkLemmas.{sink-grows}
use Rattle.merging.proofs.tree_sink.ready_sample.Goals as goal

pub returns-in_err-set-clause-sink : goal.returns-in_err-set-clause-sink
returns-in_err-set-clause-sink c tree snapshots h = sink-grows c.args.tally.now c.args.tally.now c.args.table.now c.set.new.table tree snapshots h c.set.ensures.grows c.set.ensures.distinct c.requires.tallied refl refl

pub returns-clause-sink : goal.returns-clause-sink
returns-clause-sink c tree snapshots h =
    let r = c.reserve in
    sink-grows c.args.tally.now r.new.self c.args.table.now c.set.new.table tree snapshots h c.set.ensures.grows c.set.ensures.distinct r.ensures.tallied r.ensures.every r.ensures.taken
