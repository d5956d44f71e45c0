use Rattle.std.proofs.Common.{arith}
use Rattle.live_lines.proofs.EndLemmas.{as_many_counts, heard_more}
use Rattle.live_lines.proofs.sink.LiveSinkEndSink.end_source.Goals as goal

pub returns-in_default-clause-heard : goal.returns-in_default-clause-heard
returns-in_default-clause-heard g c = λ below.
    let merge = c.args.self.now.lines.merge in
    absurd (omega (arith, below, c.in_default.ensures.lookup.3, as_many_counts merge.sources merge.taken c.counts-counts.result.now c.counts-counts.ensures))

pub returns-clause-heard : goal.returns-clause-heard
returns-clause-heard g c = λ below.
    let merge = c.args.self.now.lines.merge in
    heard_more merge.sources merge.taken c.counts-counts.result.now (g.T.EndTeller.told c.args.self.now.ends) (g.T.EndTeller.told c.tell.new.self) _ below c.counts-counts.ensures (c.in-Some.ensures.lookup.3.1 0) c.tell.ensures.told
