use Rattle.std.proofs.Common.{slice_index}
use Rattle.ranked_rows.proofs.MappedLists.{appended_more, appended_all}
use Rattle.ranked_rows.proofs.rows.append_ranks.Goals as goal

pub loop-number-preserved : goal.loop-number-preserved
loop-number-preserved c =
    appended_more (slice_index c.args.ranks.now) c.args.numbers.now c.loop-number.number-index 0 c.args.frames.now.items c.loop-number.frames.items c.push.new.self.items c.loop-number-test.true c.loop-number.invariant c.in_ok-push.ensures.items

pub returns-clause-ok : goal.returns-clause-ok
returns-clause-ok c = appended_all (slice_index c.args.ranks.now) c.args.numbers.now c.loop-number.number-index c.args.frames.now.items c.loop-number.frames.items c.loop-number-test.false c.loop-number.invariant
