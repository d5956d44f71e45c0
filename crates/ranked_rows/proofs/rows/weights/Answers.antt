use Rattle.std.proofs.Common.{[]}
use Rattle.ranked_rows.specs.checked.Entries.{Entry}
use Rattle.ranked_rows.proofs.MappedLists.{mapped_more, mapped_all}
use Rattle.ranked_rows.proofs.rows.weights.Goals as goal

pub loop-entry-preserved : goal.loop-entry-preserved
loop-entry-preserved c =
    mapped_more (λ (entry : Entry). entry.1) c.args.entries.now c.loop-entry.entry-index (record { ref_ptr = (0, 0); now = [] }, 0, 0) c.loop-entry.weights.items c.push.new.self.items c.loop-entry-test.true c.loop-entry.invariant c.in_ok-push.ensures.items

pub returns : goal.returns
returns c = mapped_all (λ (entry : Entry). entry.1) c.args.entries.now c.loop-entry.entry-index c.loop-entry.weights.items c.loop-entry-test.false c.loop-entry.invariant
