use Rattle.std.proofs.Common.{◌∙◌}
use Rattle.merging.proofs.tally.counts_with.Goals as goal

pub returns : goal.returns
returns c order is = c.count_source.ensures order (c.in_ok-make_room.ensures.same ∙ c.in_ok-more.ensures.items ∙ is)
