use Rattle.merged_stacks.proofs.MergedRows.{merged-append, sum_at-merged}
use Rattle.view_texts.proofs.laws.merging_goes_on.Goals as goal

pub returns-clause-rows : goal.returns-clause-rows
returns-clause-rows c = merged-append

pub returns-clause-sums : goal.returns-clause-sums
returns-clause-sums c = sum_at-merged
