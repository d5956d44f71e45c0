use Rattle.merged_stacks.proofs.MergedRows.{is_true, as_true, merged-in_order, merged-weight_at, merged-only}
use Rattle.view_texts.proofs.laws.merged_rows.Goals as goal

pub returns-clause-in_order : goal.returns-clause-in_order
returns-clause-in_order c = λ samples. is_true _ (merged-in_order samples)

pub returns-clause-sums : goal.returns-clause-sums
returns-clause-sums c = merged-weight_at

pub returns-clause-only : goal.returns-clause-only
returns-clause-only c = λ samples rows ordered sums. merged-only samples rows (as_true _ ordered) sums
