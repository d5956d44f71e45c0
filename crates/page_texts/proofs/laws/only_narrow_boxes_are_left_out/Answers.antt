use Rattle.page_texts.proofs.KeptParts.{keeps_all, leaves_none, contains_kept, contains_left_out, parts_count, parts_weigh}
use Rattle.page_texts.proofs.laws.only_narrow_boxes_are_left_out.Goals as goal

pub returns-clause-all : goal.returns-clause-all
returns-clause-all c = keeps_all

pub returns-clause-none : goal.returns-clause-none
returns-clause-none c = leaves_none

pub returns-clause-kept : goal.returns-clause-kept
returns-clause-kept c = contains_kept

pub returns-clause-others : goal.returns-clause-others
returns-clause-others c = contains_left_out

pub returns-clause-counts : goal.returns-clause-counts
returns-clause-counts c = parts_count

pub returns-clause-weights : goal.returns-clause-weights
returns-clause-weights c = parts_weigh
