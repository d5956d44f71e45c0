use Rattle.stack_core.proofs.ToldLemmas.{same_told}
use Rattle.stack_core.proofs.laws.a_told_list_has_one_close.Goals as goal

pub returns : goal.returns
returns c = same_told
