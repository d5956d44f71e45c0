use Rattle.view_texts.proofs.PairRows.{all_pairs}
use Rattle.view_texts.proofs.laws.pairs_have_all_stacks.Goals as goal

pub returns : goal.returns
returns c = all_pairs
