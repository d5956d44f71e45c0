use Rattle.function_sums.proofs.SharedTotal.{shared_often, shared_once}
use Rattle.function_sums.proofs.laws.callees_share_the_total.Goals as goal

pub returns-clause-often : goal.returns-clause-often
returns-clause-often c = shared_often

pub returns-clause-once : goal.returns-clause-once
returns-clause-once c = shared_once
