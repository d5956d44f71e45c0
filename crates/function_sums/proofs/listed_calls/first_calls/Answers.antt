use Rattle.std.proofs.Common.{◌∙◌, ◌∷◌, ap, take}
use Rattle.function_sums.proofs.FunctionList.{calls_alone}
use Rattle.function_sums.proofs.listed_calls.first_calls.Goals as goal

pub returns : goal.returns
returns c samples alike =
    c.in_ok-insert.ensures.items
    ∙ (λ i. c.in_ok-named_sum.ensures samples alike i
    ∷ (c.truncate.ensures.items ∙ ap (take c.args.rows) (calls_alone c.args.side c.args.name.now samples c.in_ok-sums.sums.items (c.in_ok-sums.ensures samples alike))) i)
