use Rattle.std.proofs.Common.{◌∙◌, ◌++◌, ap, false}
use Rattle.std.proofs.lemmas.Result.{on_ok_weaker}
use Rattle.run_options.specs.declared.orders.FunctionOrder.TheVariants.{Own}
use Rattle.function_sums.specs.TopTexts.{top_table}
use Rattle.live_lines.proofs.frames.append_table.Goals as goal

pub returns : goal.returns
returns c =
    on_ok_weaker c.append_sum_table.result
    (λ top samples are weighs. top Own samples are weighs ∙ ap (λ told. c.args.out.now.items ++ top_table false told Own 10 samples) c.nothing.ensures) c.append_sum_table.ensures.top
