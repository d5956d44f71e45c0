use Rattle.std.proofs.Common.{◌++◌, ◌∙◌, ap}
use Rattle.std.proofs.lemmas.Result.{on_ok_weaker}
use Rattle.view_texts.proofs.Places.{quotient_placed}
use Rattle.view_texts.proofs.quotients.append_quotient.Goals as goal

pub returns-clause-ok : goal.returns-clause-ok
returns-clause-ok c =
    let scaled = c.of-scaled in
    let text = quotient_placed c.args.part c.args.whole scaled.result.places scaled.result.part c.nearest.result scaled.ensures.places scaled.ensures.part c.nearest.ensures in
    on_ok_weaker c.append_placed.result (λ e. e ∙ ap (λ all. c.args.out.now.items ++ all) text) c.append_placed.ensures.ok
