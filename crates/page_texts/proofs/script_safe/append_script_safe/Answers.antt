use Rattle.std.proofs.Common.{arith}
use Rattle.std.proofs.lemmas.Grind.{common_steps}
use Rattle.page_texts.proofs.Seams.{nothing_left}
use Rattle.page_texts.proofs.script_safe.append_script_safe.Goals as goal

pub returns : goal.returns
returns c =
    let rest = nothing_left c.args.text.now c.loop-at.at in
    grind (arith, common_steps, rest)
