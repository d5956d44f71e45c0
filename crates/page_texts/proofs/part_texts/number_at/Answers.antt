use Rattle.std.proofs.Common.{arith}
use Rattle.std.proofs.lemmas.Grind.{common_steps}
use Rattle.page_texts.proofs.Columns.{number-at}
use Rattle.page_texts.proofs.part_texts.number_at.Goals as goal

pub returns : goal.returns
returns c =
    let run = c.args.run.now in
    let at = c.args.at in
    let same = number-at run.column run.before run.boxes.now at (omega arith) in
    grind (arith, common_steps, same)
