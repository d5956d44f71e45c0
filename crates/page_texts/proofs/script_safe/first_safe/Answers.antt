use Rattle.std.proofs.Common.{arith}
use Rattle.std.proofs.lemmas.Grind.{common_steps}
use Rattle.page_texts.proofs.Seams.{front_separator_at, front_byte_at}
use Rattle.page_texts.proofs.script_safe.first_safe.Goals as goal

pub returns-then-not-is_separator-clause-written : goal.returns-then-not-is_separator-clause-written
returns-then-not-is_separator-clause-written c =
    let front = front_byte_at c.args.text.now c.is_separator.result c.requires c.is_separator.ensures.is in
    grind (arith, common_steps, front)

pub returns-then-text-clause-written : goal.returns-then-text-clause-written
returns-then-text-clause-written c =
    let front = front_separator_at c.args.text.now c.is_separator.result c.is_separator.ensures.is in
    grind (arith, common_steps, front)

pub returns-else-text-clause-written : goal.returns-else-text-clause-written
returns-else-text-clause-written c =
    let front = front_separator_at c.args.text.now c.is_separator.result c.is_separator.ensures.is in
    grind (arith, common_steps, front)
