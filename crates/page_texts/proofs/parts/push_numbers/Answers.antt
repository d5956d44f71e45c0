use Rattle.std.proofs.Common.{false, map, arith}
use Rattle.std.proofs.lemmas.Grind.{common_steps}
use Rattle.page_texts.specs.Page.{whole_number}
use Rattle.page_texts.proofs.PartLists.{values_text-next, items_text-items_of}
use Rattle.page_texts.proofs.parts.push_numbers.Goals as goal

pub loop-i-preserved : goal.loop-i-preserved
loop-i-preserved c =
    let more = values_text-next false whole_number c.args.numbers.now c.loop-i.i 0 (omega arith) in
    grind (arith, common_steps, more)

pub returns : goal.returns
returns c =
    let closed = items_text-items_of false (map whole_number c.args.numbers.now) in
    grind (arith, common_steps, closed)
