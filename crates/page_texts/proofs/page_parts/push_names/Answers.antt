use Rattle.std.proofs.Common.{[], false, map, arith}
use Rattle.std.proofs.lemmas.Grind.{common_steps}
use Rattle.serde_json.specs.Data.{string}
use Rattle.page_texts.proofs.PartLists.{values_text-next, items_text-items_of}
use Rattle.page_texts.proofs.page_parts.push_names.Goals as goal

pub loop-number-preserved : goal.loop-number-preserved
loop-number-preserved c =
    let more = values_text-next false string c.args.names.now c.loop-number.number [] (omega arith) in
    grind (arith, common_steps, more)

pub returns : goal.returns
returns c =
    let closed = items_text-items_of false (map string c.args.names.now) in
    grind (arith, common_steps, closed)
