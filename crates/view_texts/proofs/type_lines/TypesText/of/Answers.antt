use Rattle.std.proofs.Common.{◌≡◌, ◌∙◌, ap, arith, length, sym}
use Rattle.view_texts.specs.Types.{type_lines}
use Rattle.view_texts.proofs.TypeLines.{length-lines_from}
use Rattle.view_texts.proofs.type_lines.TypesText.of.Goals as goal

pub returns-clause-few : goal.returns-clause-few
returns-clause-few c =
    let same : length (type_lines c.args.types.now) ≡ length c.get.result.now =
    length-lines_from c.args.types.now.default 0 c.args.types.now.types ∙ sym (ap length c.get.ensures) in
    omega (arith, same, c.count-count.ensures.few)
