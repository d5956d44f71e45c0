use Rattle.std.proofs.Common.{arith}
use Rattle.std.proofs.lemmas.Grind.{common_steps}
use Rattle.view_texts.proofs.PlainTexts.{quoted-plain}
use Rattle.view_texts.proofs.box_buffers.put_quoted.Goals as goal

pub returns-clause-text : goal.returns-clause-text
returns-clause-text c =
    let plain = quoted-plain c.args.text.now c.requires.plain in
    grind (arith, common_steps, plain)
