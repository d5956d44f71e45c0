use Rattle.std.proofs.Common.{arith}
use Rattle.std.proofs.lemmas.Grind.{common_steps}
use Rattle.serde_json.proofs.FreeTexts.{text_of_str}
use Rattle.page_texts.proofs.part_texts.append_text.Goals as goal

pub returns-in-Ok : goal.returns-in-Ok
returns-in-Ok c =
    let sent = c.in-Ok.ensures.events in
    let text = text_of_str c.args.text.now sent.0 c.in-Ok.quoted.items sent.1 sent.2 in
    grind (arith, common_steps, text)
