use Rattle.std.proofs.Common.{ap, ◌∙◌}
use Rattle.page_texts.specs.checked.Parts.{parts_text}
use Rattle.page_texts.proofs.PartLists.{parts_text-push}
use Rattle.page_texts.proofs.parts.push_part.Goals as goal

pub returns : goal.returns
returns c = ap parts_text c.in_ok-push.ensures.items ∙ parts_text-push c.args.parts.now.items c.args.part
