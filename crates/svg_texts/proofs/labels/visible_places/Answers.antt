use Rattle.std.proofs.Common.{sym, ◌∙◌}
use Rattle.svg_texts.proofs.Plain.{number-plain, places-plain}
use Rattle.svg_texts.specs.Shown.{number_text}
use Rattle.svg_texts.proofs.labels.visible_places.Goals as goal

pub returns-then-is_unseen : goal.returns-then-is_unseen
returns-then-is_unseen c =
    let number = c.args.character in
    rw (sym c.is_unseen.ensures ∙ c.if-is_unseen.true) (sym (places-plain (number_text number) (number-plain number)))
