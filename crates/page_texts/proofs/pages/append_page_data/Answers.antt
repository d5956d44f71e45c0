use Rattle.std.proofs.Common.{◌++◌, ap, ◌∙◌, append-nil}
use Rattle.std.proofs.lemmas.Result.{on_ok_weaker}
use Rattle.page_texts.specs.Page.{page_text}
use Rattle.page_texts.specs.Drawn.{page_of}
use Rattle.page_texts.proofs.PartLists.{concat-parts}
use Rattle.page_texts.proofs.pages.append_page_data.Goals as goal

pub returns-clause-ok : goal.returns-clause-ok
returns-clause-ok g c =
    on_ok_weaker c.append_pieces.result
    (λ e. e ∙ ap (λ text. c.args.out.now.items ++ text) (concat-parts c.in_ok-data.data.parts.items ∙ c.in_ok-data.ensures.text ∙ append-nil (page_text (page_of g.L.FlameBoxes.boxes c.args.page.now))))
    c.append_pieces.ensures.ok
