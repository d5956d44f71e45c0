use Rattle.std.proofs.Common.{◌≡◌, ◌++◌, arith, ap, ◌∙◌, append_assoc}
use Rattle.std.specs.List.{flat_map}
use Rattle.std.proofs.lemmas.Grind.{common_steps}
use Rattle.page_texts.specs.Page.{page_text}
use Rattle.page_texts.specs.Drawn.{page_of}
use Rattle.page_texts.specs.checked.Parts.{parts_text}
use Rattle.page_texts.proofs.PartLists.{no_parts}
use Rattle.page_texts.proofs.pages.data_between.Goals as goal

pub returns-clause-text : goal.returns-clause-text
returns-clause-text g c =
    let page = page_of g.L.FlameBoxes.boxes c.args.page.now in
    let before = flat_map (λ piece. piece.now) c.args.head.now in
    let behind = flat_map (λ piece. piece.now) c.args.tail.now in
    let none = no_parts in
    let head : parts_text c.push_literals.new.parts.items ≡ before = grind (arith, common_steps, none) in
    c.in_ok-push_literals-2.ensures ∙ ap (λ t. t ++ behind) (c.in_ok-push_page.ensures ∙ ap (λ t. t ++ page_text page) head) ∙ append_assoc before (page_text page) behind
