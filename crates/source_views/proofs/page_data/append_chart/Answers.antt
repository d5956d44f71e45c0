use Rattle.std.proofs.Common.{◌≡◌, ◌∙◌, ◌++◌, ◌∷◌, [], None, codes, subst}
use Rattle.std.specs.Prelude.{OnOk}
use Rattle.page_texts.specs.Page.{Page, page_text}
use Rattle.source_views.specs.Pages.{heading_of, page_with, plain_drawing}
use Rattle.source_views.proofs.PageDrawings.{plain_boxes, with_boxes}
use Rattle.source_views.proofs.page_data.append_chart.Goals as goal

pub returns-clause-ok : goal.returns-clause-ok
returns-clause-ok c =
    let heading = c.args.heading.now in
    let boxes = c.chart.ensures.boxes ∙ c.chart.ensures.chart in
    let drawing = c.drawing-drawing.ensures ∙ with_boxes heading.least None c.timeline_total.result _ c.chart.result.now (plain_boxes c.chart.result.now) ∙ (λ i. plain_drawing heading.least None (c.timeline_total.ensures i) (boxes i)) in
    subst (λ (page : Page). OnOk c.append_page_data.result (c.append_page_data.new.out.items ≡ c.args.out.now.items ++ page_text page))
    (c.page.ensures ∙ (λ i. page_with (heading_of heading) (codes "chart") (drawing i ∷ []))) c.append_page_data.ensures.ok
