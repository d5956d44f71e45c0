use Rattle.std.proofs.Common.{◌∙◌, ◌∷◌, [], None, codes, subst}
use Rattle.page_texts.specs.Document.{document_text}
use Rattle.page_texts.specs.Page.{Page}
use Rattle.merged_stacks.specs.Merged.{all_samples}
use Rattle.merged_stacks.specs.Timeline.{samples_of}
use Rattle.source_views.specs.Failures.{Sends}
use Rattle.source_views.specs.Pages.{heading_of, page_with, plain_drawing}
use Rattle.source_views.proofs.PageDrawings.{plain_boxes, with_boxes}
use Rattle.source_views.proofs.plain_pages.send_graph_page.Goals as goal

pub returns-clause-sent : goal.returns-clause-sent
returns-clause-sent g c =
    let heading = c.args.heading.now in
    let boxes = c.in_ok-chart.ensures.graph (all_samples (samples_of c.args.sources.now.lists)) c.in_ok-merged.ensures in
    let drawing = c.drawing-drawing.ensures ∙ with_boxes heading.least None c.total.result _ c.in_ok-chart.chart (plain_boxes c.in_ok-chart.chart) ∙ (λ i. plain_drawing heading.least None (c.total.ensures.total i) (boxes i)) in
    subst (λ (page : Page). Sends (document_text page) (g.W.Outlet.contents c.args.out.now) (g.W.Outlet.contents c.send_whole_page.new.out) c.send_whole_page.result)
    (c.page.ensures ∙ (λ i. page_with (heading_of heading) (codes "graph") (drawing i ∷ []))) c.send_whole_page.ensures.sent
