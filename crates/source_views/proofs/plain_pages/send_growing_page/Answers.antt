use Rattle.std.proofs.Common.{◌∙◌, None, OnErr, OnOk, subst}
use Rattle.std.specs.Io.KnownBytes.{Appends}
use Rattle.byte_io.specs.Pieces.{AppendsFront}
use Rattle.merged_stacks.specs.RankedStacks.{ranked_samples}
use Rattle.page_texts.specs.Document.{document_text}
use Rattle.page_texts.specs.Page.{Page}
use Rattle.source_views.specs.Pages.{heading_of}
use Rattle.source_views.proofs.PageDrawings.{grown_page, plain_boxes, with_boxes}
use Rattle.source_views.proofs.plain_pages.send_growing_page.Goals as goal

pub returns-clause-ok : goal.returns-clause-ok
returns-clause-ok g c samples merged =
    let heading = c.growing_heading-heading.result in
    let drawing = c.drawing.ensures ∙ with_boxes heading.least None c.total-total.result _ c.in_ok-chart.chart (plain_boxes c.in_ok-chart.chart) in
    subst (λ (page : Page). OnOk c.send_page.result (Appends (g.W.Outlet.contents c.args.out.now) (g.W.Outlet.contents c.send_page.new.out) (document_text page)))
    (grown_page c.args.has_more samples (ranked_samples c.args.stacks.now) c.total-total.result c.in_ok-chart.chart (heading_of heading) _ _
    merged c.total-total.ensures c.in_ok-chart.ensures.graph c.growing_heading-heading.ensures drawing c.page-page.ensures)
    c.send_page.ensures.ok

pub returns-clause-front : goal.returns-clause-front
returns-clause-front g c samples merged =
    let heading = c.growing_heading-heading.result in
    let drawing = c.drawing.ensures ∙ with_boxes heading.least None c.total-total.result _ c.in_ok-chart.chart (plain_boxes c.in_ok-chart.chart) in
    subst (λ (page : Page). OnErr c.send_page.result (AppendsFront (document_text page) (g.W.Outlet.contents c.args.out.now) (g.W.Outlet.contents c.send_page.new.out)))
    (grown_page c.args.has_more samples (ranked_samples c.args.stacks.now) c.total-total.result c.in_ok-chart.chart (heading_of heading) _ _
    merged c.total-total.ensures c.in_ok-chart.ensures.graph c.growing_heading-heading.ensures drawing c.page-page.ensures)
    c.send_page.ensures.front
