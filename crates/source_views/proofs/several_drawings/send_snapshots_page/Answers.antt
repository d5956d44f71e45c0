use Rattle.std.proofs.Common.{◌∙◌, List, ap, codes, map, subst}
use Rattle.page_texts.specs.Document.{document_text}
use Rattle.page_texts.specs.Drawn.{drawing_of}
use Rattle.page_texts.specs.Page.{Page, PageDrawing}
use Rattle.source_views.specs.Failures.{Sends}
use Rattle.source_views.specs.checked.DrawnRuns.{drawn_list}
use Rattle.source_views.specs.Pages.{heading_of, page_with}
use Rattle.source_views.proofs.several_drawings.send_snapshots_page.Goals as goal

pub returns-clause-sent : goal.returns-clause-sent
returns-clause-sent g c =
    let heading = c.args.heading.now in
    let drawings = ap (map (drawing_of drawn_list)) c.deref.ensures.value ∙ c.in_ok-drawings.ensures ∙ c.in_ok-drawn.ensures heading.least in
    subst (λ (page : Page). Sends (document_text page) (g.W.Outlet.contents c.args.out.now) (g.W.Outlet.contents c.send_whole_page.new.out) c.send_whole_page.result)
    (c.page.ensures ∙ ap (λ (ds : List PageDrawing). page_with (heading_of heading) (codes "graph") ds) drawings) c.send_whole_page.ensures.sent
