use Rattle.std.proofs.Common.{◌≡◌, ◌∙◌, ◌++◌, List, ap, codes, map, subst}
use Rattle.std.specs.Prelude.{OnOk}
use Rattle.page_texts.specs.Drawn.{drawing_of}
use Rattle.page_texts.specs.Page.{Page, PageDrawing, page_text}
use Rattle.source_views.specs.Pages.{heading_of, page_with}
use Rattle.source_views.specs.checked.DrawnProfiles.{pair_list}
use Rattle.source_views.proofs.PageDrawings.{profiles_drawn}
use Rattle.source_views.proofs.page_data.append_comparison.Goals as goal

pub returns-clause-ok : goal.returns-clause-ok
returns-clause-ok c =
    let heading = c.args.heading.now in
    let drawn = c.in_ok-drawn.drawn in
    let drawings = profiles_drawn heading.least c.args.before.now.samples c.args.after.now.samples drawn.before drawn.after _ c.in_ok-drawn.ensures.before c.in_ok-drawn.ensures.after
    (ap (map (drawing_of pair_list)) c.deref.ensures.value ∙ c.in_ok-drawings.ensures) in
    subst (λ (page : Page). OnOk c.append_page_data.result (c.append_page_data.new.out.items ≡ c.args.out.now.items ++ page_text page))
    (c.page.ensures ∙ ap (λ (ds : List PageDrawing). page_with (heading_of heading) (codes "compare") ds) drawings) c.append_page_data.ensures.ok
