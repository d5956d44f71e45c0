use Rattle.std.proofs.Common.{◌∙◌, List, ap, map, subst, unwrap_or, ℕ}
use Rattle.merged_stacks.specs.Timeline.{samples_of}
use Rattle.page_texts.specs.Drawn.{source_of}
use Rattle.source_views.specs.Pages.{PageHeading}
use Rattle.flame_tool.specs.Pages.{default_title, headed_text, sources_of}
use Rattle.source_views.specs.Failures.{Sends}
use Rattle.flame_tool.proofs.sent_pages.send_asked_page.Goals as goal

pub returns-clause-sent : goal.returns-clause-sent
returns-clause-sent g c =
    let lists = samples_of c.args.sources.lists in
    let title = c.deref.ensures ∙ c.in_ok-title.ensures ∙ ap (λ (files : List (List ℕ)). unwrap_or c.args.page.now.title (default_title files)) c.get-files.ensures in
    let sources = ap (map source_of) c.deref-2.ensures.value ∙ c.in_ok-described.ensures ∙ (λ i. sources_of c.args.plan.now.unit (c.get-files.ensures i) (c.get.ensures i) lists) in
    subst (λ (heading : PageHeading). Sends (headed_text heading c.args.plan.now.view lists c.args.sources.order c.args.plan.now.options.every) (g.W.Outlet.contents c.args.out.now) (g.W.Outlet.contents c.send_headed.new.out) c.send_headed.result)
    (c.heading_with-heading.ensures ∙ (λ i. record { title = title i; sources = sources i; least = c.args.page.now.least; whole = c.args.facts.now.whole; is_root_below = c.args.page.now.is_root_below; is_share = c.args.page.now.is_share })) c.send_headed.ensures.sent
