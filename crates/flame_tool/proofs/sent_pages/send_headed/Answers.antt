use Rattle.std.proofs.Common.{◌≡◌, ◌∙◌, ℕ, List, length, ap, sym, subst, rules, arith}
use Rattle.stack_core.specs.Ledgers.{ListState}
use Rattle.command_line.specs.declared.plans.View.{View}
use Rattle.command_line.specs.declared.plans.View.TheVariants.{PairBoxes}
use Rattle.merged_stacks.specs.Timeline.{samples_of}
use Rattle.flame_tool.specs.Pages.{headed_text}
use Rattle.source_views.specs.Pages.{comparison_page, heading_of}
use Rattle.page_texts.specs.Document.{document_text}
use Rattle.source_views.specs.Failures.{Sends}
use Rattle.source_views.proofs.TextLemmas.{listed_samples}
use Rattle.flame_tool.proofs.sent_pages.send_headed.Goals as goal

pub returns-in-PairBoxes-clause-sent : goal.returns-in-PairBoxes-clause-sent
returns-in-PairBoxes-clause-sent g c =
    let lists = c.args.sources.lists in
    let two : length lists ≡ 2 = search rules in
    let is : c.args.plan.now.view ≡ PairBoxes c.in-PairBoxes._width = search rules in
    let before = ap (λ (list : ListState). list.samples) c.index-lists-0.is ∙ listed_samples lists c.lists-lists.result.now 0 c.index-lists-0.result c.lists-lists.ensures.lists (omega (arith, two)) in
    let after = ap (λ (list : ListState). list.samples) c.index-lists-1.is ∙ listed_samples lists c.lists-lists.result.now 1 c.index-lists-1.result c.lists-lists.ensures.lists (omega (arith, two)) in
    subst (λ (text : List ℕ). Sends text (g.W.Outlet.contents c.args.out.now) (g.W.Outlet.contents c.send_comparison_page.new.out) c.send_comparison_page.result)
    ((λ i. document_text (comparison_page (heading_of c.args.heading.now) (before i) (after i))) ∙ ap (λ (view : View). headed_text (heading_of c.args.heading.now) view (samples_of lists) c.args.sources.order c.args.plan.now.options.every) (sym is))
    c.send_comparison_page.ensures.sent
