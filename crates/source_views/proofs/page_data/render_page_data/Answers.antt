use Rattle.std.proofs.Common.{◌≡◌, ◌∙◌, ◌++◌, ℕ, List, ap, sym, subst, arith}
use Rattle.std.specs.Prelude.{OnOk}
use Rattle.stack_core.specs.Ledgers.{ListState}
use Rattle.merged_stacks.specs.Timeline.{samples_of}
use Rattle.page_texts.specs.Page.{page_text}
use Rattle.source_views.proofs.TextLemmas.{listed_samples}
use Rattle.source_views.specs.Pages.{comparison_page, heading_of, view_page}
use Rattle.source_views.specs.declared.page_data.PageView.{PageView}
use Rattle.source_views.proofs.page_data.render_page_data.Goals as goal

pub returns-in-Compare-clause-ok : goal.returns-in-Compare-clause-ok
returns-in-Compare-clause-ok c =
    let views = c.args.views.now in
    let heading = heading_of c.args.heading.now in
    let two = c.requires.pairs c.in-Compare.is in
    let before = ap (λ (list : ListState). list.samples) c.index-lists-0.is ∙ listed_samples views.lists c.lists-lists.result.now 0 c.index-lists-0.result c.lists-lists.ensures.lists (omega (arith, two)) in
    let after = ap (λ (list : ListState). list.samples) c.index-lists-1.is ∙ listed_samples views.lists c.lists-lists.result.now 1 c.index-lists-1.result c.lists-lists.ensures.lists (omega (arith, two)) in
    subst (λ (text : List ℕ). OnOk c.append_comparison.result (c.append_comparison.new.out.items ≡ c.args.out.now.items ++ text))
    ((λ i. page_text (comparison_page heading (before i) (after i))) ∙ ap (λ (view : PageView). page_text (view_page heading view (samples_of views.lists) views.order views.every)) (sym c.in-Compare.is))
    c.append_comparison.ensures.ok
