use Rattle.std.proofs.Common.{◌≡◌, ◌∙◌, ℕ, List, length, ap, sym, subst, rules, arith}
use Rattle.stack_core.specs.Ledgers.{ListState}
use Rattle.source_lists.specs.Lists.{ListsState}
use Rattle.command_line.specs.declared.plans.View.{View}
use Rattle.command_line.specs.declared.plans.View.TheVariants.{Diff, PairBoxes}
use Rattle.merged_stacks.specs.Timeline.{samples_of}
use Rattle.source_views.specs.Texts.{pair_boxes_text, told_text}
use Rattle.function_sums.specs.Told.{told_of}
use Rattle.source_views.specs.Failures.{Sends}
use Rattle.source_views.proofs.TextLemmas.{listed_samples}
use Rattle.source_views.proofs.view_text.send_view.Goals as goal

pub returns-in-PairBoxes-clause-sent : goal.returns-in-PairBoxes-clause-sent
returns-in-PairBoxes-clause-sent g c =
    let lists = c.args.sources.lists in
    let listed = c.lists-lists.ensures.lists ∙ ap (λ (run : ListsState). run.lists) c.get-in-PairBoxes.ensures in
    let two : length lists ≡ 2 = search rules in
    let is : c.args.asked.now.view ≡ PairBoxes c.in-PairBoxes.width = search rules in
    let before = ap (λ (list : ListState). list.samples) c.index-lists-0.is ∙ listed_samples lists c.lists-lists.result.now 0 c.index-lists-0.result listed (omega (arith, two)) in
    let after = ap (λ (list : ListState). list.samples) c.index-lists-1.is ∙ listed_samples lists c.lists-lists.result.now 1 c.index-lists-1.result listed (omega (arith, two)) in
    subst (λ (text : List ℕ). Sends text (g.W.Outlet.contents c.args.out.now) (g.W.Outlet.contents c.send_compared.new.out) c.send_compared.result)
    ((λ i. pair_boxes_text c.in-PairBoxes.width (before i) (after i)) ∙ ap (λ (view : View). told_text (told_of c.args.asked.now.telling) view (samples_of lists) c.args.sources.order c.args.asked.now.every) (sym is))
    c.send_compared.ensures.sent

pub returns-in-Diff-clause-sent : goal.returns-in-Diff-clause-sent
returns-in-Diff-clause-sent g c =
    let run = c.args.sources in
    let told = told_of c.args.asked.now.telling in
    let every = c.args.asked.now.every in
    let is : c.args.asked.now.view ≡ Diff c.in-Diff.diff = search rules in
    subst (λ (text : List ℕ). Sends text (g.W.Outlet.contents c.args.out.now) (g.W.Outlet.contents c.send_diff.new.out) c.send_diff.result)
    (ap (λ (seen : ListsState). told_text told (Diff c.in-Diff.diff) (samples_of seen.lists) seen.order every) c.get-in-Diff.ensures
    ∙ ap (λ (view : View). told_text told view (samples_of run.lists) run.order every) (sym is))
    c.send_diff.ensures.sent
