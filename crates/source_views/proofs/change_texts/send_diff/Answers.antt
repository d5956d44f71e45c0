use Rattle.std.proofs.Common.{◌∙◌, ℕ, List, ap, subst, arith}
use Rattle.stack_core.specs.Ledgers.{ListState}
use Rattle.source_views.specs.Texts.{diff_text}
use Rattle.function_sums.specs.Told.{told_of}
use Rattle.source_views.specs.Failures.{Sends}
use Rattle.source_views.proofs.TextLemmas.{listed_samples}
use Rattle.source_views.proofs.change_texts.send_diff.Goals as goal

pub returns-clause-sent : goal.returns-clause-sent
returns-clause-sent g c =
    let lists = c.args.sources.now.lists in
    let before = ap (λ (list : ListState). list.samples) c.index-lists-0.is ∙ listed_samples lists c.lists-lists.result.now 0 c.index-lists-0.result c.lists-lists.ensures.lists (omega (arith, c.requires)) in
    let after = ap (λ (list : ListState). list.samples) c.index-lists-1.is ∙ listed_samples lists c.lists-lists.result.now 1 c.index-lists-1.result c.lists-lists.ensures.lists (omega (arith, c.requires)) in
    subst (λ (text : List ℕ). Sends text (g.W.Outlet.contents c.args.out.now) (g.W.Outlet.contents c.send_changes.new.out) c.send_changes.result)
    (λ i. diff_text (told_of c.args.telling.now) c.args.diff (before i) (after i)) c.send_changes.ensures.sent
