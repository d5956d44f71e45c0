use Rattle.std.proofs.Common.{◌∙◌, ap, subst, ℕ, List}
use Rattle.std.specs.List.{concat}
use Rattle.merged_stacks.specs.RankedStacks.{Ranking, ranked_samples}
use Rattle.merged_stacks.specs.Merged.{all_samples}
use Rattle.merged_stacks.specs.Timeline.{samples_of}
use Rattle.view_texts.specs.Pieces.{stack_lines}
use Rattle.source_views.specs.Failures.{Sends}
use Rattle.source_views.proofs.view_text.send_fold.Goals as goal

pub returns-clause-sent : goal.returns-clause-sent
returns-clause-sent g c =
    let samples = all_samples (samples_of c.args.sources.lists) in
    let text = ap (λ (m : Ranking). concat (stack_lines (ranked_samples m))) c.of.ensures.stacks ∙ c.of.ensures.text samples c.in_ok-merged.ensures in
    subst (λ (text : List ℕ). Sends text (g.W.Outlet.contents c.args.out.now) (g.W.Outlet.contents c.send.new.out) c.send.result) text c.send.ensures.sent
