use Rattle.std.proofs.Common.{rules, ◌≡◌, ◌++◌, ◌∷◌, [], ◌∙◌, sym, get_or}
use Rattle.source_views.proofs.PageDrawings.{filled_more}
use Rattle.source_views.proofs.drawn_runs.filled_counts.Goals as goal

pub loop-source-preserved : goal.loop-source-preserved
loop-source-preserved c =
    let count : c.unwrap_or.result ≡ get_or c.args.counts.now c.loop-source.source 0 = search rules in
    c.in_ok-push.ensures.items ∙ (λ i. c.loop-source.invariant i ++ count i ∷ []) ∙ sym (filled_more c.loop-source.source c.args.counts.now)
