use Rattle.std.proofs.Common.{ℕ, List, subst}
use Rattle.std.proofs.lemmas.List.Folds.{concat-append}
use Rattle.source_views.specs.Failures.{Sends}
use Rattle.source_views.proofs.call_texts.send_both.Goals as goal

pub returns-clause-sent : goal.returns-clause-sent
returns-clause-sent g c =
    subst (λ (text : List ℕ). Sends text (g.W.Outlet.contents c.args.out.now) (g.W.Outlet.contents c.send_text.new.out) c.send_text.result)
    (concat-append (g.A.Pieces.pieces c.args.first) (g.B.Pieces.pieces c.args.then)) c.send_text.ensures.sent
