use Rattle.std.proofs.Common.{◌∷◌, [], ◌++◌, ◌∙◌, ap, append_assoc}
use Rattle.std.proofs.lemmas.Result.{on_ok_weaker}
use Rattle.byte_io.proofs.PieceTexts.{further}
use Rattle.view_texts.specs.Lines.{counts_of, ending_of}
use Rattle.view_texts.proofs.json_line.append_tail.Goals as goal

pub returns-clause-ok : goal.returns-clause-ok
returns-clause-ok c =
    let old = c.args.out.now.items in
    let counts = counts_of c.args.kind c.args.counts.now in
    let ending = ending_of c.args.view.now c.args.scale.now.total c.args.scale.now.width in
    on_ok_weaker c.append_ending.result
    (λ e. e ∙ ap (λ text. text ++ ending) (c.in_ok-append_counts.ensures.ok ∙ ap (λ text. text ++ counts) c.in_ok-push.ensures.items)
    ∙ append_assoc (old ++ 93 ∷ []) counts ending ∙ append_assoc old (93 ∷ []) (counts ++ ending))
    c.append_ending.ensures.ok

pub returns-clause-front : goal.returns-clause-front
returns-clause-front c =
    further _ _ _ _ (further _ _ _ _ c.append_ending.ensures.front c.in_ok-append_counts.ensures.ok) c.in_ok-push.ensures.items

pub returns-in_err-append_counts-clause-front : goal.returns-in_err-append_counts-clause-front
returns-in_err-append_counts-clause-front c = further _ _ _ _ c.append_counts.ensures.front c.in_ok-push.ensures.items
