use Rattle.std.proofs.Common.{◌≡◌, ◌∙◌, ◌++◌, ap, get_or, rules, sym}
use Rattle.std.proofs.lemmas.Result.{on_ok_weaker}
use Rattle.view_texts.specs.Types.{type_line}
use Rattle.view_texts.proofs.TypeLines.{type_line-at}
use Rattle.view_texts.proofs.type_lines.append_line_at.Goals as goal

pub returns-clause-ok : goal.returns-clause-ok
returns-clause-ok c =
    let is : c.index-types-at.result ≡ get_or c.args.types.now c.args.at c.index-types-at.result = search rules in
    let line = type_line-at c.args.default c.args.types.now c.args.at c.index-types-at.result c.requires is in
    on_ok_weaker c.append_line.result
    (λ e. e ∙ ap (λ text. c.args.out.now.items ++ text) (ap (λ b. type_line c.index-types-at.result b) c.is_default.ensures ∙ sym line))
    c.append_line.ensures.ok
