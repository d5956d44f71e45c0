use Rattle.std.proofs.Common.{◌∙◌, ◌∷◌, ◌++◌, [], ap, map}
use Rattle.function_sums.specs.checked.Entries.{line_of}
use Rattle.function_sums.proofs.sum_tables.headed.Goals as goal

pub returns : goal.returns
returns c is_exact unit =
    ap (map (line_of is_exact unit)) (c.in_ok-push.ensures.items ∙ ap (λ lines. lines ++ c.headings.result ∷ []) c.in_ok-lines.ensures.items)
    ∙ ap (λ line. line ∷ []) (c.headings.ensures is_exact unit)
