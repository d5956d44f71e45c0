use Rattle.std.proofs.Common.{◌++◌, ◌∷◌, [], ap, sym, ◌∙◌, arith, drop, take_all}
use Rattle.folded_lines.proofs.RowLemmas.{between-nothing, between-more}
use Rattle.folded_lines.proofs.numbering.names_from.Goals as goal

pub loop-number-init : goal.loop-number-init
loop-number-init c = c.in_ok-names.ensures.items ∙ sym (between-nothing c.args.table.now c.args.first)

pub loop-number-preserved : goal.loop-number-preserved
loop-number-preserved c =
    let table = c.args.table.now in
    c.in_ok-push.ensures.items
    ∙ (λ i. c.loop-number.invariant i ++ (c.in_ok-from_str.ensures ∙ c.name.ensures) i ∷ [])
    ∙ sym (between-more table c.args.first c.loop-number.number (omega arith) (omega (arith, c.len-number-end.ensures.count)))

pub returns : goal.returns
returns c =
    c.of.ensures ∙ c.loop-number.invariant
    ∙ ap (drop c.args.first) (take_all c.loop-number.number c.args.table.now (omega (arith, c.len-number-end.ensures.count)))
