use Rattle.std.proofs.Common.{◌≡◌, ◌∙◌, ◌++◌, ◌∷◌, [], All, ap, sym, subst, map, take, get_or, append_assoc}
use Rattle.std.proofs.lemmas.List.{map_more, map_push}
use Rattle.std.proofs.lemmas.List.Elements.{All-push}
use Rattle.function_sums.specs.declared.sums.FunctionSum.{FunctionSum}
use Rattle.function_sums.specs.checked.Sides.{HasSize, row_name}
use Rattle.function_sums.proofs.change_tables.add_rows.Goals as goal

pub loop-sum-preserved : goal.loop-sum-preserved
loop-sum-preserved c =
    let named = λ (sum : FunctionSum). sum.name in
    let before = c.loop-sum.rows.items in
    let row = c.row.result in
    let name : row_name row ≡ named (get_or c.args.sums.now c.loop-sum.sum-index c.sum-item.result) = c.row.ensures.name ∙ c.get.ensures ∙ ap named c.sum-item.is in
    record {
      names =
          ap (map row_name) c.in_ok-push.ensures.items ∙ map_push row_name before row
          ∙ (λ i. c.loop-sum.invariant.names i ++ name i ∷ [])
          ∙ append_assoc (map row_name c.args.rows.now.items) (map named (take c.loop-sum.sum-index c.args.sums.now)) (named (get_or c.args.sums.now c.loop-sum.sum-index c.sum-item.result) ∷ [])
          ∙ ap (λ names. map row_name c.args.rows.now.items ++ names) (sym (map_more named c.args.sums.now c.loop-sum.sum-index c.sum-item.result c.loop-sum-test.true));
      sizes = λ olds news sides sized.
          subst (All (HasSize c.args.by olds news)) (sym c.in_ok-push.ensures.items)
          (All-push (HasSize c.args.by olds news) before row (c.loop-sum.invariant.sizes olds news sides sized) (c.row.ensures.size olds news sides));
    }
