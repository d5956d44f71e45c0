use Rattle.std.proofs.Common.{◌≡◌, ◌∙◌, ◌++◌, ◌∷◌, ◌<◌, List, [], All, ap, sym, subst, length, map, get_or, take, arith}
use Rattle.std.proofs.lemmas.List.{map_push, take_all}
use Rattle.std.proofs.lemmas.List.Elements.{All-push}
use Rattle.sample_tables.specs.Rows.{name_at}
use Rattle.function_sums.specs.FunctionSums.{total_of, weight_of}
use Rattle.function_sums.specs.checked.Counted.{names_with_weight, sums_by}
use Rattle.function_sums.specs.checked.Rows.{Row, row_sum}
use Rattle.function_sums.proofs.Counting.{none}
use Rattle.function_sums.proofs.NamesWithWeight.{with_weight-more, with_weight-same}
use Rattle.function_sums.proofs.rows.rows.Goals as goal
use Rattle.function_sums.proofs.rows.rows.Goals.{then-count-gt0+in_ok-push, else-count-gt0}

pub loop-rank-preserved : goal.loop-rank-preserved
loop-rank-preserved c = elim c.if-count-gt0.branch [
  | then-count-gt0+in_ok-push w ↦
      let names = c.args.merged.now.names in
      let rank = c.loop-rank.rank in
      let all : c.if-count-gt0.rows.items ≡ c.loop-rank.rows.items ++ w.row.result ∷ [] = (λ i. (w.rows-is i).items) ∙ w.in_ok-push.ensures.items in
      record {
        keys = subst (λ (rows : List Row). All (λ row. row.0.0 ≡ weight_of c.args.by (row_sum row)) rows) (sym all) (All-push (λ (row : Row). row.0.0 ≡ weight_of c.args.by (row_sum row)) c.loop-rank.rows.items w.row.result c.loop-rank.invariant.keys w.row.ensures.key);
        sums = λ lasts samples stamp are.
            let within : rank < length names = omega (arith, are.many) in
            let count = are.each rank none within in
            let total : (get_or c.args.counts.now rank none).total ≡ total_of (name_at names rank) samples = omega (arith, count.total) in
            let one : row_sum w.row.result ≡ sums_by lasts samples (name_at names rank) = w.row.ensures.sum ∙ (λ i. record { name = w.name_of.ensures i; own = count.own i; total = total i }) in
            let kept = with_weight-more samples names rank within (omega (arith, total, w.if-count-gt0.true)) in
            ap (map row_sum) all ∙ map_push row_sum c.loop-rank.rows.items w.row.result ∙ (λ i. c.loop-rank.invariant.sums lasts samples stamp are i ++ one i ∷ [])
            ∙ sym (ap (map (sums_by lasts samples)) kept ∙ map_push (sums_by lasts samples) (names_with_weight samples (take rank names)) (name_at names rank));
      }
  | else-count-gt0 w ↦
      let names = c.args.merged.now.names in
      let rank = c.loop-rank.rank in
      let all : c.if-count-gt0.rows.items ≡ c.loop-rank.rows.items = λ i. (w.rows-is i).items in
      record {
        keys = subst (λ (rows : List Row). All (λ row. row.0.0 ≡ weight_of c.args.by (row_sum row)) rows) (sym all) c.loop-rank.invariant.keys;
        sums = λ lasts samples stamp are.
            let within : rank < length names = omega (arith, are.many) in
            let light : total_of (name_at names rank) samples ≡ 0 = omega (arith, (are.each rank none within).total, w.if-count-gt0.false) in
            ap (map row_sum) all ∙ c.loop-rank.invariant.sums lasts samples stamp are ∙ sym (ap (map (sums_by lasts samples)) (with_weight-same samples names rank within light));
      }
]

pub returns-clause-sums : goal.returns-clause-sums
returns-clause-sums c lasts samples stamp are =
    c.loop-rank.invariant.sums lasts samples stamp are ∙ ap (λ names. map (sums_by lasts samples) (names_with_weight samples names)) (take_all c.loop-rank.rank c.args.merged.now.names (omega (arith, are.many, c.loop-rank-test.false)))
