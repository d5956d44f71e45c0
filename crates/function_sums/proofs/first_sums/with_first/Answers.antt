use Rattle.std.proofs.Common.{◌≡◌, ◌∙◌, ◌+◌, ap, arith, length, min, sym, take}
use Rattle.std.proofs.lemmas.List.{take_min}
use Rattle.function_sums.proofs.first_sums.with_first.Goals as goal

pub returns-clause-first : goal.returns-clause-first
returns-clause-first c =
    let sums = c.args.sums.now in
    let same : min c.min-count.result (length sums) ≡ min (c.args.rows + 1) (length sums) = omega arith in
    sym (take_min c.min-count.result sums) ∙ ap (λ n. take n sums) same ∙ take_min (c.args.rows + 1) sums
