use Rattle.std.proofs.Common.{◌≡◌, ◌∙◌, ℕ, ◌+◌, ◌*◌, ◌/◌, ◌%◌, min}
use Rattle.function_sums.specs.FunctionChanges.{divisor}
use Rattle.function_sums.proofs.Growing.{capped}
use Rattle.function_sums.proofs.shares.limit.Goals as goal

pub returns : goal.returns
returns c =
    let most : ℕ = 340282366920938463463374607431768211455 in
    let points = c.from-points.result in
    let both = c.from.result * c.from-2.result in
    let same : both ≡ divisor c.args.whole.before * divisor c.args.whole.after = λ i. (c.from.ensures ∙ c.divisor.ensures) i * (c.from-2.ensures ∙ c.divisor-2.ensures) i in
    c.saturating_add.ensures
    ∙ (λ i. min (c.saturating_mul.ensures i + points * (both % 100) / 100) most)
    ∙ capped most points both
    ∙ (λ i. min most (c.from-points.ensures i * same i / 100))
