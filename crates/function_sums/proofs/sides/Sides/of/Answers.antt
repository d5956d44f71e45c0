use Rattle.function_sums.proofs.sides.Sides.of.Goals as goal

pub returns : goal.returns
returns c first second befores afters olds news = record {
  finds_before = c.in_ok-by_name.ensures first befores olds;
  finds_after = c.in_ok-by_name-2.ensures second afters news;
}
