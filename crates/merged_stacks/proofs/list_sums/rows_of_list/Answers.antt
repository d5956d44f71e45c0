use Rattle.std.proofs.Common.{◌∙◌, ap, sym, subst, length, List, ℕ, arith}
use Rattle.std.proofs.lemmas.Result.{IfOk-weaker}
use Rattle.std.proofs.lemmas.List.{length-map}
use Rattle.sample_tables.specs.Spans.{stack_of}
use Rattle.ranked_rows.specs.Weighing.{weighing}
use Rattle.merged_stacks.specs.checked.Kept.{HaveSameSums, kept_samples}
use Rattle.merged_stacks.specs.checked.Ranked.{HasSums, IsNamedBy}
use Rattle.merged_stacks.proofs.GivenStacks.{given_sums}
use Rattle.merged_stacks.proofs.list_sums.rows_of_list.Goals as goal

pub from_stacks-requires-clause-weights : goal.from_stacks-requires-clause-weights
from_stacks-requires-clause-weights c =
    let flat = c.into_stacks.result in
    omega (arith, ap length c.deref.ensures.value, c.in_ok-sums.ensures.len, ap length c.into_stacks.ensures.stacks, length-map flat.spans.items (stack_of flat.frames.items))

pub returns : goal.returns
returns c =
    let list = c.args.list in
    let sums = c.deref.result.now in
    let ranks = c.args.ranks.now in
    let same = subst (λ all. HaveSameSums (kept_samples list.told list.stacks all) list.samples) (sym c.deref.ensures.value) c.in_ok-sums.ensures.same in
    IfOk-weaker c.from_stacks.result _ (λ rows. (names : List (List ℕ)) → IsNamedBy names ranks list.told → HasSums names list.samples rows)
    (λ rows is names by. given_sums names list.told ranks list.stacks sums list.samples rows (is ∙ ap (λ stacks. weighing ranks stacks sums) c.into_stacks.ensures.stacks) c.into_stacks.ensures.told same by)
    c.from_stacks.ensures
