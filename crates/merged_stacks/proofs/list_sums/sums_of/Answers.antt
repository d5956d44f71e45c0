use Rattle.std.proofs.Common.{◌≡◌, ◌∙◌, ap, subst, get_or, length, take, arith}
use Rattle.std.proofs.lemmas.List.{length-map, take_all}
use Rattle.sample_tables.specs.Rows.{named}
use Rattle.merged_stacks.specs.checked.Kept.{ArePicked}
use Rattle.merged_stacks.proofs.KeptStacks.{kept_same, picked_none, zero_at}
use Rattle.merged_stacks.proofs.list_sums.sums_of.Goals as goal

pub loop-at-init : goal.loop-at-init
loop-at-init c = record {
  len = omega (arith, c.in_ok-sums.ensures.len, c.in_ok-sums.sums.ok.0, c.stack_count.ensures);
  picked = λ g. picked_none g c.args.list.now.stacks c.in_ok-sums.sums.items (λ k. ap (λ xs. get_or xs k 0) (c.in_ok-sums.ensures.items_if_clones_equal (λ y e. e)) ∙ zero_at c.stack_count.result k);
}

pub loop-at-preserved : goal.loop-at-preserved
loop-at-preserved c = record { len = c.add_sample.ensures.len; picked = c.add_sample.ensures.picked }

pub returns-clause-same : goal.returns-clause-same
returns-clause-same c =
    let list = c.args.list.now in
    let facts = c.len-at-end.ensures in
    let is = facts.named.samples_named in
    let whole : take c.loop-at.at list.rows ≡ list.rows = take_all c.loop-at.at list.rows (omega (arith, facts.count, ap length is, length-map list.rows (named list.told))) in
    kept_same list.told list.stacks c.loop-at.sums.items list.rows list.samples is (subst (ArePicked list.stacks c.loop-at.sums.items) whole c.loop-at.invariant.picked)
