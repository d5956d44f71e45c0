use Rattle.std.proofs.Common.{◌≡◌, ◌+◌, ◌∙◌, List, [], ap, subst, sym, arith, length, get_or, take}
use Rattle.std.proofs.lemmas.List.{get_or-replicate, length-replicate, take_all}
use Rattle.sample_tables.specs.declared.samples.Sample.{Sample}
use Rattle.merged_stacks.specs.RankedStacks.{ranked_samples}
use Rattle.function_sums.specs.declared.counts.Count.{Count}
use Rattle.function_sums.specs.checked.Counted.{AreCounts}
use Rattle.function_sums.specs.checked.Cuts.{counted_of, lasts_of}
use Rattle.function_sums.proofs.CutSamples.{counted-nil, lasts-nil}
use Rattle.function_sums.proofs.Counting.{lent_back, none, nothing_counted}
use Rattle.function_sums.proofs.tables.count_all.Goals as goal

pub loop-at-init : goal.loop-at-init
loop-at-init c =
    let n = c.name_count.result in
    let counts = c.in_ok-counts.counts.items in
    let filled = c.in_ok-counts.ensures.items_if_clones_equal (λ y e. e) in
    let long : length counts ≡ n = ap length filled ∙ length-replicate n none in
    let nothing = nothing_counted c.args.merged.now.names counts (long ∙ c.name_count.ensures.count) (λ i d lt. ap (λ (all : List Count). get_or all i d) filled ∙ get_or-replicate n i none d (omega (arith, lt, long))) in
    subst (λ lasts. AreCounts c.args.merged.now.names counts lasts (counted_of c.args.call []) [] 0 1) (sym (lasts-nil c.args.call))
    (subst (λ all. AreCounts c.args.merged.now.names counts [] all [] 0 1) (sym (counted-nil c.args.call)) nothing)

pub count_at-requires : goal.count_at-requires
count_at-requires c =
    let ranking = c.args.merged.now in
    let samples = ranked_samples ranking in
    record {
      at = omega (arith, c.loop-at-test.true, c.len-at-end.ensures.count);
      small = omega (arith, c.loop-at-test.true, c.len-at-end.type_inv);
      total = c.len-at-end.ensures.total;
      rising = c.name_count.ensures.rising;
      counted = subst (λ (all : List Count). AreCounts ranking.names all (lasts_of c.args.call (take c.loop-at.at samples)) (counted_of c.args.call (take c.loop-at.at samples)) [] 0 (c.loop-at.at + 1)) (sym c.deref_mut.ensures.value) c.loop-at.invariant;
    }

pub loop-at-preserved : goal.loop-at-preserved
loop-at-preserved c =
    let ranking = c.args.merged.now in
    let old = c.loop-at.counts.items in
    let new = c.count_at.new.counts in
    subst (λ (all : List Count). AreCounts ranking.names all (lasts_of c.args.call (take (c.loop-at.at + 1) (ranked_samples ranking))) (counted_of c.args.call (take (c.loop-at.at + 1) (ranked_samples ranking))) [] 0 (c.loop-at.at + 1 + 1))
    (sym (lent_back old new c.loop-at.counts.len (omega (arith, c.in_ok-count_at.ensures.many, c.loop-at.invariant.many)) (omega (arith, c.loop-at.counts.ok.0, c.in_ok-count_at.ensures.many, c.loop-at.invariant.many))))
    c.in_ok-count_at.ensures

pub returns-clause-counts : goal.returns-clause-counts
returns-clause-counts c =
    let ranking = c.args.merged.now in (
      c.loop-at.at + 1,
      subst (λ (all : List Sample). AreCounts ranking.names c.loop-at.counts.items (lasts_of c.args.call all) (counted_of c.args.call all) [] 0 (c.loop-at.at + 1))
          (take_all c.loop-at.at (ranked_samples ranking) (omega (arith, c.loop-at-test.false, c.len-at-end.ensures.count)))
          c.loop-at.invariant,
    )
