use Rattle.std.proofs.Common.{◌≡◌, ◌∙◌, ◌<◌, ◌^◌, ℕ, List, sym, ap, subst, map, arith}
use Rattle.merged_stacks.specs.Fronts.{GrowingState, fronts}
use Rattle.merged_stacks.specs.Timeline.{total_weight, samples_of}
use Rattle.merged_stacks.specs.Merged.{all_samples, merged_samples}
use Rattle.merged_stacks.specs.checked.Growing.{ListFront, came, lists_in}
use Rattle.merged_stacks.specs.checked.Ranks.{all_told, AreRanks}
use Rattle.merged_stacks.specs.checked.Ranked.{Ranked, AreMerged, HasSums, IsNamedBy}
use Rattle.merged_stacks.specs.RankedStacks.{ranked_samples, sample_of}
use Rattle.merged_stacks.proofs.GrowingLists.{fronts_came, came_weight}
use Rattle.merged_stacks.proofs.JoinedStacks.{are_merged, merged_are, ranks_name}
use Rattle.merged_stacks.proofs.growing.GrowingStacks.merge.Goals as goal

-- the rows have the sums of what came, since the ranks are those of the told names
came_sums : (names : List (List ℕ)) (parts lent : List ListFront) (ranks all : List ℕ) (rows : List Ranked) → lent ≡ parts → all ≡ ranks → AreRanks (all_told (lists_in parts)) names ranks
    → ((names : List (List ℕ)) → IsNamedBy names all (all_told (lists_in lent)) → HasSums names (all_samples (map came lent)) rows) → HasSums names (all_samples (map came parts)) rows
came_sums names parts lent ranks all rows same given ranked taken =
    let by = subst (λ numbers. IsNamedBy names numbers (all_told (lists_in parts))) (sym given) (ranks_name (all_told (lists_in parts)) names ranks ranked) in
    subst (λ fronts. HasSums names (all_samples (map came fronts)) rows) same
    (taken names (subst (λ fronts. IsNamedBy names all (all_told (lists_in fronts))) (sym same) by))

pub merged-requires : goal.merged-requires
merged-requires c =
    let parts = c.self.inside.parts.items in
    let sums = came_sums c.self.inside.merged.names parts c.deref.result.now c.self.inside.ranks.items c.deref-2.result.now c.in_ok-rows.rows c.deref.ensures.value c.deref-2.ensures.value c.self.invariant.ranked c.in_ok-rows.ensures in
    omega (arith, sums.total, came_weight parts, c.self.invariant.total)

pub put-requires : goal.put-requires
put-requires c =
    let names = c.self.inside.merged.names in
    let parts = c.self.inside.parts.items in
    let sums = came_sums names parts c.deref.result.now c.self.inside.ranks.items c.deref-2.result.now c.in_ok-rows.rows c.deref.ensures.value c.deref-2.ensures.value c.self.invariant.ranked c.in_ok-rows.ensures in
    let h = c.in_ok-merged.ensures in
    let small : total_weight (all_samples (map came parts)) < 2 ^ 64 = omega (arith, came_weight parts, c.self.invariant.total) in
    subst (AreMerged names) (sym h.3) (are_merged names (all_samples (map came parts)) c.in_ok-rows.rows h.0 c.self.invariant.ranked.rising sums h.1 h.2 small)

pub returns-clause-merged : goal.returns-clause-merged
returns-clause-merged c =
    let names = c.self.inside.merged.names in
    let parts = c.self.inside.parts.items in
    let sums = came_sums names parts c.deref.result.now c.self.inside.ranks.items c.deref-2.result.now c.in_ok-rows.rows c.deref.ensures.value c.deref-2.ensures.value c.self.invariant.ranked c.in_ok-rows.ensures in
    let h = c.in_ok-merged.ensures in
    let fronts_are = ap (λ (growing : GrowingState). fronts growing.lists growing.counts) (sym c.self.view_is) ∙ ap (fronts (samples_of (lists_in parts))) c.self.invariant.counted ∙ fronts_came parts in
    ap ranked_samples c.put.ensures ∙ ap (map (sample_of names)) h.3
    ∙ merged_are names (all_samples (map came parts)) c.in_ok-rows.rows h.0 c.self.invariant.ranked.rising sums h.1 h.2 ∙ ap (λ all. merged_samples (all_samples all)) (sym fronts_are)
