use Rattle.std.proofs.Common.{◌≡◌, ◌∙◌, ◌<◌, ◌^◌, ℕ, List, sym, ap, subst, length, get_or, set, arith}
use Rattle.std.proofs.lemmas.List.{get_or_default, get_or-set_same, length-map}
use Rattle.sample_tables.specs.declared.samples.Sample.{Sample}
use Rattle.stack_core.specs.Interleaving.{list_of}
use Rattle.merged_stacks.specs.Fronts.{GrowingState}
use Rattle.merged_stacks.specs.Timeline.{total_weight, samples_of}
use Rattle.merged_stacks.specs.Merged.{all_samples}
use Rattle.merged_stacks.specs.checked.Growing.{ListFront, lists_in}
use Rattle.merged_stacks.specs.checked.Ranks.{all_told, AreRanks}
use Rattle.merged_stacks.proofs.GrowingLists.{lists_count, count_at, samples_in, lists_same, count_set}
use Rattle.merged_stacks.proofs.growing.GrowingStacks.take.Goals as goal

-- a list has a part
has_part : (parts : List ListFront) (seen : List (List Sample)) (source : ℕ) → samples_of (lists_in parts) ≡ seen → source < length seen → source < length parts
has_part parts seen source is lt = omega (arith, ap length is, lists_count parts)

pub index_mut-requires : goal.index_mut-requires
index_mut-requires c =
    let within = has_part c.self.inside.parts.items c.args.self.now.lists c.args.source (ap (λ (growing : GrowingState). growing.lists) c.self.view_is) c.requires.source in
    omega (arith, within, c.self.inside.parts.ok.0)

pub index-requires : goal.index-requires
index-requires c =
    let within = has_part c.self.inside.parts.items c.args.self.now.lists c.args.source (ap (λ (growing : GrowingState). growing.lists) c.self.view_is) c.requires.source in
    omega (arith, within, c.self.inside.parts.ok.0)

pub index_mut-requires-2 : goal.index_mut-requires-2
index_mut-requires-2 c =
    let parts = c.self.inside.parts.items in
    let within = has_part parts c.args.self.now.lists c.args.source (ap (λ (growing : GrowingState). growing.lists) c.self.view_is) c.requires.source in
    omega (arith, within, c.self.inside.counts.ok.0, ap length c.self.invariant.counted, length-map parts (λ (front : ListFront). front.count))

pub take-requires : goal.take-requires
take-requires c =
    let parts = c.self.inside.parts.items in
    let source = c.args.source in
    let part = c.index_mut.result.now in
    let within = has_part parts c.args.self.now.lists source (ap (λ (growing : GrowingState). growing.lists) c.self.view_is) c.requires.source in
    let count = ap (λ (growing : GrowingState). get_or growing.counts source 0) (sym c.self.view_is) ∙ ap (λ counts. get_or counts source 0) c.self.invariant.counted ∙ count_at parts source part within c.index_mut.ensures.value in
    let list = ap (λ (growing : GrowingState). length (list_of growing.lists source)) (sym c.self.view_is) ∙ ap length (samples_in parts source part within c.index_mut.ensures.value) in
    omega (arith, c.requires.more, count, list)

-- the list of a part that took its next sample
same_list : (parts : List ListFront) (source : ℕ) (part now : ListFront) → source < length parts → part ≡ get_or parts source part → now.list ≡ part.list → now.list ≡ (get_or parts source now).list
same_list parts source part now within is same = same ∙ ap (λ (front : ListFront). front.list) (is ∙ get_or_default parts source part now within)

pub invariant_of-self : goal.invariant_of-self
invariant_of-self c =
    let parts = c.self.inside.parts.items in
    let source = c.args.source in
    let part = c.index_mut.result.now in
    let now = c.take.new.self in
    let names = c.self.inside.merged.names in
    let within = has_part parts c.args.self.now.lists source (ap (λ (growing : GrowingState). growing.lists) c.self.view_is) c.requires.source in
    let lists = lists_same parts source now (same_list parts source part now within c.index_mut.ensures.value (ap (λ (front : ListFront). front.list) c.take.ensures)) in
    let count : c.count.result ≡ now.count = c.count.ensures ∙ ap (λ (front : ListFront). front.count) (c.index.ensures ∙ get_or-set_same parts source now c.index.result.now within) in
    record {
      counted = ap (λ counts. set counts source c.count.result) c.self.invariant.counted ∙ count_set parts source c.count.result now count;
      ranked = subst (λ all. AreRanks (all_told all) names c.self.inside.ranks.items) (sym lists) c.self.invariant.ranked;
      total = subst (λ all. total_weight (all_samples (samples_of all)) < 2 ^ 64) (sym lists) c.self.invariant.total;
    }

pub returns-clause-lists : goal.returns-clause-lists
returns-clause-lists c =
    let parts = c.self.inside.parts.items in
    let source = c.args.source in
    let part = c.index_mut.result.now in
    let now = c.take.new.self in
    let within = has_part parts c.args.self.now.lists source (ap (λ (growing : GrowingState). growing.lists) c.self.view_is) c.requires.source in
    ap samples_of (lists_same parts source now (same_list parts source part now within c.index_mut.ensures.value (ap (λ (front : ListFront). front.list) c.take.ensures)))
    ∙ ap (λ (growing : GrowingState). growing.lists) c.self.view_is
