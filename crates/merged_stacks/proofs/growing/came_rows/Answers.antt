use Rattle.std.proofs.Common.{◌≡◌, ◌∙◌, ◌+◌, ◌<◌, sym, ap, subst, length, map, take, drop, arith, length-drop, length-append}
use Rattle.std.proofs.lemmas.List.{length-map}
use Rattle.merged_stacks.specs.Merged.{all_samples}
use Rattle.merged_stacks.specs.checked.Growing.{ListFront, came, lists_in}
use Rattle.merged_stacks.specs.checked.Ranks.{all_told}
use Rattle.merged_stacks.specs.checked.Ranked.{HasSums, IsNamedBy}
use Rattle.merged_stacks.proofs.GrowingLists.{list_in}
use Rattle.merged_stacks.proofs.JoinedStacks.{all_samples-more, all_told-more, named_front, named_rest}
use Rattle.merged_stacks.proofs.growing.came_rows.Goals as goal

pub split_at-requires : goal.split_at-requires
split_at-requires c =
    let i = c.loop-part.part-index in
    let parts = c.args.parts.now in
    let lists = lists_in parts in
    let part = c.part-item.result in
    let within : i < length lists = omega (arith, length-map parts (λ (front : ListFront). front.list)) in
    let more = all_told-more lists i part.list within (list_in parts i part (omega arith) c.part-item.is) in
    omega (arith, c.told.ensures, c.loop-part.invariant.long, ap length more, length-append part.list.told (all_told (drop (i + 1) lists)))

pub loop-part-preserved : goal.loop-part-preserved
loop-part-preserved c =
    let i = c.loop-part.part-index in
    let parts = c.args.parts.now in
    let lists = lists_in parts in
    let part = c.part-item.result in
    let own_told = part.list.told in
    let ranks = c.loop-part.rest.now in
    let within : i < length lists = omega (arith, length-map parts (λ (front : ListFront). front.list)) in
    let more = all_told-more lists i part.list within (list_in parts i part (omega arith) c.part-item.is) in
    let rest = all_told (drop (i + 1) lists) in
    let told : c.told.result ≡ length own_told = c.told.ensures in
    let own : c.split_at.result.0.now ≡ take (length own_told) ranks = c.split_at.ensures.front ∙ ap (λ n. take n ranks) told in
    let others : c.split_at.result.1.now ≡ drop (length own_told) ranks = c.split_at.ensures.back ∙ ap (λ n. drop n ranks) told in
    record {
      long = omega (arith, ap length others, length-drop (length own_told) ranks, c.loop-part.invariant.long, ap length more, length-append own_told rest);
      named = λ names by.
          subst (λ ranks. IsNamedBy names ranks rest) (sym others)
          (named_rest names ranks own_told rest (subst (IsNamedBy names ranks) more (c.loop-part.invariant.named names by)));
      sums = λ names by.
          subst (λ samples. HasSums names samples c.add_to.new.rows) (sym (all_samples-more came parts i part (omega arith) c.part-item.is))
          (c.in_ok-add_to.ensures names (all_samples (map came (take i parts)))
          (subst (λ ranks. IsNamedBy names ranks own_told) (sym own) (named_front names ranks own_told rest (subst (IsNamedBy names ranks) more (c.loop-part.invariant.named names by))))
          (c.loop-part.invariant.sums names by));
    }
