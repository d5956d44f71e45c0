use Rattle.std.proofs.Common.{◌≡◌, ◌∙◌, ◌+◌, ◌≤◌, ◌++◌, ◌∷◌, [], sym, ap, length, take, drop, arith, length-drop, length-append}
use Rattle.std.proofs.lemmas.List.{length-take-le, map_more}
use Rattle.merged_stacks.specs.checked.Growing.{not_begun}
use Rattle.merged_stacks.specs.checked.Ranks.{all_told}
use Rattle.merged_stacks.proofs.JoinedStacks.{all_told-more, list_total}
use Rattle.merged_stacks.proofs.growing.parts_of.Goals as goal

pub split_at-requires : goal.split_at-requires
split_at-requires c =
    let i = c.loop-list.list-index in
    let lists = c.args.lists.now in
    let list = c.list-item.result in
    let more = all_told-more lists i list (omega arith) c.list-item.is in
    omega (arith, c.told.ensures, c.loop-list.invariant.long, ap length more, length-append list.told (all_told (drop (i + 1) lists)))

pub sorted-requires-clause-total : goal.sorted-requires-clause-total
sorted-requires-clause-total c = omega (arith, c.requires.total, list_total c.args.lists.now c.loop-list.list-index c.list-item.result (omega arith) c.list-item.is)

pub sorted-requires-clause-ranks : goal.sorted-requires-clause-ranks
sorted-requires-clause-ranks c =
    let i = c.loop-list.list-index in
    let lists = c.args.lists.now in
    let list = c.list-item.result in
    let ranks = c.loop-list.rest.now in
    let rest = all_told (drop (i + 1) lists) in
    let told : c.told.result ≡ length list.told = c.told.ensures in
    let own : c.split_at.result.0.now ≡ take (length list.told) ranks = c.split_at.ensures.front ∙ ap (λ n. take n ranks) told in
    let more = all_told-more lists i list (omega arith) c.list-item.is in
    let room : length list.told ≤ length ranks = omega (arith, c.loop-list.invariant.long, ap length more, length-append list.told rest) in
    ap length own ∙ length-take-le (length list.told) ranks room

pub loop-list-preserved : goal.loop-list-preserved
loop-list-preserved c =
    let i = c.loop-list.list-index in
    let lists = c.args.lists.now in
    let list = c.list-item.result in
    let own_told = list.told in
    let ranks = c.loop-list.rest.now in
    let more = all_told-more lists i list (omega arith) c.list-item.is in
    let rest = all_told (drop (i + 1) lists) in
    let told : c.told.result ≡ length own_told = c.told.ensures in
    let others : c.split_at.result.1.now ≡ drop (length own_told) ranks = c.split_at.ensures.back ∙ ap (λ n. drop n ranks) told in
    record {
      long = omega (arith, ap length others, length-drop (length own_told) ranks, c.loop-list.invariant.long, ap length more, length-append own_told rest);
      begun = c.in_ok-push.ensures.items ∙ (λ k. c.loop-list.invariant.begun k ++ (c.in_ok-sorted.ensures ∙ ap not_begun c.list-item.is) k ∷ [])
          ∙ sym (map_more not_begun lists i list (omega arith));
    }
