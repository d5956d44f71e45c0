use Rattle.std.proofs.Common.{◌≡◌, ◌∙◌, ◌+◌, sym, ap, subst, length, take, drop, arith, length-drop, length-append}
use Rattle.stack_core.specs.Ledgers.{ListState}
use Rattle.merged_stacks.specs.Timeline.{samples_of}
use Rattle.merged_stacks.specs.Merged.{all_samples}
use Rattle.merged_stacks.specs.checked.Ranks.{all_told}
use Rattle.merged_stacks.specs.checked.Ranked.{HasSums, IsNamedBy}
use Rattle.merged_stacks.proofs.JoinedStacks.{list_total, all_samples-more, all_told-more, named_front, named_rest}
use Rattle.merged_stacks.proofs.merged.ranked.Goals as goal

pub loop-list-preserved : goal.loop-list-preserved
loop-list-preserved c =
    let i = c.loop-list.list-index in
    let lists = c.args.lists.now in
    let list = c.list-item.result in
    let more = all_told-more lists i list (omega arith) c.list-item.is in
    let rest = all_told (drop (i + 1) lists) in
    let told : c.told.result ≡ length list.told = c.told.ensures in
    let own : c.split_at.result.0.now ≡ take (length list.told) c.loop-list.rest.now = c.split_at.ensures.front ∙ ap (λ n. take n c.loop-list.rest.now) told in
    let others : c.split_at.result.1.now ≡ drop (length list.told) c.loop-list.rest.now = c.split_at.ensures.back ∙ ap (λ n. drop n c.loop-list.rest.now) told in
    record {
      long = omega (arith, ap length others, length-drop (length list.told) c.loop-list.rest.now, c.loop-list.invariant.long, ap length more, length-append list.told rest);
      named = λ names by.
          subst (λ ranks. IsNamedBy names ranks rest) (sym others)
          (named_rest names c.loop-list.rest.now list.told rest (subst (IsNamedBy names c.loop-list.rest.now) more (c.loop-list.invariant.named names by)));
      sums = λ names by.
          subst (λ samples. HasSums names samples c.add_list.new.rows) (sym (all_samples-more (λ (list : ListState). list.samples) lists i list (omega arith) c.list-item.is))
          (c.in_ok-add_list.ensures names (all_samples (samples_of (take i lists)))
          (subst (λ ranks. IsNamedBy names ranks list.told) (sym own) (named_front names c.loop-list.rest.now list.told rest (subst (IsNamedBy names c.loop-list.rest.now) more (c.loop-list.invariant.named names by))))
          (c.loop-list.invariant.sums names by));
    }

pub add_list-requires-clause-total : goal.add_list-requires-clause-total
add_list-requires-clause-total c = omega (arith, c.requires.total, list_total c.args.lists.now c.loop-list.list-index c.list-item.result (omega arith) c.list-item.is)
