use Rattle.std.proofs.Common.{◌∙◌, List, ap, map, subst, sym}
use Rattle.sample_tables.specs.declared.samples.Sample.{Sample}
use Rattle.stack_core.specs.Interleaving.{IsInterleaving}
use Rattle.stack_core.specs.Ledgers.{ListState}
use Rattle.merged_stacks.specs.Timeline.{samples_of}
use Rattle.ring_collect.specs.Collection.{seen_as_rest}
use Rattle.source_lists.specs.checked.KeptStacks.{all_are_passing, passes, passing_rest, passing_samples}
use Rattle.source_lists.proofs.KeptLemmas.{limited_kept_lists, samples_kept}
use Rattle.source_lists.proofs.source_lists.SourceLists.keeping.Goals as goal

pub invariant_of-result : goal.invariant_of-result
invariant_of-result c =
    let kept = passes c.args.keeping in
    let lists : List ListState = c.self.inside.lists.items in
    let left = c.in_ok-lists.lists.items in
    let order = c.in_ok-order.order.items in
    let flags = c.in_ok-kept.ensures ∙ ap (all_are_passing kept) c.deref.ensures.value in
    let of_lists =
    c.in_ok-lists.ensures kept (ap (map (λ marks. marks.items)) c.deref-6.ensures.value ∙ (flags ∙ ap (all_are_passing kept) (sym c.deref-5.ensures.value)))
    ∙ ap (λ (lists : List ListState). map (passing_rest kept) (map seen_as_rest lists)) c.deref-5.ensures.value in
    let of_order =
    c.in_ok-order.ensures kept (ap (map (λ marks. marks.items)) c.deref-4.ensures.value ∙ (flags ∙ ap (all_are_passing kept) (sym c.deref-3.ensures.value))) in
    record {
      limits = limited_kept_lists kept lists left of_lists c.self.invariant.limits;
      ordered =
          subst (λ (samples : List (List Sample)). IsInterleaving order samples) (samples_kept kept lists left of_lists)
          (subst (λ (lists : List ListState). IsInterleaving order (map (passing_samples kept) (samples_of lists))) c.deref-3.ensures.value of_order);
    }
