use Rattle.std.proofs.Common.{◌∙◌, List, ap, map, subst}
use Rattle.sample_tables.specs.declared.samples.Sample.{Sample}
use Rattle.stack_core.specs.Interleaving.{IsInterleaving}
use Rattle.stack_core.specs.Ledgers.{ListState}
use Rattle.merged_stacks.specs.Timeline.{samples_of}
use Rattle.ring_collect.specs.Collection.{seen_as_rest}
use Rattle.source_lists.specs.checked.CutStacks.{edited_rest, shown_stack}
use Rattle.source_lists.proofs.CutLemmas.{limited_cut_lists, ordered_cut, samples_cut, shown_shorter}
use Rattle.source_lists.proofs.source_lists.SourceLists.cut.Goals as goal

pub invariant_of-result : goal.invariant_of-result
invariant_of-result c =
    let edit = shown_stack c.args.from.now c.args.omitted.now in
    let lists : List ListState = c.self.inside.lists.items in
    let left = c.in_ok-lists.lists.items in
    let order = c.self.inside.order.items in
    let cut = c.in_ok-lists.ensures ∙ ap (λ (lists : List ListState). map (edited_rest edit) (map seen_as_rest lists)) c.deref.ensures.value in
    record {
      limits = limited_cut_lists edit (shown_shorter c.args.from.now c.args.omitted.now) lists left cut c.self.invariant.limits;
      ordered =
          subst (λ (samples : List (List Sample)). IsInterleaving order samples) (samples_cut edit lists left cut)
          (ordered_cut edit order (samples_of lists) c.self.invariant.ordered);
    }
