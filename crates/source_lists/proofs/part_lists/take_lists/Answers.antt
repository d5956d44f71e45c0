use Rattle.std.proofs.Common.{◌∙◌, ◌++◌, List, ap, map, sym}
use Rattle.std.proofs.lemmas.List.{map_push}
use Rattle.sample_tables.specs.declared.samples.Sample.{Sample}
use Rattle.stack_core.specs.Ledgers.{ListState}
use Rattle.stack_core.specs.Parts.{samples_of_parts}
use Rattle.ring_collect.specs.Collection.{seen_as_rest}
use Rattle.source_lists.proofs.PartLemmas.{samples_more}
use Rattle.source_lists.proofs.part_lists.take_lists.Goals as goal

pub loop-list-preserved : goal.loop-list-preserved
loop-list-preserved c =
    let list : ListState = c.in-Some.list in
    let before = map seen_as_rest c.loop-list.yielded in
    record {
      open_ = c.in_ok-take_list.ensures.open;
      samples =
          c.in_ok-take_list.ensures.samples
          ∙ (ap (λ (samples : List Sample). samples ++ list.samples) c.loop-list.invariant.samples
          ∙ sym (ap samples_of_parts (map_push seen_as_rest c.loop-list.yielded list) ∙ samples_more before (seen_as_rest list)));
    }
