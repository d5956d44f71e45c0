use Rattle.std.proofs.Common.{◌≡◌, ◌∙◌, ap, map}
use Rattle.std.specs.Prelude.{Some}
use Rattle.std.specs.List.{AllZip}
use Rattle.ring_collect.specs.Collection.{seen_as_rest}
use Rattle.source_lists.specs.Sources.{asked_rests, known_inputs, whole_rests, whole_weight}
use Rattle.source_lists.specs.Summing.{IsFound}
use Rattle.source_lists.proofs.FilteredSources.{kept_of_found, kept_out, weight_of_found}
use Rattle.source_lists.proofs.KnownInputs.{if_some}
use Rattle.source_lists.proofs.reading.read_open.Goals as goal

pub returns-clause-found : goal.returns-clause-found
returns-clause-found g c =
    let options = c.args.options.now in
    let is_summed = c.args.is_summed in
    let lists = c.in_ok-whole.whole.lists in
    let kept = c.in_ok-kept_run.field-0.kept in
    if_some (known_inputs c.args.inputs.items) (λ sources. AllZip (IsFound is_summed) (whole_rests options sources) (map seen_as_rest lists)) (λ sources. AllZip (IsFound is_summed) (asked_rests options sources) (map seen_as_rest kept.lists))
    (λ sources each. kept_of_found is_summed options sources lists kept.lists each c.in_ok-kept_run.ensures.lists) c.in_ok-whole.ensures.reads.whole

pub returns-clause-weight : goal.returns-clause-weight
returns-clause-weight g c =
    let options = c.args.options.now in
    let is_summed = c.args.is_summed in
    let lists = c.in_ok-whole.whole.lists in
    if_some (known_inputs c.args.inputs.items) (λ sources. AllZip (IsFound is_summed) (whole_rests options sources) (map seen_as_rest lists)) (λ sources. c.in_ok-kept_run.field-0.whole_weight ≡ Some (whole_weight options sources))
    (λ sources each. c.in_ok-kept_run.ensures.whole_weight ∙ ap Some (weight_of_found is_summed options sources lists each)) c.in_ok-whole.ensures.reads.whole

pub returns-clause-unstopped : goal.returns-clause-unstopped
returns-clause-unstopped g c =
    kept_out c.args.options.now.filter c.in_ok-whole.whole.lists c.in_ok-kept_run.field-0.kept.lists c.in_ok-kept_run.ensures.lists c.in_ok-whole.ensures.reads.unstopped
