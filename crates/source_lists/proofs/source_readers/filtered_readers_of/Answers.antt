use Rattle.std.proofs.Common.{◌≡◌, ◌∙◌, map, All}
use Rattle.std.proofs.lemmas.Result.{IfOk-weaker}
use Rattle.stack_core.specs.Reading.{IsSourceLimited}
use Rattle.run_options.specs.Filters.{kept_rest}
use Rattle.source_lists.specs.Sources.{asked_rests}
use Rattle.source_lists.specs.checked.Readers.{filtered_rest, naming_rest}
use Rattle.source_lists.proofs.FilteredSources.{kept_by_readers, limited_rests}
use Rattle.source_lists.proofs.source_readers.filtered_readers_of.Goals as goal

pub returns : goal.returns
returns c =
    let options = c.args.options.now in
    let sources = c.args.sources.items in
    let readers = c.in_ok-readers.readers.items in
    let same_rests = c.in_ok-readers.ensures ∙ c.in_ok-readers_of.ensures.rests in
    record {
      rests = IfOk-weaker c.filter_all.result (λ all. map filtered_rest all.items ≡ map (λ reader. kept_rest options.filter (naming_rest reader)) readers)
          (λ all. map filtered_rest all.items ≡ asked_rests options sources) (λ all same. same ∙ kept_by_readers options readers sources same_rests) c.filter_all.ensures;
      limits = IfOk-weaker c.filter_all.result (λ all. map filtered_rest all.items ≡ map (λ reader. kept_rest options.filter (naming_rest reader)) readers)
          (λ all. All (λ rest. IsSourceLimited rest.samples) (asked_rests options sources)) (λ all same. limited_rests options sources c.in_ok-readers_of.ensures.limits) c.filter_all.ensures;
    }
