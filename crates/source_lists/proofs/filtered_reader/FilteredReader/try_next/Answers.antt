use Rattle.source_lists.proofs.FilteredSources.{few_kept}
use Rattle.source_lists.proofs.filtered_reader.FilteredReader.try_next.Goals as goal

pub returns-in_err-sample-clause-few : goal.returns-in_err-sample-clause-few
returns-in_err-sample-clause-few g c = few_kept c.args.self.now.filter _ c.in_err-sample.ensures.few

pub returns-then-keeps-clause-few : goal.returns-then-keeps-clause-few
returns-then-keeps-clause-few g c = few_kept c.args.self.now.filter _ c.in_ok-sample.ensures.few

pub returns-else-keeps-clause-few : goal.returns-else-keeps-clause-few
returns-else-keeps-clause-few g c = few_kept c.args.self.now.filter _ c.in_ok-sample.ensures.few
