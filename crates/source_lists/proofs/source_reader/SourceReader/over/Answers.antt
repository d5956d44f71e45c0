use Rattle.source_lists.proofs.PartLemmas.{limited_bytes}
use Rattle.source_lists.proofs.source_reader.SourceReader.over.Goals as goal

pub returns-in_err-pick-in-Pprof-clause-limits : goal.returns-in_err-pick-in-Pprof-clause-limits
returns-in_err-pick-in-Pprof-clause-limits c = limited_bytes c.args.source.0 c.args.source.1 c.args.options.now.pick c.args.options.now.naming
