use denote.Param.Send.{sendable}
use Rattle.source_lists.proofs.FaultLemmas.{blamed}
use Rattle.source_lists.proofs.ReaderThreads.{filter_send, samples_send, source_send}
use Rattle.source_lists.proofs.runners.Runner.run_filtered.Goals as goal

-- a reader may go to another thread, since those of both formats may, and a filter
pub collect-requires-send-R : goal.collect-requires-send-R
collect-requires-send-R g c = search (sendable, source_send, filter_send, samples_send) depth 30

pub returns-clause-err : goal.returns-clause-err
returns-clause-err g c = blamed c.collect.result _ (λ source unfinished. (c.collect.ensures.unfinished source unfinished).below)
