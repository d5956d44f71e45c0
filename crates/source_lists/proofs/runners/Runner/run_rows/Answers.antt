use denote.Param.Send.{sendable}
use Rattle.std.proofs.Common.{◌≡◌, ◌<◌, get_or, map, refl, subst}
use Rattle.std.specs.Arc.{arc_value}
use Rattle.std.proofs.lemmas.List.{length-map}
use Rattle.std.proofs.lemmas.Result.{IfOk-weaker}
use Rattle.ring_collect.specs.Collection.{AnswersRun, CollectsRun}
use Rattle.ring_collect.proofs.GivenRests.{known_such}
use Rattle.source_lists.specs.Runs.{ReadsLists}
use Rattle.source_lists.specs.checked.Readers.{reader_rest}
use Rattle.source_lists.proofs.FaultLemmas.{blamed}
use Rattle.source_lists.proofs.ReaderThreads.{folded_send, pprof_send}
use Rattle.source_lists.proofs.runners.Runner.run_rows.Goals as goal

-- a reader may go to another thread, since those of both formats may
pub collect_rows-requires-send-R : goal.collect_rows-requires-send-R
collect_rows-requires-send-R g c = search (sendable, folded_send, pprof_send) depth 30

-- of bytes that are known each reader gives one rest
pub collect_rows-requires-clause-possible : goal.collect_rows-requires-clause-possible
collect_rows-requires-clause-possible g c = λ κs within. λ source one below. record { rest = reader_rest (get_or c.args.readers.items source one); is_given = refl }

pub returns : goal.returns
returns g c =
    let readers = c.args.readers.items in
    let stops = g.G.Gate.may_stop (arc_value c.args.gate) in
    let goes = g.G.Gate.may_go (arc_value c.args.gate) in
    let taken = g.S.RowSink.taken c.args.sink.now in
    let taken' = g.S.RowSink.taken c.collect_rows.new.sink in
    let rests = map reader_rest readers in
    let answer = known_such (λ reader rest. rest ≡ reader_rest reader) reader_rest (λ reader other is. is) readers (λ rests. AnswersRun stops goes rests taken taken' c.collect_rows.result) c.collect_rows.ensures.answer in
    record {
      reads = IfOk-weaker c.collect_rows.result (λ run. CollectsRun stops goes rests taken taken' run.lists.items run.order.items) (λ run. ReadsLists stops goes rests run.lists.items run.order.items)
          (λ run collects. record { collected = collects.lists; whole = collects.whole; ordered = collects.order }) answer.run;
      err = blamed c.collect_rows.result _ (λ source fault. subst (λ count. source < count) (length-map readers reader_rest) (answer.unfinished source fault).below);
      setting = c.collect_rows.ensures.setting;
    }
