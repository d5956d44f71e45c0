use Rattle.std.proofs.Common.{◌∙◌, sym, ap, subst, ◌++◌}
use Rattle.rtrb.specs.Ring.{received}
use Rattle.ring_collect.specs.checked.Batches.{records_in, records_of_all, close_after_batch}
use Rattle.ring_collect.specs.checked.Intakes.{Tracked}
use Rattle.ring_collect.proofs.BatchLemmas.{records_of_sent}
use Rattle.ring_collect.proofs.IntakeLemmas.{batch_dropped}
use Rattle.ring_collect.proofs.intakes.Intake.drop_next.Goals as goal

pub returns-clause-tracks : goal.returns-clause-tracks
returns-clause-tracks c = λ list tracked.
    let old = c.args.self.now in
    let batch = c.in-Ok.popped in
    let records = records_of_all (received old.consumer) in
    let open_before = subst (λ close. Tracked old.origin.keeps records close old.ledger old.stage list) c.requires tracked in
    let after = batch_dropped {ledger' = old.ledger} {stage' = c.dropping-self.result} batch c.in-Ok.ensures.ok.2 c.dropping-self.ensures.dropped c.dropping-self.ensures.unnamed.0 open_before in
    subst (λ records. Tracked old.origin.keeps records c.note_batch.new.close old.ledger c.dropping-self.result list) (sym (records_of_sent _ _ batch c.in-Ok.ensures.ok.0))
    (subst (λ close. Tracked old.origin.keeps (records ++ records_in batch) close old.ledger c.dropping-self.result list) (sym (c.note_batch.ensures ∙ ap (λ close. close_after_batch close batch) c.requires)) after)
