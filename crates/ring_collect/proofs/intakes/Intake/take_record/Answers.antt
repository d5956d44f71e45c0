use Rattle.ring_collect.proofs.LedgerLemmas.{still_open}
use Rattle.ring_collect.proofs.intakes.Intake.take_record.Goals as goal

pub invariant_of-self : goal.invariant_of-self
invariant_of-self g c =
    let tell = c.tell in
    record { still_open = still_open c.in-Name.name c.args.self.now.ledger tell.new.self tell.result tell.ensures.ok tell.ensures.refused c.args.self.now.still_open }
