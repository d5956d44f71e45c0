use Rattle.std.proofs.Common.{◌∙◌, ◌++◌, ◌∷◌, [], sym, ap, subst}
use Rattle.rtrb.specs.Ring.{received}
use Rattle.ring_collect.specs.checked.Batches.{records_of_all}
use Rattle.ring_collect.specs.checked.Intakes.{Tracked}
use Rattle.ring_collect.specs.declared.batches.Batch.TheVariants.{One, Many}
use Rattle.ring_collect.proofs.IntakeLemmas.{batch_came, nothing_more}
use Rattle.ring_collect.proofs.intakes.Intake.take_next.Goals as goal

pub returns-in_default-clause-more : goal.returns-in_default-clause-more
returns-in_default-clause-more g c = λ list tracked.
    let old = c.args.self.now in
    nothing_more {tracks = Tracked old.origin.keeps (records_of_all (received c.pop.new.self)) old.close old.ledger old.stage}
    (subst (λ batches. Tracked old.origin.keeps (records_of_all batches) old.close old.ledger old.stage list) (sym c.in_default.ensures.empty.0) tracked)

pub returns-in-One-clause-more : goal.returns-in-One-clause-more
returns-in-One-clause-more g c =
    let was = c.args.self.now in
    batch_came was c.take_or_drop.new.self (One c.in-One.one)
    (ap (λ consumer. received consumer) c.take_or_drop.ensures.consumer ∙ c.in-Ok.ensures.ok.0 ∙ ap (λ batch. received was.consumer ++ batch ∷ []) c.in-One.is)
    c.take_or_drop.ensures.origin c.requires c.take_or_drop.ensures.brings

pub returns-in-Many-clause-more : goal.returns-in-Many-clause-more
returns-in-Many-clause-more g c =
    let was = c.args.self.now in
    batch_came was c.take_all.new.self (Many c.in-Many.records)
    (ap (λ consumer. received consumer) c.take_all.ensures.consumer ∙ c.in-Ok.ensures.ok.0 ∙ ap (λ batch. received was.consumer ++ batch ∷ []) c.in-Many.is)
    c.take_all.ensures.origin c.requires c.take_all.ensures.brings
