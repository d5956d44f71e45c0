use Rattle.std.proofs.Common.{◌∙◌, sym, ap, refl, ◌++◌}
use Rattle.rtrb.specs.Ring.{received, known_items}
use Rattle.ring_collect.proofs.SettlementLemmas.{none_unnamed}
use Rattle.ring_collect.proofs.settlement.settle_by.Goals as goal

pub returns-clause-whole : goal.returns-clause-whole
returns-clause-whole c = λ list tracked.
    let more = known_items c.slots_after.new.self in
    none_unnamed c.args.left c.in_ok-left.left (received c.args.intake.consumer) more c.in_ok-left.was c.requires.well_told
    (ap (λ batches. batches ++ more) (sym c.slots_after.ensures.looked.1) ∙ c.slots_after.ensures.fifo) tracked (λ _. refl)

pub returns-then-is_unnamed-clause-whole : goal.returns-then-is_unnamed-clause-whole
returns-then-is_unnamed-clause-whole c = λ list tracked.
    let more = known_items c.slots_after.new.self in
    none_unnamed c.args.left c.in_ok-left.left (received c.args.intake.consumer) more c.in_ok-left.was c.requires.well_told
    (ap (λ batches. batches ++ more) (sym c.slots_after.ensures.looked.1) ∙ c.slots_after.ensures.fifo) tracked (λ told. absurd (told (c.if-is_unnamed.ensures.0 refl)))
