use Rattle.std.proofs.Common.{◌∙◌, ◌<◌, ap, refl, sym, subst, inr, true≢false}
use Rattle.ring_collect.specs.checked.Records.{RecordTaken, RecordRefused, ledger_after}
use Rattle.stack_core.specs.declared.records.RingRecord.TheVariants.{Again}
use Rattle.ring_collect.proofs.Outcomes.{on_ok, on_ok_value}
use Rattle.ring_collect.proofs.intakes.Intake.take_again.Goals as goal

pub returns-then-is_err-2-clause-taken : goal.returns-then-is_err-2-clause-taken
returns-then-is_err-2-clause-taken g c =
    RecordRefused refl refl (inr (on_ok c.feed-fed.result (sym c.is_err.ensures.value ∙ c.if-is_err.false) c.feed-fed.ensures.ok))

-- samples are not kept
pub returns-then-not-self-clause-taken : goal.returns-then-not-self-clause-taken
returns-then-not-self-clause-taken g c =
    RecordTaken refl (subst (λ count. c.args.row < count) c.stack_count.ensures c.if-row-stack_count.false)
    (ap (λ keeps. ledger_after keeps c.args.self.now.ledger (Again c.args.row c.args.weight)) (sym c.if-not-self.true)) refl
    (on_ok c.feed-fed.result (sym c.is_err.ensures.value ∙ c.if-is_err.false) c.feed-fed.ensures.ok)
    (λ kept. absurd (true≢false (sym kept ∙ c.if-not-self.true)))

pub returns-clause-taken : goal.returns-clause-taken
returns-clause-taken g c =
    RecordTaken refl (subst (λ count. c.args.row < count) c.stack_count.ensures c.if-row-stack_count.false)
    (on_ok c.take_again.result (sym c.is_err-2.ensures.value ∙ c.if-is_err-2.false) c.take_again.ensures.ok
    ∙ ap (λ keeps. ledger_after keeps c.args.self.now.ledger (Again c.args.row c.args.weight)) (sym c.if-not-self.false)) refl
    (on_ok c.feed-fed.result (sym c.is_err.ensures.value ∙ c.if-is_err.false) c.feed-fed.ensures.ok)
    (λ _. on_ok_value c.push.result _ (sym c.is_err-else-is_err-2.ensures.value ∙ c.if-is_err-3.false) c.push.ensures.items)
