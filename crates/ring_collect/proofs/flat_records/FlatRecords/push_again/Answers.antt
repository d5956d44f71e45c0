use Rattle.std.proofs.Common.{[], ap, append-nil, refl, rules, sym}
use Rattle.stack_core.specs.declared.records.RingRecord.TheVariants as one
use Rattle.ring_collect.specs.declared.flat_records.Step.TheVariants.{Again}
use Rattle.ring_collect.proofs.FlatLemmas.{appended}
use Rattle.ring_collect.proofs.flat_records.FlatRecords.push_again.Goals as goal

pub invariant_of-self-2 : goal.invariant_of-self-2
invariant_of-self-2 c =
    (appended c.self.inside.steps.items _ _ (Again c.in_ok-row.row c.args.weight) [] [] c.self.invariant (tt, (refl, refl)) c.self.view_is refl
    c.in_ok-push.ensures.items (sym (append-nil _)) (sym (append-nil _))).fit

pub returns-clause-ok : goal.returns-clause-ok
returns-clause-ok c =
    (appended c.self.inside.steps.items _ _ (Again c.in_ok-row.row c.args.weight) [] [] c.self.invariant (tt, (refl, refl)) c.self.view_is (ap (λ row. one.Again row c.args.weight) (search rules))
    c.in_ok-push.ensures.items (sym (append-nil _)) (sym (append-nil _))).records_are
