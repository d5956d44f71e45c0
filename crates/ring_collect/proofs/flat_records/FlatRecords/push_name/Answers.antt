use Rattle.std.proofs.Common.{◌∙◌, ◌++◌, ◌∷◌, [], ap, append-nil, arith, refl, sym}
use Rattle.ring_collect.specs.declared.flat_records.Step.TheVariants.{Name}
use Rattle.ring_collect.proofs.FlatLemmas.{appended}
use Rattle.ring_collect.proofs.flat_records.FlatRecords.push_name.Goals as goal

pub invariant_of-self-2 : goal.invariant_of-self-2
invariant_of-self-2 c =
    (appended c.self.inside.steps.items _ _ Name (c.args.name ∷ []) [] c.self.invariant (omega arith, (refl, refl)) c.self.view_is refl
    (c.in_ok-push-2.ensures.items ∙ ap (λ steps. steps ++ Name ∷ []) c.in_ok-reserve.ensures.items) c.in_ok-push.ensures.items (sym (append-nil _))).fit

pub returns-clause-ok : goal.returns-clause-ok
returns-clause-ok c =
    (appended c.self.inside.steps.items _ _ Name (c.args.name ∷ []) [] c.self.invariant (omega arith, (refl, refl)) c.self.view_is refl
    (c.in_ok-push-2.ensures.items ∙ ap (λ steps. steps ++ Name ∷ []) c.in_ok-reserve.ensures.items) c.in_ok-push.ensures.items (sym (append-nil _))).records_are
