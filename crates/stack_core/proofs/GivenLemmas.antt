-- Readers of rows over bytes that are known, which may give one rest.
use Rattle.std.proofs.Common.{◌≡◌, ◌<◌, ◌^◌, ◌∙◌, length, refl, sym, subst}
use Rattle.sample_tables.specs.Rows.{ToldRows}
use Rattle.stack_core.specs.Reading.{Rest}
use Rattle.stack_core.specs.RowReading.{StepsAmong, StepsByRows}
use Rattle.stack_core.specs.declared.readers.RowStep.{RowStep}

-- a step that comes off the one rest is a step among those that may be given
pub step_among : (told told' : ToldRows) {old new : Rest} (step : RowStep) → StepsByRows told old step told' new → StepsAmong (λ rest. rest ≡ old) (λ rest. rest ≡ new) told step told'
step_among told told' {old} step comes after is = record { rest = old; is_given = refl; holds = subst (StepsByRows told old step told') (sym is) comes }

-- where the one rest stays, those that may be given stay
pub rest_among : {old new : Rest} → new ≡ old → (rest : Rest) → rest ≡ new → rest ≡ old
rest_among same rest is = is ∙ same

pub few_among : {old : Rest} → length old.samples < 2 ^ 64 → (rest : Rest) → rest ≡ old → length rest.samples < 2 ^ 64
few_among few rest is = subst (λ (rest : Rest). length rest.samples < 2 ^ 64) (sym is) few

-- and the other way
module _ {R : Type 0} {gives : R → Rest → Type 0} {rest_of : R → Rest} (gives_rest : (reader : R) → gives reader (rest_of reader)) (gives_no_other : (reader : R) (other : Rest) → gives reader other → other ≡ rest_of reader)
    (old new : R) where
  pub step_known : (told told' : ToldRows) (step : RowStep) → StepsAmong (gives old) (gives new) told step told' → StepsByRows told (rest_of old) step told' (rest_of new)
  step_known told told' step among =
      let before = among (rest_of new) (gives_rest new) in
      subst (λ rest. StepsByRows told rest step told' (rest_of new)) (gives_no_other old before.rest before.is_given) before.holds

  pub rest_known : ((rest : Rest) → gives new rest → gives old rest) → rest_of new ≡ rest_of old
  rest_known kept = gives_no_other old (rest_of new) (kept (rest_of new) (gives_rest new))
