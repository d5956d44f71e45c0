-- A reader of samples, and whether its tables were read.
use Rattle.std.proofs.Common.{◌≡◌, ℕ, false, List, [], length, ap, arith, sym, true≢false, subst}
use Rattle.std.specs.Prelude.{IsTrue}
use Rattle.stack_core.specs.Reading.{Rest, Steps}
use Rattle.stack_core.specs.RowSamples.{Awaited, Nothing, OneRow, Ending, given_by, is_idle, left_with}
use Rattle.stack_core.specs.declared.endings.SourceEnd.TheVariants.{Clean}
use Rattle.stack_core.specs.declared.readers.RowStep.{RowStep}
use Rattle.stack_core.specs.declared.readers.RowStep.TheVariants as row
use Rattle.stack_core.specs.declared.readers.Step.{Step}
use Rattle.stack_core.specs.declared.readers.Step.TheVariants as step
use Rattle.profile_tables.specs.State.{State, HasRead, HasReadRow}
use Rattle.profile_tables.specs.checked.View.{HasReadFor}

abbrev nothing_left : Rest
nothing_left = record { samples = []; ending = Clean 0 }

-- behind a row they were read
pub read_by : (stacks : List (List ℕ)) (given : RowStep) (rows : State) → HasReadRow rows given → HasReadFor (given_by stacks given) rows
read_by stacks (row.New names frames weight) rows read = read
read_by stacks (row.Again number weight) rows read = read
read_by stacks (row.End ending) rows read = tt

-- and behind its sample
pub has_read : (awaited next : Awaited) (names : List (List ℕ)) (rows self : State) (given : Step) → is_idle awaited ≡ false → HasReadFor awaited rows → self.has_tables ≡ rows.has_tables
    → ((rest : Rest) → Steps (left_with names awaited rest) given (left_with names next rest)) → HasRead self given
has_read awaited next names rows self (step.End ending) busy read same steps = tt
has_read Nothing next names rows self (step.Sample sample) busy read same steps = absurd (true≢false busy)
has_read (OneRow one) next names rows self (step.Sample sample) busy read same steps = subst IsTrue (sym same) read
has_read (Ending ending) next names rows self (step.Sample sample) busy read same steps = absurd (omega (arith, ap length (steps nothing_left).0))

-- what is awaited next is nothing new
pub reads_on : (awaited next : Awaited) (names : List (List ℕ)) (rows : State) (given : Step) → is_idle awaited ≡ false → HasReadFor awaited rows
    → ((rest : Rest) → Steps (left_with names awaited rest) given (left_with names next rest)) → HasReadFor next rows
reads_on awaited Nothing names rows given busy read steps = tt
reads_on awaited (Ending ending) names rows given busy read steps = tt
reads_on Nothing (OneRow one) names rows given busy read steps = absurd (true≢false busy)
reads_on (OneRow other) (OneRow one) names rows given busy read steps = read
reads_on (Ending ending) (OneRow one) names rows (step.Sample sample) busy read steps = absurd (omega (arith, ap length (steps nothing_left).0))
reads_on (Ending ending) (OneRow one) names rows (step.End last) busy read steps = absurd (omega (arith, ap (λ (rest : Rest). length rest.samples) (steps nothing_left).2))
