-- What a reader of a stored profile may give.
use Rattle.std.proofs.Common.{◌≡◌, ◌<◌, ◌^◌, inl, inr, IfOk, Result, length, arith, ap, refl, subst, sym}
use Rattle.std.proofs.lemmas.Result.{IfOk-weaker}
use Rattle.std.specs.declared.alloc.AllocError.{AllocError}
use Rattle.sample_tables.specs.Rows.{ToldRows}
use Rattle.stack_core.specs.Reading.{Rest}
use Rattle.stack_core.specs.RowReading.{GivesSome, StepsAmong, StepsByRows}
use Rattle.stack_core.specs.declared.readers.RowStep.{RowStep}
use Rattle.profile_tables.specs.State.{State}
use Rattle.profile_tables.proofs.RestLemmas.{few-pprof}
use Rattle.source_lists.specs.checked.StoredProfiles.{nothing_read, profile_gives}
use Rattle.source_lists.specs.declared.stored_profile.StoredProfile.{StoredProfile}
use Rattle.source_lists.specs.declared.stored_profile.StoredProfile.TheVariants.{Unread, Loaded, Unreadable}

pub few_given : (profile : StoredProfile) → ((rows : State) → profile ≡ Loaded rows → length rows.rest.samples < 2 ^ 64) → (rest : Rest) → profile_gives profile rest → length rest.samples < 2 ^ 64
few_given (Unread text pick naming) loaded rest (inl none) = subst (λ (rest : Rest). length rest.samples < 2 ^ 64) (sym none) (omega arith)
few_given (Unread text pick naming) loaded rest (inr some) = omega (arith, ap (λ (rest : Rest). length rest.samples) some.is_read, few-pprof some.bytes pick naming, some.short)
few_given (Loaded rows) loaded rest is = subst (λ (rest : Rest). length rest.samples < 2 ^ 64) (sym is) (loaded rows refl)
few_given Unreadable loaded rest is = subst (λ (rest : Rest). length rest.samples < 2 ^ 64) (sym is) (omega arith)

pub possible_given : (profile : StoredProfile) → GivesSome (profile_gives profile)
possible_given (Unread text pick naming) = record { rest = nothing_read; is_given = inl refl }
possible_given (Loaded rows) = record { rest = rows.rest; is_given = refl }
possible_given Unreadable = record { rest = nothing_read; is_given = refl }

-- what a loaded reader gives
abbrev pub loaded_rest : StoredProfile → Rest
loaded_rest (Unread text pick naming) = nothing_read
loaded_rest (Loaded rows) = rows.rest
loaded_rest Unreadable = nothing_read

-- who might have given more before the step
pub steps_among_more : (old more new : Rest → Type 0) → ((rest : Rest) → old rest → more rest) → (told told0 told' : ToldRows) → told ≡ told0 → (result : Result RowStep AllocError)
    → IfOk result (λ step. StepsAmong old new told step told') → IfOk result (λ step. StepsAmong more new told0 step told')
steps_among_more old more new so told told0 told' same result =
    IfOk-weaker result (λ step. StepsAmong old new told step told') (λ step. StepsAmong more new told0 step told')
    (λ step steps after given.
    let such = steps after given in
    record { rest = such.rest; is_given = so such.rest such.is_given; holds = subst (λ (told : ToldRows). StepsByRows told such.rest step told' after) same such.holds })
