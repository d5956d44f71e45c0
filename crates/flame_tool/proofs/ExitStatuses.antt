-- What an exit status says of a run that showed what was asked for, or failed.
use Rattle.std.proofs.Common.{◌≡◌, ◌≢◌, ◌≤◌, ◌⊎◌, ℕ, Bool, true, false, List, Option, Result, Ok, Err, IfErr, IfOk, OnOk, ap, inl, inr, refl, arith}
use Rattle.std.specs.Prelude.{IsErrOf}
use Rattle.std.specs.Io.KnownBytes.{Keeps}
use Rattle.byte_io.specs.declared.piece_output.PieceFault.{PieceFault}
use Rattle.flame_tool.specs.KnownRuns.{Succeeds}
use Rattle.flame_tool.specs.Runs.{FailsUntouched}
use Rattle.flame_tool.specs.checked.Failures.{KeepsOutput, exit_status}
use Rattle.source_views.specs.Failures.{CountsFailure, Flushes, status_of}
use Rattle.source_views.specs.declared.failures.Failure.{Failure}
use Rattle.source_views.specs.declared.failures.Failure.TheVariants.{TooManyFiles, Unreadable, TooLarge, OutOfMemory, NoThread, Unfinished, Faults, Output}

-- ---- of any failure

-- its status is one of three
of_statuses : (P : ℕ → Type 0) → P 1 → P 2 → P 3 → (failure : Failure) → P (status_of failure)
of_statuses P one two three TooManyFiles = two
of_statuses P one two three (Unreadable source) = three
of_statuses P one two three (TooLarge source) = three
of_statuses P one two three OutOfMemory = three
of_statuses P one two three NoThread = three
of_statuses P one two three (Unfinished source) = three
of_statuses P one two three Faults = one
of_statuses P one two three (Output fault) = three

not_zero : (failure : Failure) → status_of failure ≢ 0
not_zero failure = of_statuses (λ status. status ≢ 0) (λ zero. omega (arith, zero)) (λ zero. omega (arith, zero)) (λ zero. omega (arith, zero)) failure

at_most_three : (failure : Failure) → status_of failure ≤ 3
at_most_three failure = of_statuses (λ status. status ≤ 3) (omega arith) (omega arith) (omega arith) failure

-- two of them have another status than 3
pub of_others : (P : Failure → Type 0) → P TooManyFiles → P Faults → (failure : Failure) → status_of failure ≢ 3 → P failure
of_others P many faulty TooManyFiles other = many
of_others P many faulty (Unreadable source) other = absurd (other refl)
of_others P many faulty (TooLarge source) other = absurd (other refl)
of_others P many faulty OutOfMemory other = absurd (other refl)
of_others P many faulty NoThread other = absurd (other refl)
of_others P many faulty (Unfinished source) other = absurd (other refl)
of_others P many faulty Faults other = faulty
of_others P many faulty (Output fault) other = absurd (other refl)

pub only_many : (failure : Failure) → status_of failure ≡ 2 → failure ≡ TooManyFiles
only_many failure two = of_others (λ failure. status_of failure ≡ 2 → failure ≡ TooManyFiles) (λ two. refl) (λ two. absurd (omega (arith, two))) failure (λ three. omega (arith, two, three)) two

-- ---- of a run

pub status_within : (shown : Result Bool Failure) → exit_status shown ≤ 4
status_within (Ok true) = omega arith
status_within (Ok false) = omega arith
status_within (Err failure) = omega (arith, at_most_three failure)

not_four : (failure : Failure) → status_of failure ≡ 4 → ⊥
not_four failure four = omega (arith, at_most_three failure, four)

no_success : {P : Type 0} (failure : Failure) → Succeeds (status_of failure) → P
no_success failure (inl zero) = absurd (not_zero failure zero)
no_success failure (inr four) = absurd (not_four failure four)

pub at_success : {P : Type 0} (shown : Result Bool Failure) → Succeeds (exit_status shown) → OnOk shown P → P
at_success (Ok done) success holds = holds
at_success (Err failure) success holds = no_success failure success

-- what is said of either answer
pub of_answer : (P : Bool → Type 0) (shown : Result Bool Failure) → IfOk shown P → (exit_status shown ≡ 0 → P false) × (exit_status shown ≡ 4 → P true)
of_answer P (Ok true) holds = ((λ zero. absurd (omega arith)), (λ four. holds))
of_answer P (Ok false) holds = ((λ zero. holds), (λ four. absurd (omega arith)))
of_answer P (Err failure) holds = ((λ zero. absurd (not_zero failure zero)), (λ four. absurd (not_four failure four)))

pub flushed_at_success : {P : Type 0} (old new : ℕ) (shown : Result Bool Failure) → Succeeds (exit_status shown) → Flushes P old new shown → P
flushed_at_success old new (Ok done) success flushes = flushes.0
flushed_at_success old new (Err failure) success flushes = no_success failure success

pub many_at_two : {P : Type 0} (shown : Result Bool Failure) → exit_status shown ≡ 2 → (IsErrOf shown TooManyFiles → P) → P
many_at_two (Ok true) two many = absurd (omega arith)
many_at_two (Ok false) two many = absurd (omega arith)
many_at_two (Err failure) two many = many (ap Err (only_many failure two))

pub few_but_at_two : {P : Type 0} (shown : Result Bool Failure) → exit_status shown ≢ 2 → (shown ≢ Err TooManyFiles → P) → P
few_but_at_two shown other few = few (λ is. other (ap exit_status is))

pub kept_at : (old new : Option (List ℕ)) (status : ℕ) (shown : Result Bool Failure) → 1 ≤ status → status ≤ 2 → exit_status shown ≡ status → IfErr shown (KeepsOutput old new) → Keeps old new
kept_at old new status (Ok true) low high is kept = absurd (omega (arith, is))
kept_at old new status (Ok false) low high is kept = absurd (omega (arith, is))
kept_at old new status (Err failure) low high is kept =
    of_others (λ failure. KeepsOutput old new failure → Keeps old new) (λ kept. kept) (λ kept. kept) failure (λ three. omega (arith, is, three, high)) kept

pub unfailed_but_at_three : (P : Type 0) (old new : ℕ) (shown : Result Bool Failure) → exit_status shown ≢ 3 → Flushes P old new shown → new ≡ old
unfailed_but_at_three P old new (Ok done) other flushes = flushes.1
unfailed_but_at_three P old new (Err failure) other flushes = of_others (λ failure. CountsFailure old new failure → new ≡ old) (λ same. same) (λ same. same) failure other flushes

pub faulty_at_one : (Fails : Failure → Type 0) (shown : Result Bool Failure) → exit_status shown ≡ 1 → IfErr shown Fails → Fails Faults
faulty_at_one Fails (Ok true) one fails = absurd (omega arith)
faulty_at_one Fails (Ok false) one fails = absurd (omega arith)
faulty_at_one Fails (Err failure) one fails =
    of_others (λ failure. status_of failure ≡ 1 → Fails failure → Fails Faults) (λ one fails. absurd (omega (arith, one))) (λ one fails. fails) failure (λ three. omega (arith, one, three)) one fails

pub front_at_three : (Fails : Failure → Type 0) (Front : Type 0) (old new : Option (List ℕ)) → ((fault : PieceFault) → Fails (Output fault) → Front) → (shown : Result Bool Failure)
    → exit_status shown ≡ 3 → IfErr shown (KeepsOutput old new) → IfErr shown Fails → Keeps old new ⊎ Front
front_at_three Fails Front old new front (Ok true) three kept fails = absurd (omega arith)
front_at_three Fails Front old new front (Ok false) three kept fails = absurd (omega arith)
front_at_three Fails Front old new front (Err TooManyFiles) three kept fails = inl kept
front_at_three Fails Front old new front (Err (Unreadable source)) three kept fails = inl kept
front_at_three Fails Front old new front (Err (TooLarge source)) three kept fails = inl kept
front_at_three Fails Front old new front (Err OutOfMemory) three kept fails = inl kept
front_at_three Fails Front old new front (Err NoThread) three kept fails = inl kept
front_at_three Fails Front old new front (Err (Unfinished source)) three kept fails = inl kept
front_at_three Fails Front old new front (Err Faults) three kept fails = inl kept
front_at_three Fails Front old new front (Err (Output fault)) three kept fails = inr (front fault fails)

-- where it can't have shown anything nor failed in its output, it left that alone
module _ (P Shows : Type 0) (Fails : Failure → Type 0) (old new : Option (List ℕ)) (before after : ℕ) where
  pub untouched : (Shows → ⊥) → ((fault : PieceFault) → Fails (Output fault) → ⊥) → (shown : Result Bool Failure)
      → OnOk shown Shows → IfErr shown Fails → IfErr shown (KeepsOutput old new) → Flushes P before after shown → FailsUntouched (exit_status shown) old new before after
  untouched unshown unsent (Ok done) shows fails kept flushes = absurd (unshown shows)
  untouched unshown unsent (Err TooManyFiles) shows fails kept flushes = (not_zero TooManyFiles, kept, flushes)
  untouched unshown unsent (Err (Unreadable source)) shows fails kept flushes = (not_zero (Unreadable source), kept, flushes)
  untouched unshown unsent (Err (TooLarge source)) shows fails kept flushes = (not_zero (TooLarge source), kept, flushes)
  untouched unshown unsent (Err OutOfMemory) shows fails kept flushes = (not_zero OutOfMemory, kept, flushes)
  untouched unshown unsent (Err NoThread) shows fails kept flushes = (not_zero NoThread, kept, flushes)
  untouched unshown unsent (Err (Unfinished source)) shows fails kept flushes = (not_zero (Unfinished source), kept, flushes)
  untouched unshown unsent (Err Faults) shows fails kept flushes = (not_zero Faults, kept, flushes)
  untouched unshown unsent (Err (Output fault)) shows fails kept flushes = absurd (unsent fault fails)
