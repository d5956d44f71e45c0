use Rattle.std.proofs.Common.{◌≡◌, List, ℕ, Result, Ok, Err, IfOk, OnErr, false, refl, rules, subst, sym}
use Rattle.std.specs.declared.alloc.AllocError.{AllocError}
use Rattle.std.proofs.lemmas.Result.{IfOk-weaker}
use Rattle.stack_core.specs.Reading.{Rest, Steps}
use Rattle.stack_core.specs.RowSamples.{Awaiting, is_idle, left_with}
use Rattle.stack_core.specs.declared.readers.Step.{Step}
use Rattle.profile_tables.specs.State.{State, HasRead}
use Rattle.profile_tables.specs.checked.View.{HasReadFor, reader_state}
use Rattle.profile_tables.proofs.NamingLemmas.{read_by, has_read, reads_on}
use Rattle.profile_tables.proofs.reader.PprofReaderSampleReader.next.Goals as goal
use Rattle.profile_tables.proofs.reader.PprofReaderSampleReader.next.Goals.{then-is_idle+in_ok-step, else-is_idle}

-- behind a sample that is awaited the tables were read
pub returns-clause-tables : goal.returns-clause-tables
returns-clause-tables c =
    let rows = c.if-is_idle.self-inside.rows in
    let awaited = c.if-is_idle.self-inside.samples.awaited in
    let asked : HasReadFor awaited rows = elim c.if-is_idle.branch [ then-is_idle+in_ok-step w ↦ search (rules, read_by) | else-is_idle w ↦ search rules ] in
    let self : State = reader_state (record { rows = rows; samples = c.give.new.self }) in
    IfOk-weaker c.give.result _ (HasRead self) (λ given steps. has_read awaited c.give.new.self.awaited rows.told.names rows self given (search rules) asked refl steps) c.give.ensures.step

reads_after : (result : Result Step AllocError) (old new : Awaiting) (names : List (List ℕ)) (rows : State) → is_idle old.awaited ≡ false → HasReadFor old.awaited rows
    → IfOk result (λ given. (rest : Rest) → Steps (left_with names old.awaited rest) given (left_with names new.awaited rest)) → OnErr result (new ≡ old) → HasReadFor new.awaited rows
reads_after (Ok given) old new names rows busy read steps refused = reads_on old.awaited new.awaited names rows given busy read steps
reads_after (Err fault) old new names rows busy read steps refused = subst (λ (samples : Awaiting). HasReadFor samples.awaited rows) (sym refused) read

pub invariant_of-self-2 : goal.invariant_of-self-2
invariant_of-self-2 c =
    let rows = c.if-is_idle.self-inside.rows in
    let samples = c.if-is_idle.self-inside.samples in
    let asked : HasReadFor samples.awaited rows = elim c.if-is_idle.branch [ then-is_idle+in_ok-step w ↦ search (rules, read_by) | else-is_idle w ↦ search rules ] in
    record {
      stacks = search rules;
      few = search rules;
      tables = reads_after c.give.result samples c.give.new.self rows.told.names rows (search rules) asked c.give.ensures.step c.give.ensures.refused;
    }
