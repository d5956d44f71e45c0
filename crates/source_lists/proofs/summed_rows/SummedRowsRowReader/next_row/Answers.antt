use Rattle.std.proofs.Common.{◌∙◌, subst}
use Rattle.sample_tables.specs.Rows.{ToldRows}
use Rattle.stack_core.specs.Prefixes.{IsPrefixOf}
use Rattle.source_lists.specs.checked.SummedRows.{GivesLeft}
use Rattle.source_lists.proofs.SummedLemmas.{left_all, not_some, on_err}
use Rattle.source_lists.proofs.summed_rows.SummedRowsRowReader.next_row.Goals as goal

pub returns-in_err-step-clause-refused : goal.returns-in_err-step-clause-refused
returns-in_err-step-clause-refused g c = on_err c.from_residual.result _ (λ rest given. c.loop.invariant.among rest (c.in_err-step.ensures.refused rest given))

pub returns-in_err-step-clause-names : goal.returns-in_err-step-clause-names
returns-in_err-step-clause-names g c =
    let now = g.R.RowReader.told c.try_next.new.self.reader in
    on_err c.from_residual.result _ (subst (λ (told : ToldRows). IsPrefixOf told.names now.names) c.loop.invariant.told c.in_err-step.ensures.names)

pub returns-in_err-step-2-clause-refused : goal.returns-in_err-step-2-clause-refused
returns-in_err-step-2-clause-refused g c = on_err c.from_residual-in_err-step-2.result _ (λ rest given. c.loop.invariant.among rest (c.in_err-step-2.ensures.refused rest given))

pub loop-preserved : goal.loop-preserved
loop-preserved g c =
    let r = g.R.RowReader in
    let old = c.loop.self in
    let new = c.try_next.new.self in
    let before = c.loop.invariant in
    let found = c.in_ok-step.ensures in
    let left = left_all (GivesLeft (r.gives old.reader) (r.told old.reader) old.sums.items) (GivesLeft (r.gives new.reader) (r.told new.reader) new.sums.items) (r.told old.reader) (r.told new.reader) c.in_ok-step.field-0 c.in_default.is found.passes in
    record {
      among = λ rest given. before.among rest (left.0 rest given);
      told = left.1 ∙ before.told;
      few = λ few. before.few found.few;
      ended = λ ended. absurd (not_some c.in_ok-step.field-0 c.in_default.is (found.repeats (before.ended ended)));
    }
