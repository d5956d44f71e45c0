use Rattle.std.proofs.lemmas.Grind.{common_steps}
use Rattle.std.proofs.Common.{ap, length, arith, rules}
use Rattle.std.proofs.lemmas.Result.{IfOk-from_err}
use Rattle.profile_tables.proofs.ReaderLemmas.{few-state}
use Rattle.profile_tables.proofs.row_reader.PprofRows.next_step.Goals as goal

pub returns-in-Some : goal.returns-in-Some
returns-in-Some c = search rules

pub invariant_of-self : goal.invariant_of-self
invariant_of-self c = search rules

pub returns-in_err-fault : goal.returns-in_err-fault
returns-in_err-fault c = record {
  step = IfOk-from_err _ _ c.from_residual.ensures.0;
  limits = IfOk-from_err _ _ c.from_residual.ensures.0;
  refused = search rules;
  stacks = search rules;
  names = search rules;
  few = few-state c.self.inside _ c.self.view_is (omega (arith, ap length c.as_slice-file.ensures));
  ended = IfOk-from_err _ _ c.from_residual.ensures.0;
  repeats = search rules;
  chosen_type = search rules;
  tables = IfOk-from_err _ _ c.from_residual.ensures.0;
}

pub invariant_of-self-in-Some-2 : goal.invariant_of-self-in-Some-2
invariant_of-self-in-Some-2 c = search rules

pub returns-in-Some-2 : goal.returns-in-Some-2
returns-in-Some-2 c = search rules

pub unreachable-requires : goal.unreachable-requires
unreachable-requires c = search rules

pub unreachable-unreachable : goal.unreachable-unreachable
unreachable-unreachable c = search rules

pub next_row-requires : goal.next_row-requires
next_row-requires c = search rules

pub invariant_of-self-in_err-step : goal.invariant_of-self-in_err-step
invariant_of-self-in_err-step c = search rules

pub returns-in_err-step : goal.returns-in_err-step
returns-in_err-step c = record {
  step = IfOk-from_err _ _ c.from_residual-in_err-step.ensures.0;
  limits = IfOk-from_err _ _ c.from_residual-in_err-step.ensures.0;
  refused = search rules;
  stacks = search rules;
  names = search rules;
  few = few-state c.self.inside _ c.self.view_is (omega (arith, ap length c.as_slice-file.ensures));
  ended = IfOk-from_err _ _ c.from_residual-in_err-step.ensures.0;
  repeats = search rules;
  chosen_type = search rules;
  tables = IfOk-from_err _ _ c.from_residual-in_err-step.ensures.0;
}

pub invariant_of-self-in-End-1 : goal.invariant_of-self-in-End-1
invariant_of-self-in-End-1 c = search rules

pub overflow_add-self-in-New : goal.overflow_add-self-in-New
overflow_add-self-in-New c = search rules

pub invariant_of-self-in-New : goal.invariant_of-self-in-New
invariant_of-self-in-New c = search rules

pub returns : goal.returns
returns c = record {
  step = search rules;
  limits = search rules;
  refused = search rules;
  stacks = search rules;
  names = search rules;
  few = few-state c.self.inside _ c.self.view_is (omega (arith, ap length c.as_slice-file.ensures));
  ended = search rules;
  repeats = search rules;
  chosen_type = search rules;
  tables = search rules;
}

pub overflow_add-self : goal.overflow_add-self
overflow_add-self c = grind (arith, common_steps)
