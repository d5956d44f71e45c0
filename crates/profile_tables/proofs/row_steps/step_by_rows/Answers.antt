use Rattle.std.proofs.Common.{rules}
use Rattle.profile_tables.proofs.row_steps.step_by_rows.Goals as goal

pub next_row-requires-in-None-clause-teller : goal.next_row-requires-in-None-clause-teller
next_row-requires-in-None-clause-teller c = c.in_ok-first-in-None.ensures.teller c.args.file.now

pub next_row-requires : goal.next_row-requires
next_row-requires c = search rules

pub returns-in_err-first-in-None : goal.returns-in_err-first-in-None
returns-in_err-first-in-None c = search rules

pub next_row-requires-in-None-clause-total : goal.next_row-requires-in-None-clause-total
next_row-requires-in-None-clause-total c = search rules

pub next_row-requires-in-None-clause-count : goal.next_row-requires-in-None-clause-count
next_row-requires-in-None-clause-count c = search rules

pub returns-in-Some : goal.returns-in-Some
returns-in-Some c = search rules

pub returns-in_ok-step-in-None : goal.returns-in_ok-step-in-None
returns-in_ok-step-in-None c = search rules
