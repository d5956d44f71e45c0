use Rattle.std.proofs.Common.{sym}
use Rattle.stack_core.proofs.RecordLemmas.{IsWellTold-front, stands_for-append, stands_for-written}
use Rattle.stack_core.specs.Records.{stands_for_after, names_told, stacks_told}
use Rattle.stack_core.proofs.laws.well_told_records.Goals as goal

pub returns-clause-prefix : goal.returns-clause-prefix
returns-clause-prefix c = IsWellTold-front

pub returns-clause-items : goal.returns-clause-items
returns-clause-items c = λ records more. (stands_for_after (names_told records) (stacks_told records) more, sym (stands_for-append records more))

pub returns-clause-names : goal.returns-clause-names
returns-clause-names c = stands_for-written
