use Rattle.std.proofs.Common.{sym}
use Rattle.call_tree.proofs.Names.{slice_get-IsAt, with_name_known}
use Rattle.merging.proofs.noted_numbers.number_name.Goals as goal

pub returns-clause-names : goal.returns-clause-names
returns-clause-names c =
    let there = c.has_number.ensures.0 c.if-has_number.true in
    sym (with_name_known c.args.table.now c.args.name.now c.in-Some.number (record { below = there.0; is = there.1 }))

pub returns-clause-number : goal.returns-clause-number
returns-clause-number c =
    let there = c.has_number.ensures.0 c.if-has_number.true in
    slice_get-IsAt c.args.table.now c.args.name.now c.in-Some.number (record { below = there.0; is = there.1 })
