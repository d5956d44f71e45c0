use Rattle.std.proofs.Common.{◌+◌, ◌≤◌, length, sym, ◌∙◌, arith, take_all}
use Rattle.std.proofs.lemmas.List.{length-take}
use Rattle.folded_lines.proofs.SharedFronts.{above_none, shared_within, BeginsIn-shared}
use Rattle.folded_lines.proofs.shared_names.begin_alike.Goals as goal

pub slice_bounds-number-items-end : goal.slice_bounds-number-items-end
slice_bounds-number-items-end c =
    let left = c.without_trailing_semicolons-before.result.now in
    let count = c.count_semicolons.result in
    let numbers = c.args.last.numbers.now in
    let within : count + 1 ≤ length numbers =
    shared_within c.args.last.head.now left c.args.head.now c.in-Some.end count c.without_trailing_semicolons-before.ensures
    (above_none (length left) (sym c.if-is_empty.ensures)) c.in-Some.ensures c.count_semicolons.ensures numbers c.requires.numbers in
    omega (arith, within, length-take (count + 1) numbers)

pub returns : goal.returns
returns c = λ names by.
    let left = c.without_trailing_semicolons-before.result.now in
    BeginsIn-shared c.args.last.head.now left c.args.head.now c.in-Some.end c.count_semicolons.result c.without_trailing_semicolons-before.ensures
    (above_none (length left) (sym c.if-is_empty.ensures)) c.in-Some.ensures c.count_semicolons.ensures names c.args.last.numbers.now c.loop-number.frames.items
    c.left_behind.result by (c.loop-number.invariant ∙ take_all c.loop-number.number-index _ c.loop-number-test.false) (sym c.left_behind.ensures)
