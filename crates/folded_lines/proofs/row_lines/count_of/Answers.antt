use Rattle.std.proofs.Common.{◌≡◌, ◌-◌, true, length, take, drop, sym, ap, ◌∙◌}
use Rattle.folded_lines.specs.Lines.{ends_in_number, is_number}
use Rattle.folded_lines.proofs.EndNumbers.{number_behind}
use Rattle.folded_lines.proofs.NumberLemmas.{digits-from_is_number}
use Rattle.folded_lines.proofs.row_lines.count_of.Goals as goal

pub weight_of-requires : goal.weight_of-requires
weight_of-requires c =
    let line = c.args.line.now in
    let found = c.in-Some.ensures in
    let number : is_number (drop c.in-Some.at line) ≡ true = sym (ap ends_in_number found.place.2) ∙ sym found.found in
    digits-from_is_number (take (length line - c.in-Some.at) (drop c.in-Some.at line)) (ap is_number (number_behind line c.in-Some.at) ∙ number) (sym c.if-has_point.ensures)
