-- the numbers so far
use Rattle.std.proofs.Common.{◌≡◌, ◌++◌, false, map, take}
use Rattle.page_texts.specs.Page.{whole_number}
use Rattle.page_texts.specs.checked.Parts.{parts_text}
use Rattle.page_texts.specs.checked.SafeText.{values_text}
use Rattle.page_texts.proofs.parts.push_numbers.Given as goal

abbrev pub invariant-loop-i : goal.invariant-loop-i
invariant-loop-i l = parts_text l.parts.items ≡ parts_text l.initial.parts.items ++ values_text false (map whole_number (take l.i l.numbers))
