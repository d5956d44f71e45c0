-- the numbers so far
use Rattle.std.proofs.Common.{◌≡◌, ◌≤◌, ◌-◌, ◌++◌, false, length, map, take}
use Rattle.page_texts.specs.Page.{whole_number}
use Rattle.page_texts.specs.checked.Kept.{no_kept, numbers_of}
use Rattle.page_texts.specs.checked.Parts.{parts_text}
use Rattle.page_texts.specs.checked.SafeText.{values_text}
use Rattle.page_texts.proofs.parts.push_column.Given as goal

abbrev pub invariant-loop-at : goal.invariant-loop-at
invariant-loop-at l =
    (l.at ≤ length l.boxes) × (parts_text l.parts.items ≡ parts_text l.initial.parts.items ++ values_text false (map whole_number (take l.at (numbers_of l.column no_kept l.boxes))))

abbrev pub decreases-loop-at : goal.decreases-loop-at
decreases-loop-at l = length l.boxes - l.at
