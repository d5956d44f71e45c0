-- the numbers so far
use Rattle.std.proofs.Common.{◌≡◌, ◌++◌, map, take}
use Rattle.page_texts.specs.Page.{whole_number}
use Rattle.page_texts.specs.checked.Kept.{numbers_of}
use Rattle.page_texts.specs.checked.SafeText.{values_text}
use Rattle.page_texts.proofs.part_texts.append_run.Given as goal

abbrev pub invariant-loop-i : goal.invariant-loop-i
invariant-loop-i l = l.out.items ≡ l.initial.out.items ++ values_text l.run.later (map whole_number (take l.i (numbers_of l.run.column l.run.before l.run.boxes.now)))
