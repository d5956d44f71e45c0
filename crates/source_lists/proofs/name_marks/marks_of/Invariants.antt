use Rattle.std.proofs.Common.{◌≡◌, map, take}
use Rattle.source_lists.specs.checked.NameMarks.{holds}
use Rattle.source_lists.proofs.name_marks.marks_of.Given as goal

abbrev pub invariant-loop-number : goal.invariant-loop-number
invariant-loop-number l = l.marks.items ≡ map (holds l.test) (take l.number l.list.told)
