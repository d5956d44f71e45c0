use Rattle.std.proofs.Common.{◌≡◌, take}
use Rattle.view_texts.specs.checked.Joined.{joined_names}
use Rattle.view_texts.proofs.turned_names.turn_names.Given as goal

abbrev pub invariant-loop-place : goal.invariant-loop-place
invariant-loop-place l = l.text.items ≡ joined_names l.merged.names (take l.place l.ranks)
