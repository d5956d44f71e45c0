use Rattle.std.proofs.Common.{◌≡◌, ◌+◌}
use Rattle.std.specs.List.{flat_map}
use Rattle.svg_texts.specs.Labels.{places_of}
use Rattle.svg_texts.specs.Shown.{visible_character}
use Rattle.svg_texts.proofs.labels.room_behind.Given as goal

abbrev pub invariant-loop-character : goal.invariant-loop-character
invariant-loop-character l = places_of (flat_map visible_character l.yielded) + l.rest ≡ l.fn.room
