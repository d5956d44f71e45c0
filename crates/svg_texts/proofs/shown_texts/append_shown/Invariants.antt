use Rattle.std.proofs.Common.{◌≡◌, ◌++◌}
use Rattle.std.specs.List.{flat_map}
use Rattle.svg_texts.specs.Shown.{visible_character, xml_text}
use Rattle.svg_texts.proofs.shown_texts.append_shown.Given as goal

abbrev pub invariant-loop-character : goal.invariant-loop-character
invariant-loop-character l = l.out.items ≡ l.fn.out.items ++ xml_text (flat_map visible_character l.yielded)
