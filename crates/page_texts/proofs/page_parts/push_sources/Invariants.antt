-- the sources so far
use Rattle.std.proofs.Common.{◌≡◌, ◌++◌, false, map, take}
use Rattle.page_texts.specs.Page.{source_data}
use Rattle.page_texts.specs.Drawn.{source_of}
use Rattle.page_texts.specs.checked.Parts.{parts_text}
use Rattle.page_texts.specs.checked.SafeText.{values_text}
use Rattle.page_texts.proofs.page_parts.push_sources.Given as goal

abbrev pub invariant-loop-i : goal.invariant-loop-i
invariant-loop-i l = parts_text l.parts.items ≡ parts_text l.initial.parts.items ++ values_text false (map (λ source. source_data (source_of source)) (take l.i l.sources))
