-- what is said so far, and what is said of the sources that come
use Rattle.std.proofs.Common.{◌≡◌, map, option_map}
use Rattle.page_texts.specs.Drawn.{source_of}
use Rattle.flame_tool.specs.Pictures.{common_unit, said_with_weight}
use Rattle.flame_tool.specs.checked.SaidOfSources.{said_in}
use Rattle.flame_tool.proofs.PictureLemmas.{said_from, unit_with}
use Rattle.flame_tool.proofs.headings.common.Given as goal

abbrev pub invariant-loop-source : goal.invariant-loop-source
invariant-loop-source l =
    unit_with (option_map (λ text. text.now) l.common) (said_from l.said l.sources l.source-index) ≡ common_unit (said_with_weight (said_in l.said) (map source_of l.sources))
