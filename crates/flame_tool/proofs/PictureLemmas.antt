-- The unit that all sources of a picture have.
use Rattle.std.proofs.Common.{[], ℕ, List, Option, None, Some, cond, drop, map}
use Rattle.std.specs.List.{list_all}
use Rattle.std.specs.Str.{bytes_eq}
use Rattle.page_texts.specs.Drawn.{source_of}
use Rattle.page_texts.specs.declared.pages.Source.{Source}
use Rattle.flame_tool.specs.Pictures.{common_unit, said_with_weight}
use Rattle.flame_tool.specs.checked.SaidOfSources.{said_in}
use Rattle.flame_tool.specs.declared.headings.Said.{Said}

-- the unit of some sources and of those before them, of which it is known already where they have weight
abbrev pub unit_with : Option (List ℕ) → List (List ℕ) → List ℕ
unit_with None units = common_unit units
unit_with (Some unit) units = cond (list_all (bytes_eq unit) units) unit []

abbrev pub said_from : Said → List Source → ℕ → List (List ℕ)
said_from said sources at = said_with_weight (said_in said) (map source_of (drop at sources))
