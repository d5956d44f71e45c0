-- How sources ended, as it is told while others still come.
use Rattle.std.specs.Prelude.{ℕ, Bool, List, map}
use Rattle.std.specs.List.{list_any}
use Rattle.stack_core.specs.declared.endings.SourceEnd.{SourceEnd}
use Rattle.ring_collect.specs.Collection.{EndOfSource}

-- the end of a source: how it ended, behind how many of its samples, and whether the output had failed before
pub record ToldEnd : Type 0 where
  pub source : ℕ
  pub ending : SourceEnd
  pub count : ℕ
  pub is_lost : Bool

-- the same as a sink hears it
abbrev pub heard_of : ToldEnd → ℕ × EndOfSource
heard_of end = (end.source, (end.ending, end.count))

abbrev pub heard_of_each : List ToldEnd → List (ℕ × EndOfSource)
heard_of_each ends = map heard_of ends

-- the output had failed before one of them
abbrev pub has_lost : List ToldEnd → Bool
has_lost ends = list_any (λ end. end.is_lost) ends
