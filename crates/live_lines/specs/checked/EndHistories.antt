-- The ends that were told, which contracts alone read.
use Rattle.std.specs.Prelude.{List, [], ◌∷◌, ◌++◌}
use Rattle.live_lines.specs.Ends.{ToldEnd}
use Rattle.live_lines.specs.declared.ends.OneEnd.{OneEnd}
use Rattle.live_lines.specs.declared.ends.EndHistory.{EndHistory, Nothing, More'}

-- the end for which it stands
abbrev pub end_told : OneEnd → ToldEnd
end_told one = record { source = one.source; ending = one.ending.value; count = one.count; is_lost = one.is_lost }

abbrev pub ends_of : EndHistory → List ToldEnd
ends_of Nothing = []
ends_of (More' _ before last) = ends_of before ++ end_told last.value ∷ []
