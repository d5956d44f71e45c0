-- The lists of a run, however they are held.
use Rattle.source_lists.specs.Lists.{ListsState}
use Rattle.source_views.specs.declared.shown.Held.{Held}
use Rattle.source_views.specs.declared.shown.Held.TheVariants.{Lent, Given}

abbrev pub held_lists : Held → ListsState
held_lists (Lent sources) = sources.now
held_lists (Given sources) = sources
