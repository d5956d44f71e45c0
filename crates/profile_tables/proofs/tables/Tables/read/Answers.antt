use Rattle.std.proofs.Common.{ℕ, List, ap, ◌∙◌}
use Rattle.std.specs.Option.{option_and_then}
use Rattle.std.specs.List.{slice_get}
use Rattle.profile_tables.specs.Samples.{SampleTables}
use Rattle.profile_messages.specs.SeenIndex.{place_in}
use Rattle.profile_tables.proofs.OwnFrameLemmas.{own-frames}
use Rattle.profile_tables.proofs.tables.Tables.read.Goals as goal

pub returns-clause-tables : goal.returns-clause-tables
returns-clause-tables c =
    (λ i. let seen : SampleTables = record {
      sample_types = c.in_ok-outline.outline.sample_types;
      chosen = c.in_ok-outline.outline.chosen;
      frames = λ id. (ap (λ (list : List (List (List ℕ))). option_and_then (slice_get list) (place_in c.in_ok-outline.outline.frames.locations id)) c.in_ok-frames.ensures
          ∙ own-frames c.in_ok-outline.outline.frames c.in_ok-outline.ensures.whole id) i;
    } in seen)
    ∙ c.in_ok-outline.ensures.tables
