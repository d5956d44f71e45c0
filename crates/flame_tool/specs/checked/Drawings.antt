-- What a live run drew, and what it told of the ends of its sources, by the rests that its readers may give.
use Rattle.std.specs.Prelude.{◌≡◌, ℕ, false, List, [], Option, Err, OnErr, OnOk, length, map}
use Rattle.std.specs.Io.KnownBytes.{Appends}
use Rattle.byte_io.specs.Pieces.{AppendsFront}
use Rattle.sample_tables.specs.declared.samples.Sample.{Sample}
use Rattle.stack_core.specs.Ledgers.{ListState}
use Rattle.stack_core.specs.Reading.{Rest}
use Rattle.stack_core.specs.declared.endings.SourceEnd.{SourceEnd}
use Rattle.ring_collect.specs.Collection.{AnswersFeed, CollectsRun}
use Rattle.ring_collect.specs.declared.faults.CollectFault.{CollectFault}
use Rattle.live_lines.specs.Ends.{ToldEnd, has_lost}
use Rattle.live_lines.specs.Lines.{live_counts, live_lines, live_text}
use Rattle.live_lines.specs.declared.form.LiveForm.{LiveForm}
use Rattle.flame_tool.specs.checked.LiveEnds.{anywhere}
use Rattle.flame_tool.specs.checked.LiveSaying.{AreTold}
use Rattle.flame_tool.specs.declared.live_graphs.Drawn.{Drawn}

-- the endings of lists, and how many samples each has
pub record AreEndsOf (endings : List SourceEnd) (counts : List ℕ) (lists : List ListState) : Type 0 where
  pub endings_are : endings ≡ map (λ list. list.ending) lists
  pub counts_are : counts ≡ map (λ list. length list.samples) lists

-- all was collected and drawn, as far as the output went, and the end of each source was told once
pub record DrawsAll (form : LiveForm) (width every : ℕ) (old new : Option (List ℕ)) (drawn : Drawn) (told : List ToldEnd) (rests : List Rest) : Type 0 where
  pub taken : List (ℕ × Sample)
  pub lists : List ListState
  pub order : List ℕ
  pub run : CollectsRun anywhere anywhere rests [] taken lists order
  pub gained : OnOk drawn.sent (Appends old new (live_text form (length rests) width every taken))
  pub front : OnErr drawn.sent (AppendsFront (live_text form (length rests) width every taken) old new)
  pub ends : AreEndsOf drawn.endings.items (live_counts drawn.merge.sources drawn.merge.taken (length drawn.merge.taken)) lists
  pub are_told : AreTold lists told
  pub whole : OnOk drawn.sent (drawn.is_lost ≡ false)
  pub unlost : drawn.is_lost ≡ false → has_lost told ≡ false

-- not all was, and some was drawn
pub record DrawsSome (form : LiveForm) (width every : ℕ) (old new : Option (List ℕ)) (fault : CollectFault) (rests : List Rest) : Type 0 where
  pub taken : List (ℕ × Sample)
  pub answer : AnswersFeed anywhere anywhere rests [] taken (Err fault)
  pub gained : AppendsFront (live_lines form (length rests) width every taken) old new
