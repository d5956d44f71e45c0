-- What a run collected, and what a refusal leaves in the sink.
use Rattle.std.specs.Prelude.{◌≡◌, ◌≤◌, ◌<◌, ◌++◌, ◌⊎◌, ℕ, List, [], ◌∷◌, length, map, All, Some, slice_get, Result, IfOk, IsErrOf, Vec}
use Rattle.std.specs.declared.alloc.Global.{Global}
use Rattle.call_tree.specs.FrameTable.{HasDistinctNames}
use Rattle.stack_core.specs.Reading.{Rest}
use Rattle.stack_core.specs.Ledgers.{ListState}
use Rattle.stack_core.specs.NamesInOrder.{names_in_order}
use Rattle.stack_core.specs.Prefixes.{IsPrefixOf}
use Rattle.stack_core.specs.Interleaving.{AreOf, IsInterleaving, interleaved, list_of, of_source}
use Rattle.sample_tables.specs.declared.samples.Sample.{Sample}
use Rattle.stack_core.specs.declared.endings.SourceEnd.{SourceEnd}
use Rattle.stack_core.specs.Told.{GoesBelow, IsCollected}
use Rattle.ring_collect.specs.declared.faults.CollectFault.{CollectFault}
use Rattle.ring_collect.specs.declared.faults.CollectFault.TheVariants.{OutOfMemory, NoThread, Unfinished}
use Rattle.ring_collect.specs.declared.runs.Collected.{Collected}

-- the samples and the ending of a list
abbrev pub seen_as_rest : ListState → Rest
seen_as_rest list = record { samples = list.samples; ending = list.ending }

-- a rest for each reader, which it may give
abbrev pub AreGiven : {R : Type 0} → (R → Rest → Type 0) → List R → List Rest → Type 0
AreGiven gives [] [] = Unit {0}
AreGiven gives [] (rest ∷ rests) = ⊥
AreGiven gives (reader ∷ readers) [] = ⊥
AreGiven gives (reader ∷ readers) (rest ∷ rests) = gives reader rest × AreGiven gives readers rests

-- there are rests, a rest for each reader, which it may give, of which this holds
pub record GiveSuch {R : Type 0} (gives : R → Rest → Type 0) (readers : List R) (Holds : List Rest → Type 0) : Type 0 where
  pub rests : List Rest
  pub are_given : AreGiven gives readers rests
  pub holds : Holds rests

-- one list for each rest, in their order
pub record Collects (may_stop may_go : ℕ → ℕ → Type 0) (rests : List Rest) (lists : List ListState) : Type 0 where
  pub count : length lists ≡ length rests
  pub each : (source : ℕ) (rest : Rest) (list : ListState) → slice_get rests source ≡ Some rest → slice_get lists source ≡ Some list
      → IsCollected may_stop may_go source rest (seen_as_rest list)

-- each list is a whole rest, with its ending
abbrev pub AreWhole : List Rest → List ListState → Type 0
AreWhole rests lists = map seen_as_rest lists ≡ rests

-- what the sink gained has of each source a beginning of its rest, and nothing of any other
pub record GainsFirst (rests : List Rest) (taken taken' : List (ℕ × Sample)) : Type 0 where
  pub pairs : List (ℕ × Sample)
  pub lists : List (List Sample)
  pub gained : taken' ≡ taken ++ pairs
  pub of_lists : AreOf pairs lists
  pub no_more : length lists ≤ length rests
  pub first : (source : ℕ) (rest : Rest) → slice_get rests source ≡ Some rest → IsPrefixOf (list_of lists source) rest.samples

-- the gate may go at each sample that the sink gained: of each source at as many of the first ones as it gained
pub record GainsAllowed (may_go : ℕ → ℕ → Type 0) (taken taken' : List (ℕ × Sample)) : Type 0 where
  pub pairs : List (ℕ × Sample)
  pub gained : taken' ≡ taken ++ pairs
  pub goes : (source : ℕ) → GoesBelow may_go source (length (of_source source pairs))

-- what the sink gained is of these many sources
pub record GainsOf (count : ℕ) (taken taken' : List (ℕ × Sample)) : Type 0 where
  pub pairs : List (ℕ × Sample)
  pub gained : taken' ≡ taken ++ pairs
  pub sources : All (λ pair. pair.0 < count) pairs

-- a source of the run, and the sink began with what it held
pub record Unfinishes (count source : ℕ) (taken taken' : List (ℕ × Sample)) : Type 0 where
  pub below : source < count
  pub gains : GainsOf count taken taken'

-- what was collected of readers with these rests: a list for each, all of its rest, or its first samples where the gate stopped it; each
-- list was told exactly the names of its samples, in the order in which they first appear, and none twice. The sink gained exactly the
-- lists' samples, in the order of arrival
pub record CollectsRun (may_stop may_go : ℕ → ℕ → Type 0) (rests : List Rest) (taken taken' : List (ℕ × Sample)) (found : List ListState) (arrival : List ℕ) : Type 0 where
  pub lists : Collects may_stop may_go rests found
  pub whole : ((source index : ℕ) → may_stop source index → ⊥) → AreWhole rests found
  pub told : All (λ list. list.told ≡ names_in_order list.samples) found
  pub distinct : All (λ list. HasDistinctNames list.told) found
  pub order : IsInterleaving arrival (map (λ list. list.samples) found)
  pub sink : taken' ≡ taken ++ interleaved arrival (map (λ list. list.samples) found)
  pub by_source : AreOf (interleaved arrival (map (λ list. list.samples) found)) (map (λ list. list.samples) found)

-- how a source ended, and how many samples of it were taken before
abbrev pub EndOfSource : Type 0
EndOfSource = SourceEnd × ℕ

-- a sink that took these samples heard of each source its ending, once, behind all its samples
pub record HearsAll (taken : List (ℕ × Sample)) (endings : List SourceEnd) (heard heard' : List (ℕ × EndOfSource)) : Type 0 where
  pub pairs : List (ℕ × EndOfSource)
  pub gained : heard' ≡ heard ++ pairs
  pub each : (source : ℕ) (ending : SourceEnd) → slice_get endings source ≡ Some ending
      → of_source source pairs ≡ (ending, length (of_source source taken)) ∷ []
  pub no_other : (source : ℕ) → length endings ≤ source → of_source source pairs ≡ []

-- of each of so many sources it heard an ending at most once
pub record HearsSome (count : ℕ) (heard heard' : List (ℕ × EndOfSource)) : Type 0 where
  pub pairs : List (ℕ × EndOfSource)
  pub gained : heard' ≡ heard ++ pairs
  pub once : (source : ℕ) → length (of_source source pairs) ≤ 1
  pub no_other : (source : ℕ) → count ≤ source → of_source source pairs ≡ []

-- of a source with this rest it heard nothing, or how it ended, behind all that was collected of it
abbrev pub HearsEnd : (ℕ → ℕ → Type 0) → (ℕ → ℕ → Type 0) → ℕ → Rest → List (ℕ × Sample) → List (ℕ × Sample) → List EndOfSource → Type 0
HearsEnd may_stop may_go source rest taken taken' ends =
    (ends ≡ []) ⊎ ((list : Rest) × IsCollected may_stop may_go source rest list × (of_source source taken' ≡ of_source source taken ++ list.samples)
    × (ends ≡ (list.ending, length (of_source source taken')) ∷ []))

-- so of each of readers with these rests
pub record HearsFirst (may_stop may_go : ℕ → ℕ → Type 0) (rests : List Rest) (taken taken' : List (ℕ × Sample)) (heard heard' : List (ℕ × EndOfSource)) : Type 0 where
  pub pairs : List (ℕ × EndOfSource)
  pub gained : heard' ≡ heard ++ pairs
  pub each : (source : ℕ) (rest : Rest) → slice_get rests source ≡ Some rest → HearsEnd may_stop may_go source rest taken taken' (of_source source pairs)
  pub no_other : (source : ℕ) → length rests ≤ source → of_source source pairs ≡ []

-- what was collected so by a run that keeps no list: there are such lists, with these endings, and an order of arrival
pub record FeedsRun (may_stop may_go : ℕ → ℕ → Type 0) (rests : List Rest) (taken taken' : List (ℕ × Sample)) (endings : List SourceEnd) : Type 0 where
  pub found : List ListState
  pub arrival : List ℕ
  pub collects : CollectsRun may_stop may_go rests taken taken' found arrival
  pub ends : endings ≡ map (λ list. list.ending) found

-- what a run answers of readers with these rests, where this holds of what it answers on Ok. A refusal leaves in the sink a beginning of
-- each source, at each sample of which the gate may go
pub record Answers {Run : Type 0} (Holds : Run → Type 0) (may_go : ℕ → ℕ → Type 0) (rests : List Rest) (taken taken' : List (ℕ × Sample)) (answer : Result Run CollectFault) : Type 0 where
  pub run : IfOk answer Holds
  pub refused : IsErrOf answer OutOfMemory ⊎ IsErrOf answer NoThread → GainsFirst rests taken taken'
  pub popped : IsErrOf answer OutOfMemory ⊎ IsErrOf answer NoThread → GainsAllowed may_go taken taken'
  pub unfinished : (source : ℕ) → IsErrOf answer (Unfinished source) → Unfinishes (length rests) source taken taken'

-- so of a run that answers lists and an order
abbrev pub AnswersRun : (ℕ → ℕ → Type 0) → (ℕ → ℕ → Type 0) → List Rest → List (ℕ × Sample) → List (ℕ × Sample) → Result Collected CollectFault → Type 0
AnswersRun may_stop may_go rests taken taken' answer = Answers (λ run. CollectsRun may_stop may_go rests taken taken' run.lists.items run.order.items) may_go rests taken taken' answer

-- and of one that answers endings alone
abbrev pub AnswersFeed : (ℕ → ℕ → Type 0) → (ℕ → ℕ → Type 0) → List Rest → List (ℕ × Sample) → List (ℕ × Sample) → Result (Vec SourceEnd Global) CollectFault → Type 0
AnswersFeed may_stop may_go rests taken taken' answer = Answers (λ endings. FeedsRun may_stop may_go rests taken taken' endings.items) may_go rests taken taken' answer

-- what a sink that knows the sources of these readers hears of their ends in a run with this answer, whose endings are these on Ok: of
-- each its ending; else of some; and unless one is unfinished of none but how it ended
pub record TellsEnds {R Run : Type 0} (gives : R → Rest → Type 0) (may_stop may_go : ℕ → ℕ → Type 0) (readers : List R) (taken taken' : List (ℕ × Sample)) (heard heard' : List (ℕ × EndOfSource)) (endings : Run → List SourceEnd) (answer : Result Run CollectFault) : Type 0 where
  pub all : IfOk answer (λ run. HearsAll taken' (endings run) heard heard')
  pub some : HearsSome (length readers) heard heard'
  pub first : ((source : ℕ) → IsErrOf answer (Unfinished source) → ⊥) → GiveSuch gives readers (λ rests. HearsFirst may_stop may_go rests taken taken' heard heard')
