use Rattle.std.specs.Prelude.{◌≡◌, ℕ, ◌<◌, ◌≤◌, List, [], ◌∷◌, ◌++◌, length, take, map}
use Rattle.std.specs.Prelude.{Option, Some, None}
use Rattle.stack_core.specs.Reading.{Rest}
use Rattle.sample_tables.specs.declared.samples.Sample.{Sample}
use Rattle.stack_core.specs.declared.endings.SourceEnd.TheVariants as ending
use Rattle.stack_core.specs.declared.endings.Close.{Close}
use Rattle.stack_core.specs.declared.endings.Close.TheVariants as close
use Rattle.stack_core.specs.declared.endings.Item.{Item}
use Rattle.stack_core.specs.declared.endings.Item.TheVariants as item

-- samples in order, then one close
abbrev pub told : List Sample → Close → List Item
told samples last = map item.Sample samples ++ item.Close last ∷ []

-- the whole rest of a reader, with its ending
abbrev pub told_whole : Rest → List Item
told_whole rest = told rest.samples (close.Read rest.ending)

-- what stands before the sample of this number, at which the source was stopped
abbrev pub stopped : Rest → ℕ → Rest
stopped rest i = record { samples = take i rest.samples; ending = ending.Stopped i }

abbrev pub told_stopped : Rest → ℕ → List Item
told_stopped rest i = told_whole (stopped rest i)

-- as many samples as there was memory for
abbrev pub told_short : Rest → ℕ → List Item
told_short rest i = told (take i rest.samples) close.NoMemory

-- what the reader of a source with this rest tells
pub data IsToldList (rest : Rest) (items : List Item) : Type 0 where
  Whole : items ≡ told_whole rest → IsToldList rest items
  StoppedAt : (i : ℕ) → i < length rest.samples → items ≡ told_stopped rest i → IsToldList rest items
  ShortOfMemory : (i : ℕ) → i ≤ length rest.samples → items ≡ told_short rest i → IsToldList rest items

-- the gate may go at each of the first samples of this source
abbrev pub GoesBelow : (ℕ → ℕ → Type 0) → ℕ → ℕ → Type 0
GoesBelow may_go source n = (i : ℕ) → i < n → may_go source i

-- the same under a gate, which may go at each sample that is told, and may stop where the source was stopped
pub data IsToldUnder (may_stop may_go : ℕ → ℕ → Type 0) (source : ℕ) (rest : Rest) (items : List Item) : Type 0 where
  Whole : GoesBelow may_go source (length rest.samples) → items ≡ told_whole rest
      → IsToldUnder may_stop may_go source rest items
  StoppedAt : (i : ℕ) → i < length rest.samples → may_stop source i → GoesBelow may_go source i
      → items ≡ told_stopped rest i → IsToldUnder may_stop may_go source rest items
  ShortOfMemory : (i : ℕ) → i ≤ length rest.samples → GoesBelow may_go source i
      → items ≡ told_short rest i → IsToldUnder may_stop may_go source rest items

-- the samples and the ending that are collected of such a source
pub data IsCollected (may_stop may_go : ℕ → ℕ → Type 0) (source : ℕ) (rest list : Rest) : Type 0 where
  Whole : GoesBelow may_go source (length rest.samples) → list ≡ rest
      → IsCollected may_stop may_go source rest list
  StoppedAt : (i : ℕ) → i < length rest.samples → may_stop source i → GoesBelow may_go source i
      → list ≡ stopped rest i → IsCollected may_stop may_go source rest list

-- the sample that an item is, if it is one
abbrev pub sample_of : Item → Option Sample
sample_of (item.Sample sample) = Some sample
sample_of (item.Close last) = None
