-- Worked schedules, computed on the definitions.
use Rattle.std.proofs.Common.{◌≡◌, Bool, true, false, List, [], ◌∷◌, refl}
use Rattle.sample_tables.specs.declared.samples.Sample.{Sample}
use Rattle.stack_core.specs.declared.endings.SourceEnd.TheVariants as ending
use Rattle.stack_core.specs.declared.endings.Close.TheVariants as close
use Rattle.stack_core.specs.declared.endings.Item.{Item}
use Rattle.stack_core.specs.declared.endings.Item.TheVariants as item
use Rattle.stack_core.specs.declared.records.RingRecord.{RingRecord}
use Rattle.stack_core.specs.declared.records.RingRecord.TheVariants as record_of
use Rattle.stack_core.specs.declared.worlds.Event.{Event}
use Rattle.stack_core.specs.declared.worlds.Event.TheVariants.{Push, Pop}
use Rattle.stack_core.specs.Interleaving.{interleaved, counts_at}
use Rattle.stack_core.specs.Records.{stands_for, names_told}
use Rattle.stack_core.specs.Schedule.{Schedule, start, is_possible, happens, after_events, all_handed_out, only}
use Rattle.stack_core.specs.Told.{told, sample_of}

-- whether each event of a schedule is possible when it comes
abbrev answers : {A : Type 0} → Schedule A → List Event → List Bool
answers state [] = []
answers state (event ∷ events) = is_possible state event ∷ answers (happens state event) events

-- one told list of one sample, size 1
abbrev one : Sample → List (List Item)
one x = told (x ∷ []) (close.Read (ending.Clean 0)) ∷ []

abbrev one_source : List Event
one_source = Push 0 ∷ Push 0 ∷ Pop 0 ∷ Push 0 ∷ Pop 0 ∷ Pop 0 ∷ Push 1 ∷ []

one_source-answers : (x : Sample) → answers (start 1 (one x)) one_source ≡ true ∷ false ∷ true ∷ true ∷ true ∷ false ∷ false ∷ []
one_source-answers x = refl

one_source-received : (x : Sample) → (after_events (start 1 (one x)) one_source).lanes ≡ record { left = []; queue = []; received = told (x ∷ []) (close.Read (ending.Clean 0)) } ∷ []
one_source-received x = refl

-- two told lists, size 2: what was popped, and that its order stands for it
abbrev two : Sample → Sample → Sample → List (List Item)
two a b c = told (a ∷ b ∷ []) (close.Read (ending.Clean 0)) ∷ told (c ∷ []) close.NoMemory ∷ []

abbrev two_sources : List Event
two_sources = Push 0 ∷ Push 1 ∷ Push 0 ∷ Push 0 ∷ Pop 1 ∷ Pop 1 ∷ Push 1 ∷ Pop 0 ∷ Push 0 ∷ Push 0 ∷ Pop 1 ∷ []

two_sources-lanes : (a b c : Sample) → (after_events (start 2 (two a b c)) two_sources).lanes
    ≡ record { left = []; queue = item.Sample b ∷ item.Close (close.Read (ending.Clean 0)) ∷ []; received = item.Sample a ∷ [] }
    ∷ record { left = []; queue = []; received = item.Sample c ∷ item.Close close.NoMemory ∷ [] } ∷ []
two_sources-lanes a b c = refl

two_sources-order : (a b c : Sample) → only sample_of (all_handed_out (start 2 (two a b c)) two_sources) ≡ (1, c) ∷ (0, a) ∷ []
two_sources-order a b c = refl

-- an order of two lists
order-entries : (a b c : Sample) → interleaved (0 ∷ 1 ∷ 0 ∷ []) ((a ∷ b ∷ []) ∷ (c ∷ []) ∷ []) ≡ (0, a) ∷ (1, c) ∷ (0, b) ∷ []
order-entries a b c = refl

order-counts : (counts_at 2 (0 ∷ 1 ∷ 0 ∷ []) 0 ≡ 1) × (counts_at 2 (0 ∷ 1 ∷ 0 ∷ []) 1 ≡ 1) × (counts_at 3 (0 ∷ 1 ∷ 0 ∷ []) 0 ≡ 2)
order-counts = (refl, refl, refl)

-- names told once, and rows of their numbers
abbrev records : List RingRecord
records = record_of.Name (97 ∷ []) ∷ record_of.Row (0 ∷ []) 3 ∷ record_of.Name (98 ∷ []) ∷ record_of.Row (0 ∷ 1 ∷ []) 2 ∷ record_of.Close close.NoMemory ∷ []

records-items : stands_for records ≡ told (record { stack = (97 ∷ []) ∷ []; weight = 3 } ∷ record { stack = (97 ∷ []) ∷ (98 ∷ []) ∷ []; weight = 2 } ∷ []) close.NoMemory
records-items = refl

records-names : names_told records ≡ (97 ∷ []) ∷ (98 ∷ []) ∷ []
records-names = refl
