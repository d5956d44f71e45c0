-- Runs in which no gate is asked.
use Rattle.std.specs.List.{AllZip}
use Rattle.std.specs.Prelude.{◌≡◌, ◌<◌, ℕ, Bool, List, All, IfSome, Option, length, map}
use Rattle.stack_core.specs.Ledgers.{ListState}
use Rattle.ring_collect.specs.Collection.{seen_as_rest}
use Rattle.ring_collect.specs.declared.faults.CollectFault.{CollectFault}
use Rattle.ring_collect.specs.declared.faults.CollectFault.TheVariants.{OutOfMemory, NoThread, Unfinished}
use Rattle.run_options.specs.declared.formats.Format.{Format}
use Rattle.run_options.specs.declared.options.Options.{Options}
use Rattle.source_lists.specs.Runs.{IsReadOut}
use Rattle.source_lists.specs.Sources.{known_inputs, whole_rests}
use Rattle.source_lists.specs.Summing.{IsFound}
use Rattle.source_lists.specs.declared.run_faults.RunFault.{RunFault}
use Rattle.source_lists.specs.declared.run_faults.RunFault.TheVariants.{Collect, Unreadable}

-- a list for each source, which was read to its end: where the bytes are known, all that they stand for, as it was found
pub record ReadsOpen (options : Options) (is_summed : Bool) (inputs : List (Format × Option (List ℕ))) (lists : List ListState) : Type 0 where
  pub whole : IfSome (known_inputs inputs) (λ sources. AllZip (IsFound is_summed) (whole_rests options sources) (map seen_as_rest lists))
  pub count : length lists ≡ length inputs
  pub unstopped : All IsReadOut lists

-- a source that a fault names is one of so many
abbrev pub IsOfReaders : ℕ → CollectFault → Type 0
IsOfReaders count OutOfMemory = Unit {0}
IsOfReaders count NoThread = Unit {0}
IsOfReaders count (Unfinished source) = source < count

abbrev pub IsOfRun : ℕ → RunFault → Type 0
IsOfRun count (Collect fault) = IsOfReaders count fault
IsOfRun count (Unreadable source) = source < count
