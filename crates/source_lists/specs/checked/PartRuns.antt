-- What is found by reading a source in parts.
use Rattle.std.specs.Prelude.{ℕ, Bool, IfOk, IfSome, List, Option, Result, map}
use Rattle.std.specs.List.{AllZip}
use Rattle.std.specs.declared.alloc.AllocError.{AllocError}
use Rattle.stack_core.specs.Reading.{Rest}
use Rattle.ring_collect.specs.Collection.{AreGiven, seen_as_rest}
use Rattle.ring_collect.specs.checked.WholeRuns.{CanRun}
use Rattle.source_lists.specs.Summing.{IsFound}
use Rattle.source_lists.specs.checked.InputReaders.{input_gives, input_told}
use Rattle.source_lists.specs.checked.Parts.{AreCleanParts, ArePartsOf}
use Rattle.source_lists.specs.declared.input_readers.InputReader.{InputReader}
use Rattle.source_lists.specs.declared.part_runs.CleanParts.{CleanParts}

-- the parts of a source, and what was found of each
pub record ArePartsFound (is_summed : Bool) (whole : Option Rest) (found : List Rest) (ignored : ℕ) : Type 0 where
  pub parts : List Rest
  pub are_parts : ArePartsOf whole parts ignored
  pub are_found : AllZip (IsFound is_summed) parts found

-- readers of the parts of a source
pub record AreOfParts (whole : Option Rest) (readers : List InputReader) : Type 0 where
  pub can_run : CanRun input_told input_gives readers
  pub reads : (parts : List Rest) (ignored : ℕ) → AreGiven input_gives readers parts → AreCleanParts parts ignored → ArePartsOf whole parts ignored

-- parts of this source, if any are found
abbrev pub FindsPartsOf : Bool → Option Rest → Result (Option CleanParts) AllocError → Type 0
FindsPartsOf is_summed whole result = IfOk result (λ found. IfSome found (λ parts. ArePartsFound is_summed whole (map seen_as_rest parts.lists.items) parts.ignored))
